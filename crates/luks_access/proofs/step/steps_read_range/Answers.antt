use Rattle.luks_access.proofs.StepLemmas.{few_steps, steps_read}
use Rattle.luks_access.specs.Sectors.{plaintext_len}
use Rattle.luks_access.proofs.step.steps_read_range.Goals as goal

pub returns : goal.returns
returns c = λ s cipher image offset count steps are. (
  steps_read s cipher image offset count steps are,
  few_steps s cipher image (plaintext_len s image) offset count steps are,
)
