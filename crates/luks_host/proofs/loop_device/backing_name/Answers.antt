use Rattle.std.proofs.Common.{arith}
use Rattle.std.proofs.lemmas.Str.Pattern.{strip_suffix_char}
use Rattle.luks_host.proofs.loop_device.backing_name.Goals as goal

pub returns : goal.returns
returns c = strip_suffix_char 10 _ _ c.strip_suffix.ensures.cases (omega arith)
