use Rattle.std.proofs.Common.{refl, sym}
use Rattle.sha2.proofs.Schedule256.{rounds_first}
use Rattle.luks_kdf.specs.LaneWords.{lane}
use Rattle.luks_kdf.proofs.LaneLemmas.{window256_of_block, word_of_lane}
use Rattle.luks_kdf.proofs.sha256_block.first_step.Goals as goal

pub returns : goal.returns
returns c = λ j b h in_lane block held. record {
  variables = c.round.ensures.twice j in_lane held.variables;
  rounds = rounds_first b h (lane j c.args.w.now) (lane j c.args.v) c.args.t _ _ _ c.requires
      (window256_of_block j c.args.w.now b block)
      held.rounds refl (sym (word_of_lane j c.args.w.now c.args.t)) (c.round.ensures.value j in_lane held.variables);
}
