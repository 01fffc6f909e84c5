use Rattle.std.proofs.Common.{◌≡◌, ℕ, ◌+◌, arith, subst, ◌∙◌}
use Rattle.std.proofs.Math.ListN.{length-set}
use Rattle.luks_aes.specs.Aes.{key_expansion, rounds_of}
use Rattle.luks_aes.specs.RoundKeys.{HasInvMixedKeys}
use Rattle.luks_aes.proofs.RoundLemmas.{keys_more}
use Rattle.luks_aes.proofs.batch.round_keys.fill.Goals as goal

pub loop-n-preserved : goal.loop-n-preserved
loop-n-preserved c =
    let before = c.loop-n.invariant in
    record {
      long = length-set c.loop-n.round_keys c.loop-n.n c.inv_mixed_round_key.result ∙ before.long;
      there = keys_more _ _ c.loop-n.n _ before.there (omega arith) c.inv_mixed_round_key.ensures;
    }

pub returns : goal.returns
returns c =
    let end : c.loop-n.n + 1 ≡ rounds_of c.args.key.now = omega arith in
    subst (λ (x : ℕ). HasInvMixedKeys (key_expansion c.args.key.now) c.loop-n.round_keys x) end c.loop-n.invariant.there
