use Rattle.std.proofs.Common.{◌∙◌, ap, arith}
use Rattle.luks_kdf.specs.Pbkdf2.{derived_key}
use Rattle.luks_kdf.proofs.BytesLemmas.{take_prefix}
use Rattle.luks_volume.proofs.pieces.derived_key.Goals as goal

pub pbkdf2-requires-clause-some : goal.pbkdf2-requires-clause-some
pbkdf2-requires-clause-some c = omega (arith, c.in_ok-key.ensures.len)

pub pbkdf2-requires-clause-capacity : goal.pbkdf2-requires-clause-capacity
pbkdf2-requires-clause-capacity c = omega (arith, c.in_ok-key.ensures.len)

pub returns : goal.returns
returns c =
    let len = c.in_ok-key.ensures.len in
    take_prefix _ _ _ (omega arith)
    ∙ c.pbkdf2.ensures.key
    ∙ ap (derived_key c.args.hash c.args.password.now c.args.salt.now c.args.iterations) (omega (arith, len))
