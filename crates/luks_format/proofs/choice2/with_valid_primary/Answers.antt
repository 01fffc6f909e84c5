use Rattle.std.proofs.Common.{◌∙◌, sym, arith}
use Rattle.luks_format.proofs.Valid2Lemmas.{valid_range}
use Rattle.luks_format.proofs.choice2.with_valid_primary.Goals as goal

pub binary_at-requires : goal.binary_at-requires
binary_at-requires c = (let range = valid_range c.args.bytes.now 0 c.requires in omega (arith, range.0))

pub binary_at-requires-2 : goal.binary_at-requires-2
binary_at-requires-2 c = (let range = valid_range c.args.bytes.now 0 c.requires in omega (arith, range.0))

pub binary_at-requires-3 : goal.binary_at-requires-3
binary_at-requires-3 c =
    (let range = valid_range c.args.bytes.now c.size_in-size.result (sym c.is_valid.ensures ∙ c.if-not-is_valid.false)
    in range.0)
