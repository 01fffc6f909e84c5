use Rattle.std.proofs.Common.{[], ap}
use Rattle.std.specs.Prelude.{slice_index_or, slice_set}
use Rattle.luks_argon2.proofs.BlockLemmas.{kept_mixed}
use Rattle.luks_argon2.proofs.compression.compress_into.Goals as goal

pub returns : goal.returns
returns c =
    let m = c.args.memory.now in
    rw (
      c.finish.ensures,
      c.permute_columns.ensures,
      c.permute_rows.ensures,
      c.combine.ensures.xored,
      c.combine.ensures.kept,
    )
    (ap (slice_set m c.args.at) (kept_mixed c.args.again (slice_index_or m c.args.at [])
    (slice_index_or m c.args.previous []) (slice_index_or m c.args.reference [])))
