use Rattle.std.proofs.Common.{◌≡◌, ◌+◌, ◌-◌, ◌*◌, ◌∙◌, List, [], ℕ, ap, arith, sym}
use Rattle.std.specs.Prelude.{slice_index_or}
use Rattle.luks_argon2.specs.Block.{xor_blocks}
use Rattle.luks_argon2.proofs.TagLemmas.{last_next}
use Rattle.luks_argon2.proofs.tag.last_column_xor.Goals as goal

pub lanes-preserved : goal.lanes-preserved
lanes-preserved c =
    let q = c.args.lane_len in
    let m = c.args.memory.now in
    let n = c.lanes.lane in
    let same : n - 1 + 1 ≡ n = omega arith in
    let after : n + 1 - 1 ≡ n = omega arith in
    let next = last_next q m (n - 1) in
    rw after (c.xor_into.ensures
    ∙ (ap (λ (x : List (List ℕ)). xor_blocks x (slice_index_or m (n * q + (q - 1)) [])) c.lanes.invariant
    ∙ rw same at (sym next)))

pub returns : goal.returns
returns c =
    let done : c.lanes.lane ≡ c.args.lanes = omega arith in
    rw done at c.lanes.invariant
