use Rattle.std.proofs.Common.{◌≡◌, ◌*◌, ◌++◌, drop, length}
use Rattle.luks_kdf.specs.Bytes.{joined}
use Rattle.luks_kdf.proofs.BytesLemmas.{cut}
use Rattle.luks_kdf.proofs.Pbkdf2Lemmas.{group_at, block_t}
use Rattle.luks_kdf.proofs.lanes.derive_in_lanes.Given as goal

-- the groups of blocks before number i are filled
abbrev pub invariant-fill : goal.invariant-fill
invariant-fill g l =
    let h = g.E.Engine.function in
    let w = g.E.Lanes.WIDTH in
    l.out ≡ joined (cut (group_at (block_t h l.fn.pass l.salt l.iterations) w) l.group (length l.fn.out)) l.i
    ++ drop (l.i * l.group) l.fn.out
