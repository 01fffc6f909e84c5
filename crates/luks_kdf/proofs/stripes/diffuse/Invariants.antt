use Rattle.std.proofs.Common.{◌≡◌, ◌*◌, ◌++◌, drop, length}
use Rattle.luks_kdf.specs.Bytes.{joined}
use Rattle.luks_kdf.proofs.BytesLemmas.{cut}
use Rattle.luks_kdf.proofs.StripesLemmas.{hashed_piece}
use Rattle.luks_kdf.proofs.stripes.diffuse.Given as goal

-- the pieces before number j are diffused, and those from it on are unchanged
abbrev pub invariant-pieces : goal.invariant-pieces
invariant-pieces l =
    l.block ≡ joined (cut (hashed_piece l.fn.hash l.fn.block) l.size (length l.fn.block)) l.j
    ++ drop (l.j * l.size) l.fn.block
