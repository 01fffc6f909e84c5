use Rattle.std.proofs.Common.{◌≡◌, ◌+◌, ◌<◌, List, ℕ}
use Rattle.luks_kdf.specs.Chains.{digest_at}
use Rattle.luks_kdf.specs.Hash.{digest_len}
use Rattle.luks_kdf.specs.Hmac.{inner_block, outer_block}
use Rattle.luks_kdf.specs.Pbkdf2.{u_of}
use Rattle.luks_kdf.proofs.lanes.first_iterations.Given as goal

-- the first U of each block before number k is written
abbrev pub invariant-first : goal.invariant-first
invariant-first g l =
    (pass : List ℕ) → g.E.Engine.holds l.keyed.inner (inner_block g.E.Engine.function pass)
    → g.E.Engine.holds l.keyed.outer (outer_block g.E.Engine.function pass) → (i : ℕ) → i < l.k
    → digest_at (digest_len g.E.Engine.function) i l.u ≡ u_of g.E.Engine.function pass l.salt (l.number + i) 1
