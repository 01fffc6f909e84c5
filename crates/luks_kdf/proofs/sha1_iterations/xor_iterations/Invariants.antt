use Rattle.std.proofs.Common.{◌≡◌, ℕ, ◌<◌}
use Rattle.sha1.specs.Sha1.{compress}
use Rattle.luks_kdf.specs.Chains.{iterations_xor, iterations}
use Rattle.luks_kdf.specs.LaneWords.{after_digest, lane}
use Rattle.luks_kdf.proofs.sha1_iterations.xor_iterations.Given as goal

-- in each lane, `u` is the digest after `counter` iterations, and `t` is `before` with as many digests XORed into it
abbrev pub invariant-iterations : goal.invariant-iterations
invariant-iterations g l = (j : ℕ) → j < g.row.N
    → (lane j l.u ≡ iterations (after_digest compress 5) (lane j l.inner) (lane j l.outer) (lane j l.last) l.counter)
    × (lane j l.t ≡ iterations_xor 5 (after_digest compress 5) (lane j l.inner) (lane j l.outer) (lane j l.last)
    (lane j l.before) l.counter)
