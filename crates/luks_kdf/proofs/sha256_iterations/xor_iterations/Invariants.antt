use Rattle.std.proofs.Common.{◌≡◌, ℕ, ◌<◌}
use Rattle.sha2.specs.Sha256.{compress}
use Rattle.luks_kdf.specs.Chains.{iterations_xor, iterations}
use Rattle.luks_kdf.specs.LaneWords.{AllTwice, after_digest, lane}
use Rattle.luks_kdf.proofs.sha256_iterations.xor_iterations.Given as goal

-- in each lane, `u` is the digest after `counter` iterations, and `t` is `before` with as many digests XORed into it
abbrev pub invariant-iterations : goal.invariant-iterations
invariant-iterations l = (j : ℕ) → j < 2 → AllTwice j l.inner → AllTwice j l.outer → AllTwice j l.last
    → AllTwice j l.u
    × (lane j l.u ≡ iterations (after_digest compress 8) (lane j l.inner) (lane j l.outer) (lane j l.last) l.counter)
    × (lane j l.t ≡ iterations_xor 8 (after_digest compress 8) (lane j l.inner) (lane j l.outer) (lane j l.last)
    (lane j l.before) l.counter)
