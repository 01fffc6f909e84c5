use Rattle.std.proofs.Common.{◌≡◌}
use Rattle.luks_kdf.specs.Chains.{iterations_xor, iterations}
use Rattle.luks_kdf.specs.Pairs.{after_digest512}
use Rattle.luks_kdf.proofs.sha512_iterations.xor_iterations.Given as goal

-- `u` is the digest after `counter` iterations, and `t` is `before` with as many digests XORed into it
abbrev pub invariant-iterations : goal.invariant-iterations
invariant-iterations g l = (l.u ≡ iterations (after_digest512 g.row.WORDS) l.inner l.outer l.last l.counter)
    × (l.t ≡ iterations_xor 8 (after_digest512 g.row.WORDS) l.inner l.outer l.last l.before l.counter)
