use Rattle.std.proofs.Common.{◌≡◌}
use Rattle.luks_argon2.specs.Blake2b.{rounds, working_vector}
use Rattle.luks_argon2.proofs.blake2b_compression.compress.Given as goal

abbrev pub invariant-rounds : goal.invariant-rounds
invariant-rounds l = l.v ≡ rounds l.m (working_vector l.h l.count l.last) l.r
