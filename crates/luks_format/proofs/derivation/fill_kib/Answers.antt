use Rattle.std.proofs.Common.{◌^◌, arith}
use Rattle.std.proofs.lemmas.Nat.{mul-lt}
use Rattle.luks_format.proofs.derivation.fill_kib.Goals as goal

-- the product of two numbers below 2^32 is below 2^64
pub overflow_mul-result : goal.overflow_mul-result
overflow_mul-result c =
    omega (
      arith,
      mul-lt c.args.parameters.passes c.args.parameters.memory_kib (2 ^ 32) (2 ^ 32) c.requires.passes
          c.requires.memory,
    )
