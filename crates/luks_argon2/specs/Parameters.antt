-- The ranges of the parameters (RFC 9106, section 3.1), and how many blocks they make (section 3.2, step 2). Upper
-- bounds of 2 ^ 32 - 1 are those of the numbers' type.
use Rattle.std.specs.Prelude.{ℕ, ◌*◌, ◌/◌, ◌^◌, ◌==◌, ◌||◌, Option, Some, None, if◌then◌else◌, nat_le, nat_lt}
use Rattle.luks_argon2.specs.declared.parameters.ParameterFault.{ParameterFault}
use Rattle.luks_argon2.specs.declared.parameters.ParameterFault.TheVariants.{Passes, Lanes, Memory}

-- the first parameter that is out of range
abbrev pub parameter_fault : ℕ → ℕ → ℕ → Option ParameterFault
parameter_fault passes memory lanes =
    if passes == 0 then Some Passes
    else if (lanes == 0) || nat_le (2 ^ 24) lanes then Some Lanes
    else if nat_lt memory (8 * lanes) then Some Memory
    else None

-- m' = 4 * p * floor (m / 4p): p lanes of 4 * floor (m / 4p) blocks
abbrev pub memory_blocks : ℕ → ℕ → ℕ
memory_blocks memory lanes = lanes * (4 * (memory / (4 * lanes)))

-- t * m'
abbrev pub filled_blocks : ℕ → ℕ → ℕ → ℕ
filled_blocks passes memory lanes = passes * memory_blocks memory lanes
