-- How keys are derived from passphrases: the ranges of the numbers (for Argon2: RFC 9106, section 3.1), and what
-- deriving may cost.
use Rattle.std.specs.Prelude.{ℕ, ◌*◌, ◌^◌, ◌<◌, ◌≤◌, ◌==◌, ◌&&◌, ◌||◌, not, nat_le, nat_lt, Bool, true, [], ◌∷◌, Option}
use Rattle.std.specs.Prelude.{Some, None, if◌then◌else◌, is_some, option_map}
use Rattle.luks_format.specs.Area.{max_loaded_len}
use Rattle.luks_format.specs.Rule.{exceeds, iterations_out_of_range, stripes_out_of_range}
use Rattle.luks_format.specs.Table.{first_match}
use Rattle.luks_format.specs.declared.derivation.Argon2Limits.{Argon2Limits}
use Rattle.luks_format.specs.declared.derivation.Argon2Parameters.{Argon2Parameters}
use Rattle.luks_format.specs.declared.derivation.Derivation.{Derivation}
use Rattle.luks_format.specs.declared.derivation.Derivation.TheVariants.{Pbkdf2, Argon2}
use Rattle.luks_format.specs.declared.derivation.Limits.{Limits}
use Rattle.luks_format.specs.declared.refusal.SkipReason.{SkipReason}
use Rattle.luks_format.specs.declared.refusal.SkipReason.TheVariants.{Iterations, Argon2Time, Argon2Cpus}
use Rattle.luks_format.specs.declared.refusal.SkipReason.TheVariants.{Argon2Memory, Argon2MemoryLimit}
use Rattle.luks_format.specs.declared.refusal.SkipReason.TheVariants.{Argon2FillLimit}

-- ---- ranges

-- the number of passes is not 1 to 2^32 - 1
unfoldable pub passes_out_of_range : ℕ → Bool
passes_out_of_range passes = passes == 0 || nat_le (2 ^ 32) passes

-- the number of lanes is not 1 to 2^24 - 1
unfoldable pub lanes_out_of_range : ℕ → Bool
lanes_out_of_range lanes = lanes == 0 || nat_le (2 ^ 24) lanes

-- the memory size in KiB is less than 8 for each lane, or it is 2^32 or more
unfoldable pub memory_out_of_range : ℕ → ℕ → Bool
memory_out_of_range memory lanes = nat_lt memory (8 * lanes) || nat_le (2 ^ 32) memory

-- the numbers are in range
unfoldable pub is_derivable : Derivation → Bool
is_derivable (Pbkdf2 hash iterations) = not (iterations_out_of_range None iterations)
is_derivable (Argon2 parameters) =
    not (passes_out_of_range parameters.passes) && not (lanes_out_of_range parameters.lanes)
    && not (memory_out_of_range parameters.memory_kib parameters.lanes)

-- the numbers of a slot are in range: those of its derivation, its stripes and where its key material ends
unfoldable pub is_in_range : Derivation → ℕ → ℕ → Bool
is_in_range derivation stripes end = is_derivable derivation && not (stripes_out_of_range stripes)
    && not (nat_lt max_loaded_len end)

-- the bounds of the iterations of PBKDF2
pub record AreIterations (iterations : ℕ) : Type 0 where
  pub some : 1 ≤ iterations
  pub few : iterations ≤ 4294967295

-- the bounds of the parameters of Argon2
pub record AreParameters (parameters : Argon2Parameters) : Type 0 where
  pub some_passes : 1 ≤ parameters.passes
  pub few_passes : parameters.passes < 2 ^ 32
  pub some_lanes : 1 ≤ parameters.lanes
  pub few_lanes : parameters.lanes < 2 ^ 24
  pub enough : 8 * parameters.lanes ≤ parameters.memory_kib
  pub fits : parameters.memory_kib < 2 ^ 32

-- the bounds of the numbers of a derivation, as a type
abbrev pub IsDerivable : Derivation → Type 0
IsDerivable (Pbkdf2 hash iterations) = AreIterations iterations
IsDerivable (Argon2 parameters) = AreParameters parameters

-- the hash function is known, or none is needed
abbrev pub has_known_hash : Derivation → Bool
has_known_hash (Pbkdf2 hash iterations) = is_some hash
has_known_hash (Argon2 parameters) = true

-- ---- limits

-- a key may be derived in this way: by PBKDF2 if the hash function is known, by Argon2 if there are limits for it
abbrev pub is_allowed : Limits → Derivation → Bool
is_allowed limits (Pbkdf2 hash iterations) = is_some hash
is_allowed limits (Argon2 parameters) = is_some limits.argon2

-- this limit on iterations, and no Argon2
abbrev pub without_argon2 : Option ℕ → Limits
without_argon2 limit = record { max_iterations = limit; argon2 = None }

-- the largest memory size in KiB
abbrev pub memory_limit : Option Argon2Limits → Option ℕ
memory_limit limits = option_map (λ l. l.memory_kib) limits

-- the most memory that all passes fill, in KiB
abbrev pub fill_limit : Option Argon2Limits → Option ℕ
fill_limit limits = option_map (λ l. l.fill_kib) limits

-- the memory that all passes fill, in KiB
abbrev pub fill_of : Argon2Parameters → ℕ
fill_of parameters = parameters.passes * parameters.memory_kib

-- the first reason not to derive a key by Argon2 with these parameters
unfoldable pub argon2_refusal : Option Argon2Limits → Argon2Parameters → Option SkipReason
argon2_refusal limits parameters = first_match (
    (passes_out_of_range parameters.passes, Argon2Time)
    ∷ (lanes_out_of_range parameters.lanes, Argon2Cpus)
    ∷ (memory_out_of_range parameters.memory_kib parameters.lanes, Argon2Memory)
    ∷ (exceeds (memory_limit limits) parameters.memory_kib, Argon2MemoryLimit parameters.memory_kib)
    ∷ (exceeds (fill_limit limits) (fill_of parameters), Argon2FillLimit (fill_of parameters))
    ∷ [])

-- the first reason not to derive a key in this way: a number that is out of range, or a cost above its limit. Whether
-- Argon2 is used at all is not asked here
unfoldable pub derivation_refusal : Limits → Derivation → Option SkipReason
derivation_refusal limits (Pbkdf2 hash iterations) =
    if iterations_out_of_range limits.max_iterations iterations then Some Iterations else None
derivation_refusal limits (Argon2 parameters) = argon2_refusal limits.argon2 parameters
