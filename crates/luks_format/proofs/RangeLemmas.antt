-- The bounds of numbers that pass a test, and those of the values that are made only if it holds.
use Rattle.std.proofs.lemmas.Grind.{common_steps}
use Rattle.std.proofs.Common.{◌≡◌, ℕ, ◌%◌, ◌≤◌, true, Option, length, arith}
use Rattle.std.proofs.lemmas.Bool.Decides.{nat_tests}
use Rattle.std.proofs.lemmas.Bool.{and_parts, eqb-true}
use Rattle.std.proofs.lemmas.Option.{none-some, same_Some}
use Rattle.std.specs.Option.{ForSome}
use Rattle.luks_format.specs.Area.{max_loaded_len}
use Rattle.luks_format.specs.Derivation.{IsDerivable, is_derivable, is_in_range, lanes_out_of_range}
use Rattle.luks_format.specs.Derivation.{memory_out_of_range, passes_out_of_range}
use Rattle.luks_format.specs.Rule.{is_digest, iterations_out_of_range}
use Rattle.luks_format.specs.Rule.{stripes_out_of_range}
use Rattle.luks_format.specs.SectorSize.{bytes_of, has_whole_sectors}
use Rattle.luks_format.specs.Slot.{material_end}
use Rattle.luks_format.specs.declared.derivation.Derivation.{Derivation}
use Rattle.luks_format.specs.declared.derivation.Derivation.TheVariants.{Pbkdf2, Argon2}
use Rattle.luks_format.specs.declared.digest.KeyDigest.{KeyDigest}
use Rattle.luks_format.specs.declared.sector_size.SectorSize.{SectorSize}
use Rattle.luks_format.specs.declared.segment.Segment.{Segment}
use Rattle.luks_format.specs.declared.slot.Slot.{Slot}

pub derivable : (derivation : Derivation) → is_derivable derivation ≡ true → IsDerivable derivation
unfolding is_derivable iterations_out_of_range passes_out_of_range lanes_out_of_range memory_out_of_range
derivable (Pbkdf2 hash iterations) is = record { some = grind (arith, nat_tests); few = grind (arith, nat_tests) }
derivable (Argon2 parameters) is = record {
  some_passes = grind (arith, nat_tests);
  few_passes = grind (arith, nat_tests);
  some_lanes = grind (arith, nat_tests);
  few_lanes = grind (arith, nat_tests);
  enough = grind (arith, nat_tests);
  fits = grind (arith, nat_tests);
}

-- the bounds of a slot's numbers that are in range
pub record InRange (how : Derivation) (stripes end : ℕ) : Type 0 where
  pub derivation : IsDerivable how
  pub some_stripes : 1 ≤ stripes
  pub few_stripes : stripes ≤ 4000
  pub loadable : end ≤ max_loaded_len

pub in_range : (derivation : Derivation) (stripes end : ℕ) → is_in_range derivation stripes end ≡ true
    → InRange derivation stripes end
unfolding is_in_range stripes_out_of_range
in_range derivation stripes end is = grind (arith, common_steps, derivable, and_parts)

-- the numbers of every slot that can be opened are in range
pub slot_range : (slot : Slot) → InRange slot.parts.derivation slot.parts.stripes (material_end slot.parts)
slot_range slot = in_range slot.parts.derivation slot.parts.stripes (material_end slot.parts) slot.in_range

-- the bounds of the numbers of a digest that can be used
pub record IsDigest (iterations len : ℕ) : Type 0 where
  pub some_iterations : 1 ≤ iterations
  pub few_iterations : iterations ≤ 4294967295
  pub enough : 20 ≤ len
  pub few : len ≤ 64

pub usable_digest : (iterations len : ℕ) → is_digest iterations len ≡ true → IsDigest iterations len
unfolding is_digest iterations_out_of_range
usable_digest iterations len is = record {
  some_iterations = grind (arith, nat_tests);
  few_iterations = grind (arith, nat_tests);
  enough = grind (arith, nat_tests);
  few = grind (arith, nat_tests);
}

-- every digest that identifies a volume key can be used
pub digest_range : (digest : KeyDigest) → IsDigest digest.parts.iterations (length digest.parts.value)
digest_range digest = usable_digest digest.parts.iterations (length digest.parts.value) digest.usable

-- what `has_whole_sectors` tests, as a type
abbrev pub HasWholeSectors : Option ℕ → SectorSize → Type 0
HasWholeSectors size sector_size = ForSome size (λ bytes. bytes % bytes_of sector_size ≡ 0)

pub whole_by_test : (size : Option ℕ) (sector_size : SectorSize) → has_whole_sectors size sector_size ≡ true
    → HasWholeSectors size sector_size
whole_by_test size sector_size is = grind (arith, common_steps, none-some, same_Some, eqb-true)

-- the length of every segment is whole sectors, if it is fixed
pub segment_whole : (segment : Segment) → HasWholeSectors segment.size segment.sector_size
segment_whole segment = whole_by_test segment.size segment.sector_size segment.whole_sectors
