-- Which bytes of an image cannot be read, if a range of its plaintext is not read, or the image is not opened.
use Rattle.std.proofs.Common.{◌≡◌, ℕ, ◌+◌, ◌-◌, ◌*◌, ◌/◌, ◌%◌, ◌<◌, ◌≤◌, Bool, arith}
use Rattle.std.proofs.Common.{◌∙◌, List, None, Option, Some, ap, false, inl, inr, refl, suc, sym, true, zero}
use Rattle.std.proofs.lemmas.Bool.{cases_lt}
use Rattle.std.specs.Prelude.{if◌then◌else◌}
use Rattle.luks_format.specs.Area.{max_loaded_len}
use Rattle.std.proofs.Math.Nat.{lt_of_mul-lt-mul_left, mod-add-div', mod-lt}
use Rattle.luks_format.proofs.SectorLemmas.{sector_blocks}
use Rattle.luks_format.specs.declared.segment.Segment.{Segment}
use Rattle.luks_payload.specs.Plain.{sector_len}
use Rattle.luks_access.specs.Sectors.{FailsAtStart, FailsInRange, FailsWithin, fails_at_start, fails_below}
use Rattle.luks_access.specs.Steps.{IsStep}
use Rattle.luks_access.specs.declared.step.ReadStep.{ReadStep}

-- fewer sectors, if they have fewer bytes
pub few_sectors : (first n all z : ℕ) → (first + n) * z < all * z + z → first + n ≤ all
few_sectors first n all z few =
    omega (arith, lt_of_mul-lt-mul_left z {m = first + n} {n = all + 1} (omega (arith, few)))

module _ (s : Segment) (fails : ℕ → Bool) where
  -- a part of a range fails only if the range does
  pub fails_more : (offset count offset' count' : ℕ) → offset' ≤ offset → offset + count ≤ offset' + count'
      → FailsInRange s fails offset count → FailsInRange s fails offset' count'
  fails_more offset count offset' count' from to (some, i, before, after, there) =
      (omega (arith, some, from, to), i, omega (arith, before, to), omega (arith, after, from), there)

  pub some_sector : 0 < sector_len s
  some_sector = omega (arith, (sector_blocks s.sector_size).long)

  -- if bytes of a step cannot be read, a sector that has a byte of the range fails
  pub step_fails : (len offset count : ℕ) (step : ReadStep) → IsStep s len offset count step
      → FailsWithin fails step.read_offset step.read_len → FailsInRange s fails offset step.count
  step_fails len offset count step is (at, from, before, bad) =
      let z = sector_len s in
      let p = at - s.offset in
      let i = p / z in
      let split : p % z + i * z ≡ p = mod-add-div' p z in
      let low : p % z < z = mod-lt p some_sector in
      let reached : step.first_sector ≤ i =
      omega (arith, few_sectors step.first_sector 0 i z (omega (arith, split, low, is.start, from))) in
      let has = is.each i reached (omega (arith, split, is.start, from, before)) in (
        is.some,
        i,
        has.before,
        has.after,
        (at, omega (arith, split, is.start, from), omega (arith, split, low, is.start, from), bad),
      )

module _ (fails : ℕ → Bool) where
  below_if : (n at : ℕ) → at < n → fails at ≡ true → fails_below fails n ≡ true
  unfolding fails_below
  below_if zero at before bad = absurd (omega (arith, before))
  below_if (suc n) at before bad = elim (cases_lt at n) [
    | inl less ↦ by (fails n) (below_if n at less bad)
    | inr last ↦
        let same : at ≡ n = omega (arith, before, last) in
        rw (ap fails (sym same) ∙ bad) refl
  ]
    where
      by : (b : Bool) → fails_below fails n ≡ true → (if b then true else fails_below fails n) ≡ true
      by true there = refl
      by false there = there

  below_only : (n : ℕ) → fails_below fails n ≡ true → FailsWithin fails 0 n
  unfolding fails_below
  below_only zero none = absurd cc
  below_only (suc n) some = by (fails n) refl (below_only n) some
    where
      by : (b : Bool) → fails n ≡ b → (fails_below fails n ≡ true → FailsWithin fails 0 n)
          → (if b then true else fails_below fails n) ≡ true → FailsWithin fails 0 (suc n)
      by true bad lower some = (n, omega arith, omega arith, bad)
      by false good lower some =
          let (at, from, before, bad) = lower some in (at, from, omega (arith, before), bad)

-- whether a read of the first bytes of an image may fail
pub at_start_if : (image : Option (List ℕ)) (fails : ℕ → Bool) → FailsAtStart image fails
    → fails_at_start image fails ≡ true
at_start_if None fails some = refl
at_start_if (Some known) fails some =
    let (at, from, before, bad) = some known refl in below_if fails max_loaded_len at (omega (arith, before)) bad

pub at_start_only : (image : Option (List ℕ)) (fails : ℕ → Bool) → fails_at_start image fails ≡ true
    → FailsAtStart image fails
at_start_only None fails some known there = absurd cc
at_start_only (Some known) fails some other there = below_only fails max_loaded_len some
