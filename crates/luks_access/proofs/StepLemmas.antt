-- Steps that are done one after the other.
use Rattle.std.proofs.Common.{◌≡◌, ℕ, ◌+◌, ◌-◌, ◌*◌, ◌/◌, ◌%◌, ◌<◌, ◌≤◌, ◌++◌}
use Rattle.std.proofs.Common.{List, [], ◌∷◌, None, false, length, take, drop}
use Rattle.std.proofs.Common.{arith, ap, refl, sym, ◌∙◌, inl, inr}
use Rattle.std.proofs.Math.Nat.{add-mul-mod_self_right, mod-add-div', mod-eq_of_lt}
use Rattle.std.proofs.Math.Seq.{take-add}
use Rattle.std.proofs.lemmas.List.{drop-drop}
use Rattle.luks_format.proofs.FieldLemmas.{at_prefix}
use Rattle.luks_cipher.specs.Sector.{Cipher}
use Rattle.luks_format.specs.declared.segment.Segment.{Segment}
use Rattle.luks_payload.specs.Plain.{plain_of, sector_len}
use Rattle.luks_access.proofs.RangeLemmas.{part_of_plain, starts, step_stored}
use Rattle.luks_access.specs.Sectors.{plain_at, plaintext_len}
use Rattle.luks_access.specs.Steps.{AreSteps, IsDoneOver, IsStep, StepDone, given_by}

module _ (s : Segment) (cipher : Cipher) (image : List ℕ) where
  -- what one step gives are the next bytes of the plaintext
  given_read : (offset count : ℕ) (done : StepDone) → IsStep s (plaintext_len s image) offset count done.step
      → IsDoneOver s cipher image done → done.given ≡ plain_at s cipher image offset done.step.count
  given_read offset count done is over =
      let step = done.step in
      let plain = plain_of s cipher image in
      let start = step.first_sector * sector_len s in
      let stored = step_stored s cipher (plaintext_len s image) None (λ _. false) offset count step is image done.stored
      refl over.long over.at in
      let part = part_of_plain s cipher image step.first_sector done.stored
      (ap (λ n. n % sector_len s) over.long ∙ is.whole) stored in
      let begins = starts s cipher (plaintext_len s image) None (λ _. false) offset count step is in
      over.gives ∙ (ap (λ l. take step.count (drop step.skip l)) part
      ∙ (at_prefix step.skip step.count (length done.stored) (drop start plain) (omega (arith, is.within, over.long))
      ∙ ap (take step.count) (drop-drop step.skip start plain ∙ ap (λ k. drop k plain) (omega (arith, begins)))))

  pub steps_read : (offset count : ℕ) (steps : List StepDone)
      → AreSteps s cipher image (plaintext_len s image) offset count steps
      → given_by steps ≡ plain_at s cipher image offset count
  steps_read offset count [] are = rw are refl
  steps_read offset count (done ∷ rest) (is, over, after) =
      let n = done.step.count in
      let plain = plain_of s cipher image in
      let all : n + (count - n) ≡ count = omega (arith, is.few) in
      (λ i. given_read offset count done is over i ++ steps_read (offset + n) (count - n) rest after i)
      ∙ (ap (λ l. take n (drop offset plain) ++ take (count - n) l)
      (ap (λ k. drop k plain) (omega arith) ∙ sym (drop-drop n offset plain))
      ∙ (sym (take-add n (count - n) (drop offset plain)) ∙ ap (λ k. take k (drop offset plain)) all))

-- ---- how many steps a range has

-- from a multiple of z on, n bytes reach a multiple of z as n bytes from the start do
from_multiple : (offset n z : ℕ) → offset % z ≡ 0 → (offset + n) % z ≡ n % z
from_multiple offset n z start =
    let whole = mod-add-div' offset z in
    ap (λ k. k % z) (omega (arith, whole, start)) ∙ add-mul-mod_self_right n (offset / z) z

module _ (s : Segment) (cipher : Cipher) (image : List ℕ) (len : ℕ) where
  -- if no byte is left, no step is
  none_left : (offset count : ℕ) (steps : List StepDone) → AreSteps s cipher image len offset count steps → count ≡ 0
      → length steps ≡ 0
  none_left offset count [] are none = refl
  none_left offset count (done ∷ rest) (is, over, after) none = absurd (omega (arith, is.some, is.few, none))

  -- if less than a sector is left, from the start of one on, there is one step
  one_left : (offset count : ℕ) (steps : List StepDone) → AreSteps s cipher image len offset count steps
      → offset % sector_len s ≡ 0 → count < sector_len s → length steps ≤ 1
  one_left offset count [] are start few = omega arith
  one_left offset count (done ∷ rest) (is, over, after) start few =
      let n = done.step.count in
      let small : n % sector_len s ≡ n = mod-eq_of_lt (omega (arith, is.few, few)) in
      let reached = from_multiple offset n (sector_len s) start in
      let all : n ≡ count = elim is.last [
        | inl all ↦ all
        | inr whole ↦ absurd (omega (arith, is.some, small, reached, whole))
      ] in
      let none = none_left (offset + n) (count - n) rest after (omega (arith, all)) in
      omega (arith, none)

  -- from the start of a sector on, there are at most two: the whole sectors, and the part of the last one
  two_left : (offset count : ℕ) (steps : List StepDone) → AreSteps s cipher image len offset count steps
      → offset % sector_len s ≡ 0 → length steps ≤ 2
  two_left offset count [] are start = omega arith
  two_left offset count (done ∷ rest) (is, over, after) start =
      let n = done.step.count in
      let few = is.most (is.skip ∙ start) in
      elim is.last [
        | inl all ↦ (let none = none_left (offset + n) (count - n) rest after (omega (arith, all)) in
            omega (arith, none))
        | inr whole ↦ (let one = one_left (offset + n) (count - n) rest after whole
            (omega (arith, few, is.few, is.some))
            in omega (arith, one))
      ]

  -- before these, there may be a part of the first sector
  pub few_steps : (offset count : ℕ) (steps : List StepDone) → AreSteps s cipher image len offset count steps
      → length steps ≤ 3
  few_steps offset count [] are = omega arith
  few_steps offset count (done ∷ rest) (is, over, after) =
      let n = done.step.count in
      elim is.last [
        | inl all ↦ (let none = none_left (offset + n) (count - n) rest after (omega (arith, all)) in
            omega (arith, none))
        | inr whole ↦ (let two = two_left (offset + n) (count - n) rest after whole in omega (arith, two))
      ]
