-- Key slots with distinct numbers are found by their numbers; and properties of what is found or mapped.
use Rattle.std.proofs.Common.{◌≡◌, ◌≢◌, ◌==◌, ℕ, zero, suc, Bool, true, false, cond, List, [], ◌∷◌, All, find, Some}
use Rattle.std.proofs.Common.{slice_index_or, sym, refl, arith, eq-eqb, ne_eqb, Option, None}
use Rattle.std.proofs.lemmas.List.Elements.{All-head, All-tail}
use Rattle.luks_volume.specs.Ranges.{AreDistinct}
use Rattle.std.specs.Option.{option_map_or}

-- if `P` holds of `None` and of each slot that fits, it holds of what is found among slots that fit
pub found_has : {S : Type 0} (Fits : S → Type 0) (P : Option S → Type 0) (test : S → Bool) (slots : List S)
    → All Fits slots → P None → ((slot : S) → Fits slot → P (Some slot)) → P (find test slots)
found_has Fits P test [] all of_none each = of_none
found_has Fits P test (first ∷ slots) all of_none each =
    by (test first) (found_has Fits P test slots (All-tail Fits first slots all) of_none each)
  where
    by : (here : Bool) → P (find test slots) → P (cond here (Some first) (find test slots))
    by true later = each first (All-head Fits first slots all)
    by false later = later

-- each slot is found by its number
pub found_by_number : {S : Type 0} (number : S → ℕ) (slots : List S) → AreDistinct number slots
    → All (λ slot. find (λ other. number other == number slot) slots ≡ Some slot) slots
found_by_number number [] distinct k d below = absurd (omega arith)
found_by_number number (slot ∷ slots) distinct zero d below =
    rw (eq-eqb (number slot) (number slot) refl) refl
found_by_number number (slot ∷ slots) distinct (suc k) d below =
    let other = slice_index_or slots k d in
    let differ : number slot ≢ number other = λ same. distinct.0 k d (omega arith) (sym same) in
    rw (ne_eqb (number slot) (number other) differ) (found_by_number number slots distinct.1 k d (omega arith))

-- if `P` holds of `other` and of each value of `f`, it holds of `option_map_or f o other`
pub map_or_has : {A B : Type 0} (P : B → Type 0) (f : A → B) (other : B) (o : Option A) → P other
    → ((x : A) → P (f x)) → P (option_map_or f o other)
map_or_has P f other None of_other each = of_other
map_or_has P f other (Some x) of_other each = each x
