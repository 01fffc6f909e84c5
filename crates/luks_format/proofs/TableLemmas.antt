-- Tables in which the first line that holds decides, and lists by ascending number.
use Rattle.std.proofs.lemmas.Grind.{common_steps}
use Rattle.std.proofs.Common.{◌≡◌, ◌∙◌, ℕ, zero, suc, ◌+◌, ◌<◌, ◌≤◌, ap, sym, refl, Bool, true, false, List, [], ◌∷◌}
use Rattle.std.proofs.Common.{◌++◌, Option, Some, None, IsSome, ◌⊎◌, inl, inr, subst, length, length-append, add-one}
use Rattle.std.proofs.Common.{arith}
use Rattle.std.specs.List.{AllByRecursion, cons_option}
use Rattle.std.proofs.lemmas.Bool.{cases_lt}
use Rattle.std.proofs.lemmas.List.{append-nil}
use Rattle.std.proofs.lemmas.Option.{none-some}
use Rattle.luks_format.specs.Table.{first_match, ascending}

-- if a table has no match, none of its lines holds
pub none_holds : {T : Type 0} (lines : List (Bool × T)) → first_match lines ≡ None
    → AllByRecursion (λ (line : Bool × T). line.0 ≡ false) lines
none_holds [] none = tt
none_holds ((true, name) ∷ lines) none = absurd (none-some name (sym none))
none_holds ((false, name) ∷ lines) none = (refl, none_holds lines none)

-- the list for no numbers is empty
pub ascending_none : {T : Type 0} (f : ℕ → Option T) → ascending f 0 ≡ []
unfolding ascending
ascending_none f = refl

-- the list with one more number
pub ascending_more : {T : Type 0} (f : ℕ → Option T) (n : ℕ)
    → ascending f (n + 1) ≡ ascending f n ++ cons_option (f n) []
unfolding ascending
ascending_more f n = rw add-one refl

-- a number without a value adds nothing to the list
pub ascending_not : {T : Type 0} (f : ℕ → Option T) (n : ℕ) → f n ≡ None → ascending f (n + 1) ≡ ascending f n
ascending_not f n none = grind (arith, common_steps, ascending_more, append-nil)

-- a number with a value adds this value to the list
pub ascending_one : {T : Type 0} (f : ℕ → Option T) (n : ℕ) (x : T) → f n ≡ Some x
    → ascending f (n + 1) ≡ ascending f n ++ x ∷ []
ascending_one f n x one = ascending_more f n ∙ ap (λ o. ascending f n ++ cons_option o []) one

-- the list is no longer than the count of numbers
pub length-ascending : {T : Type 0} (f : ℕ → Option T) (n : ℕ) → length (ascending f n) ≤ n
unfolding ascending
length-ascending f zero = omega arith
length-ascending {T = T} f (suc n) = of_one (f n) (length-ascending f n)
  where
    of_one : (o : Option T) → length (ascending f n) ≤ n → length (ascending f n ++ cons_option o []) ≤ suc n
    of_one None few = omega (arith, length-append (ascending f n) [])
    of_one (Some x) few = omega (arith, length-append (ascending f n) (x ∷ []))

-- a property of all elements of two lists holds for all elements of both together
pub AllByRecursion-append : {X : Type 0} (P : X → Type 0) (xs ys : List X) → AllByRecursion P xs → AllByRecursion P ys
    → AllByRecursion P (xs ++ ys)
AllByRecursion-append P xs ys all others = grind (arith, common_steps)

-- a property of each value holds for all elements of the list
pub All-ascending : {X : Type 0} (P : X → Type 0) (f : ℕ → Option X) (n : ℕ) → ((i : ℕ) (x : X) → f i ≡ Some x → P x)
    → AllByRecursion P (ascending f n)
unfolding ascending
All-ascending P f zero each = tt
All-ascending {X = X} P f (suc n) each =
    AllByRecursion-append P (ascending f n) (cons_option (f n) []) (All-ascending P f n each) (of_one (f n) refl)
  where
    of_one : (o : Option X) → f n ≡ o → AllByRecursion P (cons_option o [])
    of_one None is = tt
    of_one (Some x) is = (each n x is, tt)

-- the list is not empty if one of the numbers has a value
pub some_ascending : {X : Type 0} (f : ℕ → Option X) (i n : ℕ) → IsSome (f i) → i < n → 1 ≤ length (ascending f n)
unfolding ascending
some_ascending f i zero some below = absurd (omega arith)
some_ascending {X = X} f i (suc n) some below = of_place (cases_lt i n) (some_ascending f i n some)
  where
    of_last : (o : Option X) → IsSome o → 1 ≤ length (ascending f n ++ cons_option o [])
    of_last None is = absurd cc
    of_last (Some x) is = omega (arith, length-append (ascending f n) (x ∷ []))

    of_place : (i < n) ⊎ (n ≤ i) → (i < n → 1 ≤ length (ascending f n))
        → 1 ≤ length (ascending f n ++ cons_option (f n) [])
    of_place (inl earlier) before = omega (arith, length-append (ascending f n) (cons_option (f n) []), before earlier)
    of_place (inr last) before = let same : i ≡ n = omega arith in of_last (f n) (subst (λ k. IsSome (f k)) same some)
