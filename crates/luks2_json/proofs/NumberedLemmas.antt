-- Items of arrays, and members of objects whose names are numbers.
use Rattle.std.proofs.Common.{◌≡◌, ◌∙◌, ℕ, zero, suc, ◌+◌, ◌-◌, ◌<◌, ◌≤◌, Bool, true, false, List, [], ◌∷◌, ◌++◌, ap}
use Rattle.std.proofs.Common.{sym, refl, subst, arith, add-one, get_or, length, take, inl, inr}
use Rattle.std.specs.Prelude.{◌&&◌, ◌||◌, Option, Some, None, is_some, String, bytes_eq, decimal, string_bytes}
use Rattle.std.specs.declared.alloc.Global.{Global}
use Rattle.std.specs.List.{cons_option, list_all, list_any}
use Rattle.std.specs.Map.{keys_of}
use Rattle.std.specs.Option.{option_or}
use Rattle.std.specs.Map.Iter.{TakesFirst, deref}
use Rattle.std.proofs.lemmas.Iterator.{YieldsList}
use Rattle.std.proofs.lemmas.Iterator.Consumers.{YieldsList-from_shown}
use Rattle.std.proofs.lemmas.Bool.{cases_lt}
use Rattle.std.proofs.lemmas.List.{take_more}
use Rattle.luks2_json.specs.List.{items_listed, strings_among}
use Rattle.luks2_json.specs.Numbered.{any_name, is_number_below, lowest}
use Rattle.serde_json.specs.Data.{Data}
use Rattle.serde_json.specs.Find.{as_str}
use Rattle.serde_json.specs.View.{items_view, members_view, view}
use Rattle.serde_json.specs.declared.value.Value.{Value}

-- ---- items of arrays

pub list_all-items : (test : Data → Bool) (values : List Value)
    → list_all (λ value. test (view value)) values ≡ list_all test (items_listed (items_view values))
list_all-items test [] = refl
list_all-items test (value ∷ rest) = ap (λ others. test (view value) && others) (list_all-items test rest)

pub list_any-items : (test : Data → Bool) (values : List Value)
    → list_any (λ value. test (view value)) values ≡ list_any test (items_listed (items_view values))
list_any-items test [] = refl
list_any-items test (value ∷ rest) = ap (λ others. test (view value) || others) (list_any-items test rest)

cons_append : (text : Option (List ℕ)) (a b c : List (List ℕ)) → a ≡ b ++ c
    → cons_option text a ≡ cons_option text b ++ c
cons_append None a b c is = is
cons_append (Some text) a b c is = ap (λ others. text ∷ others) is

strings_among-append : (values : List Value) (value : Value)
    → strings_among (items_view (values ++ value ∷ []))
    ≡ strings_among (items_view values) ++ cons_option (as_str (view value)) []
strings_among-append [] value = refl
strings_among-append (first ∷ rest) value = cons_append (as_str (view first)) _ _ _ (strings_among-append rest value)

-- one more value adds its string, if it is one
pub strings_more : (values : List Value) (i : ℕ) (value : Value) → i < length values → value ≡ get_or values i value
    → strings_among (items_view (take (i + 1) values))
    ≡ strings_among (items_view (take i values)) ++ cons_option (as_str (view value)) []
strings_more values i value within is =
    let next : take (i + 1) values ≡ take i values ++ value ∷ [] =
    take_more values i value within ∙ ap (λ v. take i values ++ v ∷ []) (sym is) in
    rw next (strings_among-append (take i values) value)

-- ---- names that are numbers

pub none_below : (name : List ℕ) → is_number_below 0 name ≡ false
unfolding is_number_below
none_below name = refl

-- a name that is not a number below n is one below n + 1 exactly if it is n
pub number_next : (n : ℕ) (name : List ℕ) (is : Bool) → is_number_below n name ≡ false → bytes_eq name (decimal n) ≡ is
    → is_number_below (n + 1) name ≡ is
unfolding is_number_below
number_next n name is none here = rw (add-one, none, here) refl

-- a name that is a number below n is one below any higher number
pub number_stays : (n m : ℕ) (name : List ℕ) → n ≤ m → is_number_below n name ≡ true → is_number_below m name ≡ true
unfolding is_number_below
number_stays n zero name few is =
    let same : n ≡ 0 = omega arith in
    subst (λ k. is_number_below k name ≡ true) same is
number_stays n (suc m) name few is = elim (cases_lt n (suc m)) [
  | inl below ↦ rw (number_stays n m name (omega arith) is) refl
  | inr top ↦
      (let same : n ≡ suc m = omega arith in
      subst (λ k. is_number_below k name ≡ true) same is)
]

-- the keys of a map are the names of the object's members
pub list_any-names : (test : List ℕ → Bool) (entries : List (String Global × Value))
    → list_any (λ (key : String Global). test (string_bytes key)) (keys_of entries)
    ≡ any_name test (members_view entries)
list_any-names test [] = refl
list_any-names test (entry ∷ rest) = ap (λ others. test (string_bytes entry.0) || others) (list_any-names test rest)

-- the iterator over the keys of a map yields each of them in order
pub keys_given : {K : Type 0} (keys : List K) → YieldsList (TakesFirst (deref {X = K})) (deref {X = K}) keys keys
keys_given {K} keys = YieldsList-from_shown (TakesFirst (deref {X = K})) (deref {X = K}) (λ rest. rest)
    (λ s t ended. ap (λ (l : List K). length l) ended.0) (λ s x t consumed. consumed) keys

-- ---- the lowest number with a result

pub none_from_not_some : {T : Type 0} (o : Option T) → is_some o ≡ false → o ≡ None
none_from_not_some None is = refl
none_from_not_some (Some x) is = absurd cc

pub lowest_none : {T : Type 0} (f : ℕ → Option T) → lowest f 0 ≡ None
unfolding lowest
lowest_none f = refl

pub lowest_next : {T : Type 0} (f : ℕ → Option T) (n : ℕ) → lowest f n ≡ None → lowest f (n + 1) ≡ f n
unfolding lowest
lowest_next f n none = rw (add-one, none) refl

lowest_kept : {T : Type 0} (o p : Option T) → is_some o ≡ true → option_or o p ≡ o
lowest_kept None p is = absurd cc
lowest_kept (Some x) p is = refl

lowest_stays : {T : Type 0} (f : ℕ → Option T) (n k : ℕ) → is_some (lowest f n) ≡ true → lowest f (n + k) ≡ lowest f n
unfolding lowest
lowest_stays f n zero is = let same : n + 0 ≡ n = omega arith in ap (lowest f) same
lowest_stays f n (suc k) is =
    let same : n + suc k ≡ suc (n + k) = omega arith in
    let before = lowest_stays f n k is in
    ap (lowest f) same ∙ (lowest_kept (lowest f (n + k)) (f (n + k)) (ap is_some before ∙ is) ∙ before)

-- if no number below n has a result and n has one, that is the lowest one's result below any higher bound
pub lowest_found : {T : Type 0} (f : ℕ → Option T) (n m : ℕ) → lowest f n ≡ None → n < m → is_some (f n) ≡ true
    → lowest f m ≡ f n
lowest_found f n m none below is =
    let next = lowest_next f n none in
    let same : n + 1 + (m - (n + 1)) ≡ m = omega arith in
    ap (lowest f) (sym same) ∙ (lowest_stays f (n + 1) (m - (n + 1)) (ap is_some next ∙ is) ∙ next)
