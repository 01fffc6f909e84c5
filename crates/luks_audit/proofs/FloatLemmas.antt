-- Values without floats stay so when a value without floats is added.
use Rattle.std.proofs.Common.{◌≡◌, ℕ, List, [], ◌∷◌, ◌++◌, false}
use Rattle.std.proofs.Common.{refl, ap, ◌∙◌, Option, Some, Result, Ok, Err}
use Rattle.std.specs.Prelude.{OnOk, OnErr}
use Rattle.std.specs.Ordering.{nat_cmp, match_ordering}
use Rattle.std.specs.Cmp.Lexicographic.{slice_cmp}
use Rattle.std.specs.declared.cmp.Ordering.{Ordering}
use Rattle.std.specs.declared.cmp.Ordering.TheVariants.{Less, Equal, Greater}
use Rattle.std.proofs.lemmas.Bool.{or_from, or_parts}
use Rattle.std.proofs.lemmas.Option.{none-some}
use Rattle.serde_json.specs.Find.{get, get_member}
use Rattle.serde_json.specs.Data.{Data, null, boolean, number, string, array, object, Members, no_members, member, put}
use Rattle.serde_json.specs.View.{items_view, view}
use Rattle.serde_json.specs.declared.value.Value.{Value}
use Rattle.serde_json.specs.Written.{has_float, items_have_float, members_have_float}

-- a member is added at its place, by the order of the names
placed : (order : Ordering) (name : List ℕ) (value : Data) (other : List ℕ) (found : Data) (rest added : Members)
    → has_float value ≡ false → has_float found ≡ false → members_have_float rest ≡ false
    → members_have_float added ≡ false
    → members_have_float (match_ordering order (member name value (member other found rest)) (member other value rest)
    (member other found added)) ≡ false
placed Less name value other found rest added v f r a = or_from _ _ v (or_from _ _ f r)
placed Equal name value other found rest added v f r a = or_from _ _ v r
placed Greater name value other found rest added v f r a = or_from _ _ f a

pub put_no_float : (name : List ℕ) (value : Data) (members : Members) → has_float value ≡ false
    → members_have_float members ≡ false → members_have_float (put name value members) ≡ false
put_no_float name value no_members v none = or_from _ _ v none
put_no_float name value (member other found rest) v none =
    let both = or_parts (has_float found) (members_have_float rest) none in
    placed (slice_cmp nat_cmp name other) name value other found rest (put name value rest) v both.0 both.1
    (put_no_float name value rest v both.1)

-- one more value
pub more_no_float : (values : List Value) (value : Value) → items_have_float (items_view values) ≡ false
    → has_float (view value) ≡ false → items_have_float (items_view (values ++ value ∷ [])) ≡ false
more_no_float [] value none v = or_from _ _ v refl
more_no_float (first ∷ rest) value none v =
    let both = or_parts (has_float (view first)) (items_have_float (items_view rest)) none in
    or_from _ _ both.0 (more_no_float rest value both.1 v)

-- adding a member keeps an object free of floats, whether or not it succeeds. `see` gives an object's members
pub kept_by_put : {E K : Type 0} (see : K → Members) (result : Result (Unit {0}) E) (name : List ℕ) (value : Data)
    (old new : K) → has_float value ≡ false → members_have_float (see old) ≡ false
    → OnOk result (see new ≡ put name value (see old)) → OnErr result (new ≡ old) → members_have_float (see new) ≡ false
kept_by_put see (Ok _) name value old new v none added kept =
    ap members_have_float added ∙ put_no_float name value (see old) v none
kept_by_put see (Err _) name value old new v none added kept = ap (λ k. members_have_float (see k)) kept ∙ none

-- the value that is found at a member, by the order of the names
found_at : (order : Ordering) (value found : Data) (behind : Option Data)
    → match_ordering order behind (Some value) behind ≡ Some found → has_float value ≡ false
    → (behind ≡ Some found → has_float found ≡ false) → has_float found ≡ false
found_at Less value found behind is v rest = rest is
found_at Equal value found behind is v rest =
    let same : found ≡ value = cc in ap has_float same ∙ v
found_at Greater value found behind is v rest = rest is

member_no_float : (name : List ℕ) (members : Members) (found : Data) → get_member name members ≡ Some found
    → members_have_float members ≡ false → has_float found ≡ false
member_no_float name no_members found is none = absurd (none-some found is)
member_no_float name (member other value rest) found is none =
    let both = or_parts (has_float value) (members_have_float rest) none in
    found_at (slice_cmp nat_cmp name other) value found (get_member name rest) is both.0
    (λ behind. member_no_float name rest found behind both.1)

-- a member of a value without floats has none
pub get_no_float : (name : List ℕ) (owner found : Data) → get name owner ≡ Some found → has_float owner ≡ false
    → has_float found ≡ false
get_no_float name null found is none = absurd (none-some found is)
get_no_float name (boolean b) found is none = absurd (none-some found is)
get_no_float name (number n) found is none = absurd (none-some found is)
get_no_float name (string s) found is none = absurd (none-some found is)
get_no_float name (array values) found is none = absurd (none-some found is)
get_no_float name (object members) found is none = member_no_float name members found is none
