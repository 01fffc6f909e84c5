-- A code for JSON values, by which a proof distinguishes them: every value that a clause mentions needs one.
use Rattle.std.specs.Prelude.{◌≡◌, refl}
use Rattle.std.specs.Coded.{Coded, coded_ℕ, coded_ℤ, coded_bool, coded_list}
use Rattle.std.proofs.Common.{ap, arith}
use Rattle.serde_json.specs.Data.{Num, unsigned, negative, float, Data, null, boolean, number, string, array, object}
use Rattle.serde_json.specs.Data.{Items, no_items, item, Members, no_members, member}
use base.Stored.{Gv, gnil, gnum, gcons, coded_float, num}

-- ---- the code: the constructor's number, and its contents

abbrev code_of_number : Num → Gv
code_of_number (unsigned n) = gcons (gnum 0) (coded_ℕ.code n)
code_of_number (negative z) = gcons (gnum 1) (coded_ℤ.code z)
code_of_number (float x) = gcons (gnum 2) (coded_float.code x)

abbrev mutual
  code_of : Data → Gv
  code_of null = gcons (gnum 0) gnil
  code_of (boolean b) = gcons (gnum 1) (coded_bool.code b)
  code_of (number n) = gcons (gnum 2) (code_of_number n)
  code_of (string s) = gcons (gnum 3) ((coded_list coded_ℕ).code s)
  code_of (array values) = gcons (gnum 4) (items_code_of values)
  code_of (object members) = gcons (gnum 5) (members_code_of members)

  items_code_of : Items → Gv
  items_code_of no_items = gnil
  items_code_of (item value rest) = gcons (code_of value) (items_code_of rest)

  members_code_of : Members → Gv
  members_code_of no_members = gnil
  members_code_of (member name value rest) =
      gcons ((coded_list coded_ℕ).code name) (gcons (code_of value) (members_code_of rest))

-- the parts of a code

abbrev first : Gv → Gv
first gnil = gnil
first (gnum n) = gnil
first (gcons a b) = a

abbrev cons_rest : Gv → Gv
cons_rest gnil = gnil
cons_rest (gnum n) = gnil
cons_rest (gcons a b) = b

-- values with the same code are the same
same_number : (x y : Num) → code_of_number x ≡ code_of_number y → x ≡ y
same_number (unsigned a) (unsigned b) p = ap unsigned (coded_ℕ.inj a b (ap cons_rest p))
same_number (negative a) (negative b) p = ap negative (coded_ℤ.inj a b (ap cons_rest p))
same_number (float a) (float b) p = ap float (coded_float.inj a b (ap cons_rest p))
same_number x y p = absurd (let differ = ap (λ (g : Gv). num (first g)) p in omega arith)

mutual
  pub same_value : (x y : Data) → code_of x ≡ code_of y → x ≡ y
  same_value null null p = refl
  same_value (boolean a) (boolean b) p = ap boolean (coded_bool.inj a b (ap cons_rest p))
  same_value (number a) (number b) p = ap number (same_number a b (ap cons_rest p))
  same_value (string a) (string b) p = ap string ((coded_list coded_ℕ).inj a b (ap cons_rest p))
  same_value (array a) (array b) p = ap array (same_items a b (ap cons_rest p))
  same_value (object a) (object b) p = ap object (same_members a b (ap cons_rest p))
  same_value x y p = absurd (let differ = ap (λ (g : Gv). num (first g)) p in omega arith)

  same_items : (x y : Items) → items_code_of x ≡ items_code_of y → x ≡ y
  same_items no_items no_items p = refl
  same_items (item a more) (item b others) p =
      let value : a ≡ b = same_value a b (ap first p) in
      let rest : more ≡ others = same_items more others (ap cons_rest p) in
      cc
  same_items x y p = absurd cc

  same_members : (x y : Members) → members_code_of x ≡ members_code_of y → x ≡ y
  same_members no_members no_members p = refl
  same_members (member k a more) (member l b others) p =
      let name : k ≡ l = (coded_list coded_ℕ).inj k l (ap first p) in
      let value : a ≡ b = same_value a b (ap (λ (g : Gv). first (cons_rest g)) p) in
      let rest : more ≡ others = same_members more others (ap (λ (g : Gv). cons_rest (cons_rest g)) p) in
      cc
  same_members x y p = absurd cc

-- the code
abbrev pub value_code : Coded Data
value_code = record { code = code_of; inj = same_value }
