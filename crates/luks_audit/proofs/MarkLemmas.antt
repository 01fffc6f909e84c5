-- A text that has no byte with which a mark begins stays as it is.
use Rattle.std.proofs.Common.{◌≡◌, ◌∙◌, ◌∷◌, ◌++◌, ◌&&◌, ◌||◌, ◌==◌, ◌-◌, ◌≤◌, ℕ, Bool, true, false, List, [], None}
use Rattle.std.proofs.Common.{ap, arith, length, refl, sym, take}
use Rattle.std.proofs.Math.Seq.{take-length, take-suc}
use Rattle.std.proofs.lemmas.Bool.{ltb-false, ne_eqb, or_from, or_parts}
use Rattle.std.proofs.lemmas.Option.{unwrap_or-slice_get}
use Rattle.std.specs.Prelude.{nat_le, zero, suc}
use Rattle.luks_audit.specs.Marks.{text_byte, has_lead, is_behind, is_lead, mark_at, mark_of, marks_escaped, printed_at}
use Rattle.luks_audit.specs.Numbers.{by_number}

lead_none : (text : List ℕ) (i : ℕ) → has_lead text ≡ false → is_lead (text_byte text i) ≡ false
lead_none [] i none = refl
lead_none (byte ∷ rest) zero none = (or_parts (is_lead byte) (has_lead rest) none).0
lead_none (byte ∷ rest) (suc i) none = lead_none rest i (or_parts (is_lead byte) (has_lead rest) none).1

mark_none : (a b c : ℕ) → is_lead a ≡ false → mark_of a b c ≡ None
unfolding mark_of
mark_none a b c none =
    let low : a ≤ 126 = ltb-false 126 a none in
    rw (
      ne_eqb a 127 (λ is. omega (arith, low, is)),
      ne_eqb a 194 (λ is. omega (arith, low, is)),
      ne_eqb a 216 (λ is. omega (arith, low, is)),
      ne_eqb a 226 (λ is. omega (arith, low, is)),
    ) refl

at_none : (text : List ℕ) (i : ℕ) → has_lead text ≡ false → mark_at text i ≡ None
unfolding mark_at
at_none text i none = mark_none (text_byte text i) _ _ (lead_none text i none)

and_false : (a : Bool) → (a && false) ≡ false
and_false true = refl
and_false false = refl

behind_none : (text : List ℕ) (i : ℕ) → has_lead text ≡ false → is_behind text i ≡ false
unfolding is_behind
behind_none text i none =
    rw (at_none text (i - 1) none) (rw (at_none text (i - 2) none) (or_from _ _ (and_false (nat_le 1 i))
    (and_false (nat_le 2 i))))

printed_plain : (text : List ℕ) (i : ℕ) → has_lead text ≡ false → printed_at text i ≡ text_byte text i ∷ []
unfolding printed_at
printed_plain text i none = rw (at_none text i none) (rw (behind_none text i none) refl)

all_plain : (text : List ℕ) (n : ℕ) → n ≤ length text → has_lead text ≡ false
    → by_number (printed_at text) n ≡ take n text
unfolding by_number
all_plain text zero le none = refl
all_plain text (suc n) le none =
    ap (λ list. list ++ printed_at text n) (all_plain text n (omega arith) none)
    ∙ (ap (λ one. take n text ++ one)
    (printed_plain text n none ∙ ap (λ byte. byte ∷ []) (unwrap_or-slice_get text n 0))
    ∙ sym (take-suc text n 0 (omega arith)))

pub plain_escaped : (text : List ℕ) → has_lead text ≡ false → marks_escaped text ≡ text
unfolding marks_escaped
plain_escaped text none = all_plain text (length text) (omega arith) none ∙ take-length text
