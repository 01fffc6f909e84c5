use Rattle.std.proofs.Common.{◌≡◌, ◌∙◌, Option, Some, None, ap, sym}
use Rattle.std.specs.Option.{IsSomeAnd}
use Rattle.luks_format.proofs.MadeLemmas.{usable_from_kind}
use Rattle.luks_header.specs.SlotVerdicts.{verdict_within}
use Rattle.luks_header.proofs.KnownLemmas.{slot_of_usable}
use Rattle.luks_header.proofs.header_slots.verdict.Goals as goal

some_is : {T : Type 0} (o : Option T) (x : T) → IsSomeAnd o (λ value. value ≡ x) → o ≡ Some x
some_is (Some value) x is = ap Some is
some_is None x is = absurd is

pub returns-in_ok-slot-in-Some-Usable-clause-value : goal.returns-in_ok-slot-in-Some-Usable-clause-value
returns-in_ok-slot-in-Some-Usable-clause-value c =
    let verdict_is = sym c.verdict_kind.ensures ∙ (c.in-Some-Usable.is ∙ ap Some c.in-Some-Usable.field-0-is) in
    let usable = usable_from_kind (verdict_within c.args.header.now c.args.limits c.args.number) _ verdict_is in
    let there = slot_of_usable c.args.header.now c.args.limits c.args.number usable.0 usable.1 in
    let made : c.in_ok-slot-in-Some-Usable.field-0 ≡ Some usable.0 = c.in_ok-slot-in-Some-Usable.ensures ∙ there in
    some_is _ _ (rw made at c.map.ensures.cases) ∙ sym usable.1
