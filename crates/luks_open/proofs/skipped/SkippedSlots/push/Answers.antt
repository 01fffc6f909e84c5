use Rattle.std.proofs.Common.{◌≡◌, ◌∙◌, ℕ, suc, ◌+◌, ◌-◌, ◌<◌, List, [], ◌∷◌, ◌++◌, length, take, replicate, set, ap}
use Rattle.std.proofs.Common.{sym, append_assoc, arith}
use Rattle.std.proofs.lemmas.List.{length_push, set_at, take_at}
use Rattle.luks_format.specs.declared.refusal.SkipReason.{SkipReason}
use Rattle.luks_open.specs.Skipped.{IsPadded, nothing}
use Rattle.luks_open.proofs.skipped.SkippedSlots.push.Goals as goal

-- one more element of the array is used
padded_more : (elements : List (ℕ × SkipReason)) (used : ℕ) (entry : ℕ × SkipReason) → IsPadded elements used
    → used < 32 → IsPadded (set elements used entry) (used + 1)
padded_more elements used entry is_padded capacity =
    let prefix = take used elements in
    let rest = replicate (32 - (used + 1)) nothing in
    let more = prefix ++ entry ∷ [] in
    let one_less : 32 - used ≡ suc (32 - (used + 1)) = omega arith in
    let split : elements ≡ prefix ++ nothing ∷ rest = is_padded.others ∙ ap (λ n. prefix ++ replicate n nothing)
    one_less in
    let size : length more ≡ used + 1 = omega (arith, length_push prefix entry, is_padded.there) in
    let all : set elements used entry ≡ more ++ rest =
    ap (λ l. set l used entry) split
    ∙ (set_at prefix nothing rest entry used is_padded.there ∙ sym (append_assoc prefix (entry ∷ []) rest)) in
    let start : take (used + 1) (set elements used entry) ≡ more =
    ap (take (used + 1)) all ∙ take_at more rest (used + 1) size in
    record {
      capacity = omega arith;
      there = ap length start ∙ size;
      others = all ∙ ap (λ l. l ++ rest) (sym start);
    }

pub invariant_of-self : goal.invariant_of-self
invariant_of-self c =
    let capacity : c.self.inside.used < 32 = omega (
      arith,
      c.self.invariant.there,
      ap length c.self.view_is,
      c.requires,
    ) in
    padded_more c.self.inside.elements c.self.inside.used (c.args.number, c.args.reason) c.self.invariant capacity
