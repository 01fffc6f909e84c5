use Rattle.std.proofs.Common.{◌≡◌, ◌+◌, [], ◌∷◌, refl, rules, arith, ◌∙◌}
use Rattle.std.specs.Prelude.{slice_index}
use Rattle.std.proofs.lemmas.Nat.{le_bytes_4}
use Rattle.luks_aes.proofs.columns.column_from.Goals as goal

pub returns : goal.returns
returns c =
    let at = c.args.at in
    let bytes = c.args.bytes.now in
    let first : at ≡ 0 + at = omega arith in
    let second : at + 1 ≡ 1 + at = omega arith in
    let third : at + 2 ≡ 2 + at = omega arith in
    let fourth : at + 3 ≡ 3 + at = omega arith in
    le_bytes_4 (slice_index bytes at ∷ slice_index bytes (at + 1) ∷ slice_index bytes (at + 2)
    ∷ slice_index bytes (at + 3) ∷ [])
    c.from_le_bytes.result refl (search rules) c.from_le_bytes.ensures
    ∙ (λ i. slice_index bytes (first i) ∷ slice_index bytes (second i) ∷ slice_index bytes (third i)
    ∷ slice_index bytes (fourth i) ∷ [])
