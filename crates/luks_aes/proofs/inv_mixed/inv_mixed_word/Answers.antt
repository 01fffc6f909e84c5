use Rattle.std.proofs.Common.{◌≡◌, ◌<◌, ◌+◌, ◌*◌, [], ◌∷◌, ap, ◌∙◌, rules, arith}
use Rattle.std.specs.Prelude.{slice_index}
use Rattle.luks_aes.specs.Aes.{inv_sbox}
use Rattle.luks_aes.specs.Columns.{column_product}
use Rattle.luks_aes.proofs.Undone.{sbox_undone}
use Rattle.luks_aes.proofs.inv_mixed.inv_mixed_word.Goals as goal

pub returns : goal.returns
returns c =
    let w = c.args.schedule.now in
    let at = 4 * c.args.i in
    let low : (k : _) → slice_index w k < 256 = λ k. search rules in
    let start : at ≡ at + 0 = omega arith in
    let first = ap inv_sbox c.sbox.ensures ∙ sbox_undone (slice_index w at) (low at) ∙ ap (slice_index w) start in
    let second = ap inv_sbox c.sbox-2.ensures ∙ sbox_undone (slice_index w (at + 1)) (low (at + 1)) in
    let third = ap inv_sbox c.sbox-3.ensures ∙ sbox_undone (slice_index w (at + 2)) (low (at + 2)) in
    let fourth = ap inv_sbox c.sbox-4.ensures ∙ sbox_undone (slice_index w (at + 3)) (low (at + 3)) in
    c.to_le_bytes.ensures ∙ c.inv_mixed.ensures
    ∙ (λ i. column_product (14 ∷ 11 ∷ 13 ∷ 9 ∷ []) (first i ∷ second i ∷ third i ∷ fourth i ∷ []))
