use Rattle.std.proofs.Common.{◌≡◌, ◌-◌, ap, arith, ◌∙◌, sym, rules}
use Rattle.luks_aes.specs.Aes.{inv_state_after, inv_cipher, add_round_key, inv_shift_rows, inv_sub_bytes}
use Rattle.luks_aes.specs.Bytes.{IsBytes}
use Rattle.luks_aes.proofs.ColumnLemmas.{state_from_words}
use Rattle.luks_aes.proofs.Undone.{inv_round_after, inv_shift_rows_state, inv_sub_bytes_state}
use Rattle.luks_aes.proofs.MixingLemmas.{round_key_inv_mixed}
use Rattle.luks_aes.proofs.cipher.inv_cipher.Goals as goal

pub loop-round-init : goal.loop-round-init
unfolding inv_state_after
loop-round-init c =
    let none : c.args.rounds - c.args.rounds ≡ 0 = omega arith in (
      omega arith,
      rw none
          (c.with_round_key-state.ensures
          ∙ ap (λ s. add_round_key s c.args.schedule.now c.args.rounds) c.columns_of.ensures),
    )

pub loop-round-preserved : goal.loop-round-preserved
loop-round-preserved c =
    let nr = c.args.rounds in
    let w = c.args.schedule.now in
    let u = c.args.inv_mixed.now in
    let round = c.loop-round.round in
    let bytes : IsBytes w = record { each = λ i. search rules } in
    let state = state_from_words c.loop-round.state in
    let shifted = inv_sub_bytes_state _ (inv_shift_rows_state _ state.bytes).bytes in (
      omega arith,
      c.with_round_key-state-in-loop-round.ensures
          ∙ ap (λ s. add_round_key s u (round - 1)) c.inv_mixed_columns-substituted.ensures
          ∙ sym (round_key_inv_mixed _ w u _ (round - 1) shifted bytes c.requires.products (omega arith))
          ∙ inv_round_after c.args.block w _ nr (nr - round) (nr - (round - 1)) (round - 1) c.loop-round.invariant.1
          (omega arith) (omega arith),
    )

pub returns : goal.returns
unfolding inv_cipher
returns c =
    let w = c.args.schedule.now in
    let last : c.args.rounds - c.loop-round.round ≡ c.args.rounds - 1 = omega arith in
    let state = c.bytes_of-last.ensures ∙ c.loop-round.invariant.1
    ∙ ap (inv_state_after c.args.block c.args.rounds w) last in
    c.bytes_of.ensures ∙ c.with_round_key-keyed.ensures
    ∙ ap (λ s. add_round_key s w 0)
    (c.columns_of-shifted.ensures ∙ c.inv_shift_rows_and_sub_bytes.ensures
    ∙ ap (λ s. inv_sub_bytes (inv_shift_rows s)) state)
