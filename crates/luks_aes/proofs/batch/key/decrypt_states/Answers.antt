use Rattle.std.proofs.Common.{◌≡◌, ℕ, ◌+◌, ◌-◌, arith, refl, sym, ap, subst, ◌∙◌}
use Rattle.luks_aes.specs.Aes.{key_expansion, rounds_of, inv_state_after, inv_cipher, decrypted, add_round_key}
use Rattle.luks_aes.specs.Aes.{inv_sub_bytes, inv_shift_rows}
use Rattle.luks_aes.proofs.ColumnLemmas.{expansion_bytes}
use Rattle.luks_aes.proofs.Undone.{inv_round_after, inv_after_state}
use Rattle.luks_aes.specs.RoundKeys.{HasInvMixedKey}
use Rattle.luks_aes.proofs.RoundLemmas.{states_same, rotated_same}
use Rattle.luks_aes.proofs.batch.key.decrypt_states.Goals as goal

pub loop-round-init : goal.loop-round-init
unfolding inv_state_after
loop-round-init g c =
    let none : c.args.rounds - c.args.rounds ≡ 0 = omega arith in
    record {
      some = omega arith;
      hold = λ key s is rounds bytes all hold.
          let w = key_expansion key in
          rotated_same _ _ _ (λ m. ap (add_round_key (s m) w) (sym rounds)
          ∙ sym (ap (inv_state_after (s m) c.args.rounds w) none))
          (c.start_rounds.ensures s w (rounds_of key) all (expansion_bytes key bytes) hold is.first_key);
    }

pub loop-round-preserved : goal.loop-round-preserved
loop-round-preserved g c =
    let l = c.loop-round in
    let round = c.loop-round.round in
    let nr = c.args.rounds in
    record {
      some = omega arith;
      hold = λ key s is rounds bytes all hold.
          let w = key_expansion key in
          let words = expansion_bytes key bytes in
          let index : round - 1 - 1 + 1 ≡ round - 1 = omega arith in
          let between = c.inner_key.ensures w (rounds_of key) is.between_keys (omega (arith, rounds)) in
          rotated_same _ _ _
          (λ m. inv_round_after (s m) w _ nr (nr - round) (nr - (round - 1)) (round - 1) refl (omega arith)
          (omega arith))
          (c.inv_round.ensures _ w (round - 1)
          (λ m. (inv_after_state (s m) w nr (nr - round) (all m) words).bytes) words
          (l.invariant.hold key s is rounds bytes all hold)
          (subst (λ (n : ℕ). HasInvMixedKey w n 0x63 c.inner_key.result.now) index between));
    }

pub returns : goal.returns
unfolding decrypted inv_cipher
returns g c = λ key s is rounds bytes all hold.
    let w = key_expansion key in
    let nr = c.args.rounds in
    let words = expansion_bytes key bytes in
    let round = c.loop-round.round in
    let end : nr - round ≡ rounds_of key - 1 = omega (arith, rounds, c.loop-round.invariant.some) in
    states_same _ _ 0 _
    (λ m i. add_round_key (inv_sub_bytes (inv_shift_rows (inv_state_after (s m) (rounds i) w (end i)))) w 0)
    (c.end_rounds.ensures _ w 0 (λ m. (inv_after_state (s m) w nr (nr - round) (all m) words).bytes) words
    (c.loop-round.invariant.hold key s is rounds bytes all hold) is.last_key)
