use Rattle.std.proofs.Common.{◌≡◌, ◌+◌, ◌-◌, ap, arith, ◌∙◌}
use Rattle.luks_aes.specs.Aes.{state_after, cipher, add_round_key, shift_rows, sub_bytes}
use Rattle.luks_aes.proofs.Undone.{round_after}
use Rattle.luks_aes.proofs.cipher.cipher.Goals as goal

pub loop-round-init : goal.loop-round-init
unfolding state_after
loop-round-init c = c.with_round_key-state.ensures
    ∙ ap (λ s. add_round_key s c.args.schedule.now 0) c.columns_of.ensures

pub loop-round-preserved : goal.loop-round-preserved
loop-round-preserved c =
    let w = c.args.schedule.now in
    let round = c.loop-round.round in
    let next : round ≡ (round + 1) - 1 = omega arith in
    c.with_round_key-state-in-loop-round.ensures ∙ ap (λ s. add_round_key s w round) c.mixed_columns-mixed.ensures
    ∙ round_after c.args.block w _ (round - 1) round c.loop-round.invariant (omega arith)
    ∙ ap (state_after c.args.block w) next

pub returns : goal.returns
unfolding cipher
returns c =
    let w = c.args.schedule.now in
    let last : c.loop-round.round ≡ c.args.rounds = omega arith in
    let state = c.bytes_of-last.ensures ∙ c.loop-round.invariant ∙ ap (λ n. state_after c.args.block w (n - 1)) last in
    c.bytes_of.ensures ∙ c.with_round_key-keyed.ensures
    ∙ ap (λ s. add_round_key s w c.args.rounds)
    (c.columns_of-shifted.ensures ∙ c.sub_bytes_and_shift_rows.ensures ∙ ap (λ s. shift_rows (sub_bytes s)) state)
