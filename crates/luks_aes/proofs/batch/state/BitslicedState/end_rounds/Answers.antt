use Rattle.std.proofs.Common.{arith}
use Rattle.luks_aes.specs.Field.{◌⊕◌}
use Rattle.luks_aes.specs.Aes.{inv_sbox, inv_sub_bytes, inv_shift_rows}
use Rattle.luks_aes.specs.BitPlanes.{rotated_index}
use Rattle.luks_aes.specs.Blocks.{state_byte}
use Rattle.luks_aes.proofs.RoundLemmas.{groups_by_words, states_substituted, states_keyed, substituted_all}
use Rattle.luks_aes.proofs.batch.state.BitslicedState.end_rounds.Goals as goal

pub returns : goal.returns
returns g c = λ t w n all keys holds key.
    let circuit = groups_by_words (λ g r q. state_byte t 0x63 g r (rotated_index r q))
    (λ g r q. inv_sbox (state_byte t 0x63 g r (rotated_index r q) ⊕ 0x63)) _ _ c.requires.whole
    (λ i g r inside held. c.inv_sub_bytes.ensures i _ inside held) holds.bytes in
    states_keyed (λ b. inv_sub_bytes (inv_shift_rows (t b))) w n 0 _ (omega arith) (substituted_all t all) keys
    (c.add_key.ensures _ _ (states_substituted t _ all circuit) key.bytes)
