use Rattle.std.proofs.Common.{arith}
use Rattle.luks_aes.proofs.RoundLemmas.{states_keyed, states_plain}
use Rattle.luks_aes.proofs.batch.state.BitslicedState.start_rounds.Goals as goal

pub returns : goal.returns
returns g c = λ s w n all words holds key.
    let keyed = c.add_key.ensures _ _ (states_plain s c.args.self.now holds all) key.bytes in
    record { bytes = c.inv_shift_rows.ensures _ (states_keyed s w n 0x63 _ (omega arith) all words keyed).bytes }
