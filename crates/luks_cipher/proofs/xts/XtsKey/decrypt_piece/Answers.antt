use Rattle.luks_cipher.proofs.UnitLemmas.{piece_decrypted}
use Rattle.luks_cipher.proofs.xts.XtsKey.decrypt_piece.Goals as goal

pub returns : goal.returns
returns c =
    let whole = piece_decrypted c.self.inside.data_key c.self.inside.tweak_key c.args.self.now
    c.self.invariant.same_length c.self.view_is c.args.tweak c.args.piece.now in
    let masked = c.xor_vector.ensures in
    let read = c.block_of-block.ensures in
    let ciphered = c.decrypt_block.ensures.value in
    let written = c.copy_from_slice.ensures.after in
    let unmasked = c.xor_vector-2.ensures in
    cc
