use Rattle.std.proofs.Common.{◌*◌, ℕ, arith, refl, rules, sym, ◌∙◌}
use Rattle.luks_aes.specs.Aes.{decrypted}
use Rattle.luks_aes.specs.Bytes.{IsBytes}
use Rattle.luks_aes.proofs.Undone.{decrypted_state}
use Rattle.luks_aes.specs.Blocks.{block_in, xored_blocks, masked_block}
use Rattle.luks_aes.proofs.PackLemmas.{masked_bytes}
use Rattle.luks_aes.proofs.RoundLemmas.{block_state, block_is, xored_at}
use Rattle.luks_aes.proofs.batch.round_keys.RoundKeys.decrypt.Goals as goal

pub returns : goal.returns
returns g c = λ key m is low.
    let key_bytes = is.bytes in
    let old = c.args.batch.now in
    let before = c.args.before.now in
    let mask = c.args.after.now in
    let new = c.unpack.new.batch in
    let count = 4 * g.row.WORDS in
    let bytes : IsBytes old = record { each = λ i. search rules } in
    let first : IsBytes before = record { each = λ i. search rules } in
    let written : IsBytes new = record { each = λ i. (c.type_inv.batch i).fits } in
    let masked = λ (b : ℕ). masked_bytes old before b bytes first in
    let plain = λ (b : ℕ). decrypted key (masked_block old before b) in
    let states = c.decrypt_states.ensures key (masked_block old before) is
    (c.rounds-rounds.ensures.value key is) key_bytes masked c.pack.ensures in
    block_is new (xored_blocks (plain m) (block_in mask m)) m (block_state new count m (omega arith) low written) refl
    (λ i inside.
    c.unpack.ensures plain (λ b. (decrypted_state key (masked_block old before b) key_bytes
    (record { len = refl; bytes = masked b })).bytes) states m i low inside
    ∙ sym (xored_at (plain m) mask m i inside))
