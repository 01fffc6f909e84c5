use Rattle.std.proofs.Common.{◌+◌, ◌*◌, take, ap, ◌∙◌}
use Rattle.luks_aes.specs.Aes.{inv_cipher, encrypted, decrypted}
use Rattle.luks_aes.proofs.ScheduleLemmas.{schedule_is, key_bytes}
use Rattle.luks_aes.proofs.Undone.{encrypted-decrypted}
use Rattle.luks_aes.proofs.aes.AesKey.decrypt_block.Goals as goal

pub returns : goal.returns
unfolding decrypted
returns c =
    let key = c.args.self.now in
    let block = c.args.block.now in
    let is = schedule_is c.self.invariant c.self.view_is in
    let rounds = c.rounds-rounds.ensures.value in
    let expanded = c.round_keys-round_keys.ensures.value
    ∙ ap (λ n. take (16 * (n + 1)) c.self.inside.schedule.bytes) rounds ∙ is.expanded in
    let keys = key_bytes c.self.invariant c.self.view_is in
    let value = c.inv_cipher.ensures ∙ (λ i. inv_cipher block (rounds i) (expanded i)) in
    record {
      value = value;
      undone = ap (encrypted key) value
          ∙ encrypted-decrypted key block keys (record { len = c.told-block; bytes = record { each = c.fits-block } });
    }
