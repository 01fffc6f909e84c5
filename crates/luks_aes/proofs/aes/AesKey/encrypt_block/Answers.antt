use Rattle.std.proofs.Common.{ap, ◌∙◌}
use Rattle.luks_aes.specs.Aes.{decrypted}
use Rattle.luks_aes.proofs.ScheduleLemmas.{schedule_is, key_bytes}
use Rattle.luks_aes.proofs.Undone.{decrypted-encrypted}
use Rattle.luks_aes.proofs.aes.AesKey.encrypt_block.Goals as goal

pub returns : goal.returns
returns c =
    let key = c.args.self.now in
    let block = c.args.block.now in
    let keys = key_bytes c.self.invariant c.self.view_is in
    let value = c.encrypt_block.ensures key (schedule_is c.self.invariant c.self.view_is) in
    record {
      value = value;
      undone = ap (decrypted key) value
          ∙ decrypted-encrypted key block keys (record { len = c.told-block; bytes = record { each = c.fits-block } });
    }
