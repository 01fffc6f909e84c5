use Rattle.std.proofs.Common.{List, ℕ, ap, ◌∙◌}
use Rattle.luks_aes.specs.Aes.{decrypted}
use Rattle.luks_aes.specs.Blocks.{block_in, xored_blocks, masked_block}
use Rattle.luks_aes.proofs.batch.key.BatchKey.decrypt_batch.Goals as goal

pub returns : goal.returns
returns c = λ m low.
    c.decrypt_batch.ensures c.self.inside.key m c.self.invariant low
    ∙ ap (λ (k : List ℕ). xored_blocks (decrypted k (masked_block c.args.batch.now c.args.before.now m))
    (block_in c.args.after.now m)) c.self.view_is
