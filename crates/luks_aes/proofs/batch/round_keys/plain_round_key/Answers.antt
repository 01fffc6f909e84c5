use Rattle.luks_aes.specs.Aes.{key_expansion}
use Rattle.luks_aes.specs.Columns.{key_byte}
use Rattle.luks_aes.proofs.ColumnLemmas.{xor_byte, expansion_bytes}
use Rattle.luks_aes.proofs.RoundLemmas.{block_represented}
use Rattle.luks_aes.proofs.batch.round_keys.plain_round_key.Goals as goal

pub returns : goal.returns
returns c =
    let words = expansion_bytes c.args.key.now c.requires.bytes in
    record {
      bytes = block_represented _ _ c.args.number (key_byte (key_expansion c.args.key.now) c.args.n) _
          c.block_xor_number.ensures c.round_key.ensures
          (λ r k. xor_byte _ c.args.number (words.each _) c.ranges.number.fits) c.equal_blocks.ensures;
    }
