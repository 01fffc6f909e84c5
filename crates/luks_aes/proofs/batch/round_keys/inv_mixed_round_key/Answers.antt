use Rattle.std.proofs.Common.{arith}
use Rattle.luks_aes.specs.Aes.{key_expansion}
use Rattle.luks_aes.specs.Columns.{inv_mixed_key_byte}
use Rattle.luks_aes.proofs.ColumnLemmas.{xor_byte, expansion_bytes}
use Rattle.luks_aes.proofs.BatchMixLemmas.{inv_mixed_byte}
use Rattle.luks_aes.proofs.RoundLemmas.{block_represented}
use Rattle.luks_aes.proofs.batch.round_keys.inv_mixed_round_key.Goals as goal

pub returns : goal.returns
returns c =
    let words = expansion_bytes c.args.key.now c.requires.bytes in
    record {
      bytes = block_represented _ _ 0x63 (inv_mixed_key_byte (key_expansion c.args.key.now) c.args.n) _
          c.block_xor_number.ensures c.inv_mixed_round_key.ensures
          (λ r k. xor_byte _ 0x63 (inv_mixed_byte _ _ _ _ (words.each _) (words.each _) (words.each _) (words.each _))
          (omega arith))
          c.equal_blocks.ensures;
    }
