use Rattle.std.proofs.Common.{◌∙◌, ap, sym}
use Rattle.std.specs.Int.{w128, to_le_bytes}
use Rattle.luks_aes.specs.Aes.{encrypted}
use Rattle.luks_aes.proofs.ColumnLemmas.{bytes_append}
use Rattle.luks_cipher.specs.Xts.{tweak_of}
use Rattle.luks_cipher.proofs.UnitLemmas.{halves}
use Rattle.luks_cipher.proofs.xts.XtsKey.first_tweak.Goals as goal

pub returns : goal.returns
unfolding tweak_of
returns c =
    let first = c.self.inside.data_key in
    let second = c.self.inside.tweak_key in
    let half = (halves first second c.args.self.now c.self.invariant.same_length c.self.view_is).1 in
    let block = c.to_le_bytes-tweak.ensures ∙ ap (to_le_bytes w128) c.from.ensures in
    record {
      value = c.encrypt_block.ensures.value ∙ (λ i. encrypted (sym half i) (block i));
      key_bytes = rw (← c.self.view_is)
          (bytes_append first second c.self.invariant.data_bytes c.self.invariant.tweak_bytes);
    }
