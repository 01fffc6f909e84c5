use Rattle.std.proofs.Common.{◌≡◌, ◌*◌, ◌/◌, length, ap, add-one, arith, ◌∙◌, rules}
use Rattle.std.proofs.lemmas.List.{length-take-le}
use Rattle.luks_cipher.specs.Xts.{doubled, tweak_after, tweak_of, xts_encrypted, xts_decrypted}
use Rattle.luks_cipher.proofs.UnitLemmas.{data_keys_of, done_all, progress_first, progress_next, tweaks_of_unit}
use Rattle.luks_cipher.proofs.UnitsUndone.{xts_decrypted-xts_encrypted, xts_encrypted-xts_decrypted}
use Rattle.luks_cipher.proofs.xts.XtsKey.decrypt_unit.Goals as goal

pub rest-init : goal.rest-init
rest-init c =
    let key = c.args.self.now in
    let unit = c.args.unit.now in
    let batches = c.decrypt_batches-tweak in
    let size = length-take-le (16 * (length unit / 16 / 32 * 32)) unit (omega arith) in
    progress_first _ _ (tweak_after c.first_tweak-first_tweak.result) _ batches.new.batches _ _ _
    (record { each = search rules }) (omega arith) (omega (arith, size)) (omega (arith, size))
    (batches.ensures.value key
    (data_keys_of c.self.inside.data_key c.self.inside.tweak_key key c.self.invariant.same_length c.self.view_is _
    c.round_keys.ensures))
    batches.ensures.next
    (λ n few. tweaks_of_unit key _ c.args.number n c.first_tweak-first_tweak.ensures.value)

pub rest-preserved : goal.rest-preserved
unfolding tweak_of
rest-preserved c =
    let before = c.rest.invariant in
    progress_next _ _ _ _ _ _ _ c.rest.j before (omega arith) (omega arith) c.decrypt_piece.ensures
    (rw add-one (c.doubled-next.ensures ∙ ap doubled before.next))

pub returns : goal.returns
unfolding xts_decrypted
returns c =
    let last = c.rest.j in
    let key = c.args.self.now in
    let unit = c.args.unit.now in
    let value : c.rest.unit ≡ xts_decrypted key c.args.number unit =
    done_all _ _ unit c.rest.unit last (length unit / 16) c.rest.invariant.done (omega arith) (omega arith) in
    record {
      value = value;
      undoes = λ plain bytes same is.
          value ∙ ap (xts_decrypted key c.args.number) is
          ∙ xts_decrypted-xts_encrypted key c.args.number plain c.first_tweak-first_tweak.ensures.key_bytes bytes
          (rw same c.requires.whole_blocks);
      undone = ap (xts_encrypted key c.args.number) value
          ∙ xts_encrypted-xts_decrypted key c.args.number unit c.first_tweak-first_tweak.ensures.key_bytes
          c.rest.invariant.bytes c.requires.whole_blocks;
    }
