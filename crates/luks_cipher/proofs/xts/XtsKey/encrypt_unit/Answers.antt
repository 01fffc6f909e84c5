use Rattle.std.proofs.Common.{◌≡◌, ◌/◌, length, ap, add-one, arith, ◌∙◌, rules}
use Rattle.luks_cipher.specs.Xts.{doubled, tweak_of, xts_encrypted, xts_decrypted}
use Rattle.luks_cipher.proofs.UnitLemmas.{done_none, done_all, progress_next}
use Rattle.luks_cipher.proofs.UnitsUndone.{xts_decrypted-xts_encrypted}
use Rattle.luks_cipher.proofs.xts.XtsKey.encrypt_unit.Goals as goal

pub loop-j-init : goal.loop-j-init
loop-j-init c = record
    { bytes = record { each = search rules }; next = c.first_tweak-tweak.ensures.value; done = done_none _ _ _ }

pub loop-j-preserved : goal.loop-j-preserved
unfolding tweak_of
loop-j-preserved c =
    let before = c.loop-j.invariant in
    progress_next _ _ _ _ _ _ _ c.loop-j.j before (omega arith) (omega arith) c.encrypt_piece.ensures
    (rw add-one (c.doubled-next.ensures ∙ ap doubled before.next))

pub returns : goal.returns
unfolding xts_encrypted
returns c =
    let last = c.loop-j.j in
    let key = c.args.self.now in
    let unit = c.args.unit.now in
    let value : c.loop-j.unit ≡ xts_encrypted key c.args.number unit =
    done_all _ _ unit c.loop-j.unit last (length unit / 16) c.loop-j.invariant.done (omega arith) (omega arith) in
    record {
      value = value;
      undone = ap (xts_decrypted key c.args.number) value
          ∙ xts_decrypted-xts_encrypted key c.args.number unit c.first_tweak-tweak.ensures.key_bytes
          c.loop-j.invariant.bytes c.requires.whole_blocks;
    }
