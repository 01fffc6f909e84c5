use Rattle.std.proofs.Common.{◌≡◌, ◌∙◌, length, ap, sym}
use Rattle.std.proofs.lemmas.Option.{same_Some}
use Rattle.luks_cipher.specs.Sector.{is_mode_key_length}
use Rattle.luks_cipher.specs.declared.mode.Mode.{Mode}
use Rattle.luks_format.proofs.RangeLemmas.{slot_range}
use Rattle.luks_open.proofs.opening.candidate.Goals as goal

-- the key of the key material has a length that its mode allows
pub expanded-requires : goal.expanded-requires
expanded-requires c =
    let len : length c.as_slice.result.now ≡ c.args.slot.now.parts.area_key_bytes =
    ap length c.as_slice.ensures ∙ c.requires.key in
    let same : c.requires.triable.area.0 ≡ c.in_ok-mode.mode =
    same_Some _ _ (sym c.requires.triable.area.1 ∙ c.in_ok-mode.was) in
    ap (is_mode_key_length c.in_ok-mode.mode) len
    ∙ (ap (λ (mode : Mode). is_mode_key_length mode c.args.slot.now.parts.area_key_bytes) (sym same)
    ∙ c.requires.triable.area.2)

pub recovered-requires-clause-some : goal.recovered-requires-clause-some
recovered-requires-clause-some c = (slot_range c.args.slot.now).some_stripes

pub recovered-requires-clause-few : goal.recovered-requires-clause-few
recovered-requires-clause-few c = (slot_range c.args.slot.now).few_stripes
