use Rattle.std.proofs.Common.{◌≡◌, ◌∙◌, ◌++◌, ap, length}
use Rattle.std.proofs.lemmas.Result.{on_ok_weaker}
use Rattle.luks_kdf.proofs.Pbkdf2Lemmas.{length-derived_key}
use Rattle.luks_volume.specs.Pieces.{padded}
use Rattle.luks_volume.specs.Layout2.{area_key_of, area_of}
use Rattle.luks_volume.proofs.luks2.areas.push_area.Goals as goal

-- the key of an area has the length `area_key_size`
pub encrypted_material-requires : goal.encrypted_material-requires
unfolding area_key_of
encrypted_material-requires c =
    let seal = c.args.seal.now in
    let slot = c.args.slot.now in
    let len : length (area_key_of seal slot) ≡ seal.area_key_size =
    length-derived_key slot.hash slot.passphrase.now slot.salt slot.iterations seal.area_key_size in
    cc (len, c.in_ok-area_key.ensures, c.requires.fits.keys.1)

pub returns : goal.returns
unfolding area_of
returns c =
    let is : padded c.area_size-size.result c.deref-3.result.now ≡ area_of c.args.seal.now c.args.slot.now =
    cc (c.in_ok-area_key.ensures, c.in_ok-stripes.ensures, c.in_ok-material.ensures) in
    on_ok_weaker c.push_padded.result (λ appended. appended ∙ ap (λ a. c.args.image.now.items ++ a) is)
    c.push_padded.ensures
