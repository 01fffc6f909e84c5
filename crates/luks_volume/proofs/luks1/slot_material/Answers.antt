use Rattle.std.proofs.Common.{◌≡◌, length}
use Rattle.luks_kdf.proofs.Pbkdf2Lemmas.{length-derived_key}
use Rattle.luks_volume.specs.Layout1.{area_key1_of}
use Rattle.luks_volume.proofs.luks1.slot_material.Goals as goal

-- the key of an area is as long as the volume key
pub encrypted_material-requires : goal.encrypted_material-requires
unfolding area_key1_of
encrypted_material-requires c =
    let seal = c.args.seal.now in
    let slot = c.args.slot.now in
    let len : length (area_key1_of seal slot) ≡ length seal.key.now =
    length-derived_key seal.hash slot.passphrase.now slot.salt slot.iterations (length seal.key.now) in
    cc (len, c.in_ok-area_key.ensures, c.requires.fits.key)
