use Rattle.std.proofs.Common.{refl, w8}
use Rattle.std.proofs.lemmas.Simd.{below_from_Fits}
use Rattle.luks_cipher.proofs.DoublingLemmas.{doubled_lanes}
use Rattle.luks_cipher.proofs.xts.doubled.Goals as goal

pub returns : goal.returns
returns c =
    let tweak = c.args.tweak in
    doubled_lanes tweak c.fits-tweak.0 (below_from_Fits w8 tweak c.fits-tweak.1) _ _ _ _ _ _ _ refl refl refl refl
    refl refl refl
