use Rattle.std.proofs.Common.{refl}
use Rattle.luks_kdf.proofs.sha1_block.parity.Goals as goal

pub returns : goal.returns
returns g c = λ j in_lane. rw (c.xor-2.ensures j in_lane, c.xor.ensures j in_lane) refl
