use Rattle.luks_kdf.proofs.LaneLemmas.{all_doubled, low_doubled}
use Rattle.luks_kdf.proofs.sha256_block.twice.Goals as goal

pub returns : goal.returns
returns c = record { twice = all_doubled c.args.x c.fits-x.0; word = low_doubled c.args.x c.fits-x.0 }
