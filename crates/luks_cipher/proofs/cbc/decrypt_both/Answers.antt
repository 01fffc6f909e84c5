use Rattle.luks_cipher.proofs.UnitLemmas.{zeros_part}
use Rattle.luks_cipher.proofs.cbc.decrypt_both.Goals as goal

pub decrypt_pair_by-requires-clause-zeros : goal.decrypt_pair_by-requires-clause-zeros
decrypt_pair_by-requires-clause-zeros c = λ i. zeros_part 1024 1024 i
