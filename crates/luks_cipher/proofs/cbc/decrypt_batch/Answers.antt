use Rattle.std.proofs.Common.{length}
use Rattle.luks_cipher.proofs.UnitLemmas.{zeros_part}
use Rattle.luks_cipher.proofs.cbc.decrypt_batch.Goals as goal

pub decrypt_by-requires-clause-zeros : goal.decrypt_by-requires-clause-zeros
decrypt_by-requires-clause-zeros c = λ i. zeros_part 1024 (length c.args.batch.now) i
