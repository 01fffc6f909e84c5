use Rattle.std.proofs.Common.{arith}
use Rattle.luks_cipher.proofs.UnitLemmas.{piece_xor}
use Rattle.luks_cipher.proofs.block.xor_vector.Goals as goal

pub returns : goal.returns
returns c = piece_xor c.args.piece.now c.args.vector (omega arith) c.fits-vector.0
