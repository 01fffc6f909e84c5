use Rattle.std.proofs.Common.{w64, arith}
use Rattle.luks_kdf.proofs.LaneLemmas.{ch_short}
use Rattle.luks_kdf.proofs.sha512_block.ch.Goals as goal

pub returns : goal.returns
returns c = ch_short w64 c.args.x c.args.y c.args.z (omega arith) (omega arith) (omega arith)
