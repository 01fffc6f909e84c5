use Rattle.std.proofs.Common.{arith}
use Rattle.luks_kdf.proofs.PairLemmas.{nested_three}
use Rattle.luks_kdf.proofs.sha512_block.big_sigma1.Goals as goal

pub returns : goal.returns
returns c = rw (c.rotate_right-3.ensures, c.rotate_right-2.ensures, c.rotate_right.ensures)
    (nested_three c.args.x 14 4 23 (omega arith) (omega arith))
