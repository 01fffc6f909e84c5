use Rattle.std.proofs.Common.{arith}
use Rattle.luks_kdf.specs.Hash.{hash_of}
use Rattle.luks_kdf.specs.declared.hash.Hash.TheVariants.{Sha224}
use Rattle.luks_kdf.proofs.Pbkdf2Lemmas.{lone_chain}
use Rattle.luks_kdf.proofs.lanes.Sha224Lanes.iterate.Goals as goal

pub returns : goal.returns
returns c = lone_chain (hash_of Sha224) 28 c.args.inner.now c.args.outer.now c.args.last.now c.args.xors.now
    c.iterate_by.new.xors c.args.count c.args._used (omega arith) (omega arith) (omega arith) (omega arith)
    c.iterate_by.ensures
