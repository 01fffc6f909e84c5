use Rattle.std.proofs.Common.{arith}
use Rattle.luks_kdf.specs.Hash.{hash_of}
use Rattle.luks_kdf.specs.declared.hash.Hash.TheVariants.{Sha384}
use Rattle.luks_kdf.proofs.Pbkdf2Lemmas.{lone_chain}
use Rattle.luks_kdf.proofs.lanes.Sha384Lanes.iterate.Goals as goal

pub returns : goal.returns
returns c = lone_chain (hash_of Sha384) 48 c.args.inner.now c.args.outer.now c.args.last.now c.args.xors.now
    c.xor_chain384.new.xors c.args.count c.args._used (omega arith) (omega arith) (omega arith) (omega arith)
    c.xor_chain384.ensures
