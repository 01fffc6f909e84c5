use Rattle.luks_payload.proofs.ForwardingLemmas.{unit_is}
use Rattle.luks_payload.proofs.decryption.DecryptionTransform.apply.Goals as goal

pub returns : goal.returns
returns c = unit_is c.args.self.now.cipher.now c.args.self.now.number c.args.bytes.now c.decrypt_unit.new.unit
    c.decrypt_unit.ensures.value
