use Rattle.luks_cipher.proofs.sector.SectorCipher.decrypt_units.Goals as goal

pub returns : goal.returns
returns c =
    let mode = c.unit_keys.ensures.mode in
    rw (← mode) (c.decrypt_units.ensures c.args.self.now.1 (rw mode c.unit_keys.ensures.keys))
