use Rattle.luks_commands.proofs.execute.volumes.write_plain.Goals as goal

pub returns-clause-run : goal.returns-clause-run
returns-clause-run g c = rw c.cipher.ensures at c.write_payload.ensures.run
