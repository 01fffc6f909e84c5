use Rattle.std.proofs.Common.{◌≡◌}
use Rattle.luks_kdf.specs.Bytes.{joined}
use Rattle.luks_volume.specs.Pieces.{encrypted_sector}
use Rattle.luks_volume.proofs.pieces.encrypted.Given as goal

-- the sectors so far are encrypted
abbrev pub invariant-fill : goal.invariant-fill
invariant-fill l = l.sectors.items ≡ joined (encrypted_sector l.cipher l.first l.step l.size l.plain) l.i
