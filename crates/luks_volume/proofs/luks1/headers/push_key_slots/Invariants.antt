use Rattle.std.proofs.Common.{◌≡◌, ◌++◌}
use Rattle.luks_kdf.specs.Bytes.{joined}
use Rattle.luks_volume.specs.Layout1.{key_slot1_of}
use Rattle.luks_volume.proofs.luks1.headers.push_key_slots.Given as goal

-- the key slots so far follow the bytes that were there before
abbrev pub invariant-slots : goal.invariant-slots
invariant-slots l = l.header.items ≡ l.fn.header.items ++ joined (key_slot1_of l.seal) l.number
