use Rattle.std.proofs.Common.{◌≡◌, ◌++◌}
use Rattle.luks_kdf.specs.Bytes.{joined}
use Rattle.luks_volume.specs.Layout1.{area1_of}
use Rattle.luks_volume.proofs.luks1.push_areas.Given as goal

-- the areas so far follow the bytes that were there before
abbrev pub invariant-slots : goal.invariant-slots
invariant-slots l = l.image.items ≡ l.fn.image.items ++ joined (area1_of l.seal) l.number
