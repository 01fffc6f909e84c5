use Rattle.std.proofs.Common.{◌≡◌, ◌++◌}
use Rattle.luks_kdf.specs.Bytes.{joined}
use Rattle.luks_volume.specs.Layout2.{area_at}
use Rattle.luks_volume.proofs.luks2.areas.push_areas.Given as goal

-- the areas so far follow the bytes that were there before
abbrev pub invariant-slots : goal.invariant-slots
invariant-slots l = l.image.items ≡ l.fn.image.items ++ joined (area_at l.seal) l.number
