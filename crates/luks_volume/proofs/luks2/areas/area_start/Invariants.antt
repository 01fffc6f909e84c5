use Rattle.std.proofs.Common.{◌≡◌, ◌+◌, ◌*◌, ◌≤◌}
use Rattle.luks_volume.specs.Ranges2.{area_start}
use Rattle.luks_volume.proofs.luks2.areas.area_start.Given as goal

-- the lengths of the areas so far are added
abbrev pub invariant-slots : goal.invariant-slots
invariant-slots l = record {
  value : l.start ≡ area_start l.seal l.lower;
  most : l.start ≤ 8388608 + l.lower * 258048;
}
