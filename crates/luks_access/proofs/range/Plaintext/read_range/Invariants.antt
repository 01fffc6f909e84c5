use Rattle.std.proofs.Common.{◌-◌, ◌≤◌, Ok, length, take}
use Rattle.luks_access.specs.Opens.{cipher_of}
use Rattle.luks_access.specs.Sectors.{ReadsRange}
use Rattle.luks_access.proofs.range.Plaintext.read_range.Given as goal

-- the bytes so far are those of the range
abbrev pub invariant-steps : goal.invariant-steps
invariant-steps g l = record {
  few : l.done ≤ length l.buf;
  reads : ReadsRange l.self.volume.now.segment (cipher_of l.self.volume.now) l.self.len
      (g.I.ReadAt.image l.self.image.now) (g.I.ReadAt.fails l.self.image.now) l.offset (Ok tt) (take l.done l.buf);
}

abbrev pub decreases-steps : goal.decreases-steps
decreases-steps g l = length l.initial.buf - l.done
