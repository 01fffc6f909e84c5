use Rattle.std.proofs.Common.{◌≡◌, ◌*◌, length}
use Rattle.luks_kdf.specs.Bytes.{joined}
use Rattle.luks_kdf.specs.Stripes.{splitter_after}
use Rattle.luks_open.specs.Candidate.{material_sector}
use Rattle.luks_open.proofs.material.recover_by.Given as goal

-- the stripes of the sectors before this pair are absorbed
abbrev pub invariant-pairs : goal.invariant-pairs
invariant-pairs l = record {
  len : length l.splitter.block ≡ l.len;
  before : length (joined (material_sector l.key l.image l.offset) (2 * l.i)) ≡ l.i * 1024;
  absorbed : l.splitter ≡ splitter_after l.fn.af l.len (joined (material_sector l.key l.image l.offset) (2 * l.i))
      (l.i * l.in_pair);
}
