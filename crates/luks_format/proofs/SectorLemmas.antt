-- The lengths of sectors.
use Rattle.std.proofs.lemmas.Grind.{common_steps}
use Rattle.std.proofs.Common.{◌≡◌, ℕ, ◌%◌, ◌≤◌, Some, arith}
use Rattle.luks_format.specs.SectorSize.{bytes_of, sector_size_with}
use Rattle.luks_format.specs.declared.sector_size.SectorSize.{SectorSize}

-- a length of sectors: 512 to 4096 bytes, and whole blocks of the cipher
pub record IsSectorLen (n : ℕ) : Type 0 where
  pub long : 512 ≤ n
  pub short : n ≤ 4096
  pub blocks : n % 16 ≡ 0

pub sector_blocks : (size : SectorSize) → IsSectorLen (bytes_of size)
sector_blocks size = grind (arith, common_steps)

-- a sector size is the one with its number of bytes
pub sector_size_again : (size : SectorSize) → sector_size_with (bytes_of size) ≡ Some size
sector_size_again size = grind (arith, common_steps)
