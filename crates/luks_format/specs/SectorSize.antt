-- The lengths of sectors.
use Rattle.std.specs.Prelude.{◌%◌, ◌==◌, ℕ, Bool, true, [], ◌∷◌, Option}
use Rattle.std.specs.List.{find}
use Rattle.std.specs.Option.{option_map_or}
use Rattle.luks_format.specs.declared.sector_size.SectorSize.{SectorSize}
use Rattle.luks_format.specs.declared.sector_size.SectorSize.TheVariants.{B512, B1024, B2048, B4096}

-- the length of a sector in bytes
abbrev pub bytes_of : SectorSize → ℕ
bytes_of B512 = 512
bytes_of B1024 = 1024
bytes_of B2048 = 2048
bytes_of B4096 = 4096

-- the sector size of this many bytes, if there is one
abbrev pub sector_size_with : ℕ → Option SectorSize
sector_size_with bytes = find (λ size. bytes == bytes_of size) (B512 ∷ B1024 ∷ B2048 ∷ B4096 ∷ [])

-- the length of a payload is a multiple of the sectors' length, if it is fixed
abbrev pub has_whole_sectors : Option ℕ → SectorSize → Bool
has_whole_sectors size sector_size = option_map_or (λ bytes. bytes % bytes_of sector_size == 0) size true
