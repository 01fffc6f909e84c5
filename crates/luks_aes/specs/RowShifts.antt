-- How many columns InvShiftRows rotates a row by (FIPS 197, 5.3.1).
use Rattle.std.specs.Prelude.{ℕ}
use Rattle.luks_aes.specs.declared.batch.lane.Columns.{Columns}
use Rattle.luks_aes.specs.declared.batch.lane.Columns.TheVariants.{One, Two, Three}

-- the number of columns
abbrev pub column_count : Columns → ℕ
column_count One = 1
column_count Two = 2
column_count Three = 3
