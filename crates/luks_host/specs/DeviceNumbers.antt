-- The number of a device, as `makedev` of Linux encodes it: `gnu_dev_makedev` of the GNU C library, bits/sysmacros.h.
use Rattle.std.specs.Prelude.{◌≡◌, ℕ, ◌+◌, ◌*◌, ◌/◌, ◌%◌, ◌^◌, ◌<◌}

-- the number of the device with these parts: bits 0 to 7 are the low 8 bits of the minor number, bits 8 to 19 the low
-- 12 of the major number, bits 20 to 43 the rest of the minor number, and bits 44 to 63 the rest of the major number
abbrev pub device_number : ℕ → ℕ → ℕ
device_number major minor =
    minor % 2 ^ 8 + (major % 2 ^ 12) * 2 ^ 8 + (minor / 2 ^ 8) * 2 ^ 20 + (major / 2 ^ 12) * 2 ^ 44

-- a device's number is that of these parts, which have 32 bits each
pub record HasParts (number major minor : ℕ) : Type 0 where
  pub encoded : device_number major minor ≡ number
  pub major_fits : major < 2 ^ 32
  pub minor_fits : minor < 2 ^ 32
