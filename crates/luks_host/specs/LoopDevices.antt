-- The entry in `/sys` that names the file under a loop device: the kernel's Documentation/ABI/stable/sysfs-block, and
-- `loop_attr_backing_file_show` of its driver.
use Rattle.std.specs.Prelude.{◌≡◌, ℕ, List, ◌++◌, codes}
use Rattle.std.specs.Fmt.{decimal}
use Rattle.luks_host.specs.DeviceNumbers.{HasParts}

-- the entry of the block device with these parts of its number
unfoldable pub backing_entry : ℕ → ℕ → List ℕ
backing_entry major minor =
    codes "/sys/dev/block/" ++ decimal major ++ codes ":" ++ decimal minor ++ codes "/loop/backing_file"

-- the entry of the block device with this number
pub record IsBackingEntry (number : ℕ) (name : List ℕ) : Type 0 where
  pub major : ℕ
  pub minor : ℕ
  pub parts : HasParts number major minor
  pub text : name ≡ backing_entry major minor
