-- The kind of a file, from its mode: POSIX, <sys/stat.h>, with the numbers of Linux's <linux/stat.h>.
use Rattle.std.specs.Prelude.{ℕ, bit_and, nat_eq, if◌then◌else◌}
use Rattle.luks_host.specs.declared.storage.FileKind.{FileKind}
use Rattle.luks_host.specs.declared.storage.FileKind.TheVariants.{Regular, Directory, BlockDevice, Other}

-- the kind that a file type stands for: S_IFREG, S_IFDIR, S_IFBLK, or another one
abbrev pub kind_of_type : ℕ → FileKind
kind_of_type type =
    if nat_eq type 0o100000 then Regular
    else if nat_eq type 0o040000 then Directory
    else if nat_eq type 0o060000 then BlockDevice
    else Other

-- the kind of the file with this mode: its type is in the bits of S_IFMT
abbrev pub kind_of_mode : ℕ → FileKind
kind_of_mode mode = kind_of_type (bit_and mode 0o170000)
