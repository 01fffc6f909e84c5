-- In which storage a file's bytes are, and which files share one.
use Rattle.std.specs.Prelude.{◌≡◌, ◌⊎◌, Option, Some, None}
use Rattle.luks_host.specs.declared.storage.FileKind.{FileKind}
use Rattle.luks_host.specs.declared.storage.FileKind.TheVariants.{Regular, Directory, BlockDevice, Other}
use Rattle.luks_host.specs.declared.storage.FileFacts.{FileFacts}
use Rattle.luks_host.specs.declared.storage.SeenFile.{SeenFile}
use Rattle.luks_host.specs.declared.storage.Storage.{Storage}
use Rattle.luks_host.specs.declared.storage.Storage.TheVariants.{File, Device}

-- a file of this kind, with these numbers, is this storage: a regular file is identified by its file system and its
-- inode, a block device by its number alone
abbrev pub storage_by_kind : FileKind → FileFacts → Option Storage
storage_by_kind Regular file = Some (File file.device file.inode)
storage_by_kind BlockDevice file = Some (Device file.number)
storage_by_kind Directory file = None
storage_by_kind Other file = None

-- the storage that a file is
abbrev pub storage_of : FileFacts → Option Storage
storage_of file = storage_by_kind file.kind file

-- the storage of the file under a loop device
abbrev pub backing_storage_of : Option FileFacts → Option Storage
backing_storage_of (Some below) = storage_of below
backing_storage_of None = None

-- the storage under this file, if it is a loop device
abbrev pub backing_storage : SeenFile → Option Storage
backing_storage file = backing_storage_of file.backing

-- a file stores its bytes in this storage: it is that storage, or a loop device over it
abbrev pub IsStoredIn : SeenFile → Storage → Type 0
IsStoredIn file storage = (storage_of file.facts ≡ Some storage) ⊎ (backing_storage file ≡ Some storage)

-- some storage has bytes of both files
abbrev pub SharesStorage : SeenFile → SeenFile → Type 0
SharesStorage a b = (storage : Storage) × IsStoredIn a storage × IsStoredIn b storage

-- both are storages, and the same one
abbrev pub IsSame : Option Storage → Option Storage → Type 0
IsSame a b = (storage : Storage) × (a ≡ Some storage) × (b ≡ Some storage)
