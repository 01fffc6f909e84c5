-- A request to luksrd: a command with its options, each text as its bytes.
use Rattle.std.specs.Prelude.{◌&&◌, ◌||◌, ℕ, Bool, false, List, Option, Some, None, bytes_eq, codes, is_some}
use Rattle.std.specs.Prelude.{option_map}
use Rattle.std.specs.Option.{option_map_or}
use Rattle.luks_kdf.specs.declared.Hash.{Hash}
use Rattle.luks_request.specs.declared.command.Command.{Command}
use Rattle.luks_request.specs.declared.command.Command.TheVariants.{AfMerge, AfSplit, IsLuks, LuksCat}
use Rattle.luks_request.specs.declared.command.Command.TheVariants.{LuksCheck, LuksDump, LuksUuid, TestPassphrase}
use Rattle.luks_request.specs.declared.command.HeaderArgs.{HeaderArgs}
use Rattle.luks_open.specs.declared.allowed.SlotChoice.{SlotChoice}
use Rattle.luks_request.specs.declared.command.VolumeArgs.{VolumeArgs}
use Rattle.luks_request.specs.declared.command.SplitArgs.{SplitArgs}
use Rattle.luks_request.specs.declared.command.MergeArgs.{MergeArgs}

-- a text, by its bytes
abbrev pub Argument : Type 0
Argument = List ℕ

pub record HeaderRequest : Type 0 where
  pub image : Argument
  pub header : Option Argument

pub record VolumeRequest : Type 0 where
  pub image : Argument
  pub header : Option Argument
  pub key_file : Argument
  pub slots : SlotChoice

pub record SplitRequest : Type 0 where
  pub hash : Hash
  pub stripes : ℕ
  pub random : Argument
  pub key : Argument

pub record MergeRequest : Type 0 where
  pub hash : Hash
  pub stripes : ℕ
  pub key_bytes : ℕ
  pub stripes_file : Argument

pub data Request : Type 0 where
  is_luks : HeaderRequest → Request
  luks_uuid : HeaderRequest → Request
  luks_dump : HeaderRequest → Request
  luks_check : HeaderRequest → Request
  test_passphrase : VolumeRequest → Request
  luks_cat : VolumeRequest → Request
  af_split : SplitRequest → Request
  af_merge : MergeRequest → Request

-- the first input: IMAGE, KEY or STRIPES
abbrev pub image_of : Request → Argument
image_of (is_luks r) = r.image
image_of (luks_uuid r) = r.image
image_of (luks_dump r) = r.image
image_of (luks_check r) = r.image
image_of (test_passphrase o) = o.image
image_of (luks_cat o) = o.image
image_of (af_split s) = s.key
image_of (af_merge m) = m.stripes_file

-- FILE of `--header`, if it is given: the detached header
abbrev pub header_file_of : Request → Option Argument
header_file_of (is_luks r) = r.header
header_file_of (luks_uuid r) = r.header
header_file_of (luks_dump r) = r.header
header_file_of (luks_check r) = r.header
header_file_of (test_passphrase o) = o.header
header_file_of (luks_cat o) = o.header
header_file_of _ = None

-- the header is detached
abbrev pub has_header_file : Request → Bool
has_header_file request = is_some (header_file_of request)

-- the second input, if there is one: FILE of `--key-file` or `--random`
abbrev pub secret_of : Request → Option Argument
secret_of (test_passphrase o) = Some o.key_file
secret_of (luks_cat o) = Some o.key_file
secret_of (af_split s) = Some s.random
secret_of _ = None

-- the input is given and is standard input
abbrev pub is_standard : Option Argument → Bool
is_standard input = option_map_or (λ name. bytes_eq name (codes "-")) input false

-- at least two of the three hold
abbrev pub two_of : Bool → Bool → Bool → Bool
two_of a b c = (a && b) || ((a && c) || (b && c))

-- at least two of IMAGE, FILE of `--header` and the second input are given and are standard input, which can be read
-- only once
abbrev pub reuses_stdin : Request → Bool
reuses_stdin request = two_of
    (is_standard (Some (image_of request)))
    (is_standard (header_file_of request))
    (is_standard (secret_of request))

-- ---- the request of a `Command`

abbrev pub header_request : HeaderArgs → HeaderRequest
header_request r = record { image = r.image.now; header = option_map (λ file. file.now) r.header }

abbrev pub volume_request : VolumeArgs → VolumeRequest
volume_request o = record {
  image = o.image.now;
  header = option_map (λ file. file.now) o.header;
  key_file = o.key_file.now;
  slots = o.slots;
}

abbrev pub split_request : SplitArgs → SplitRequest
split_request s = record { hash = s.hash; stripes = s.stripes.count; random = s.random.now; key = s.key.now }

abbrev pub merge_request : MergeArgs → MergeRequest
merge_request m = record {
  hash = m.hash;
  stripes = m.stripes.count;
  key_bytes = m.key_bytes.bytes;
  stripes_file = m.stripes_file.now;
}

abbrev pub request_of : Command → Request
request_of (IsLuks r) = is_luks (header_request r)
request_of (LuksUuid r) = luks_uuid (header_request r)
request_of (LuksDump r) = luks_dump (header_request r)
request_of (LuksCheck r) = luks_check (header_request r)
request_of (TestPassphrase o) = test_passphrase (volume_request o)
request_of (LuksCat o) = luks_cat (volume_request o)
request_of (AfSplit s) = af_split (split_request s)
request_of (AfMerge m) = af_merge (merge_request m)
