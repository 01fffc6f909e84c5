-- The request that the arguments make.
use Rattle.std.specs.Prelude.{◌∷◌, [], ℕ, List, Option, Some, None, bytes_eq, codes}
use Rattle.std.specs.Prelude.{if◌then◌else◌, option_and_then, option_map}
use Rattle.clap.specs.Words.{Kinds, Row, Text, fault_of, first_of, subcommand_of}
use Rattle.clap.specs.declared.error.ErrorKind.{ErrorKind}
use Rattle.clap.specs.declared.error.ErrorKind.TheVariants.{OutOfMemory}
use Rattle.luks_kdf.specs.Hash.{hash_named}
use Rattle.luks_kdf.specs.declared.Hash.{Hash}
use Rattle.luks_request.specs.Number.{number_within, optional_within}
use Rattle.luks_request.specs.Request.{MergeRequest, VolumeRequest, HeaderRequest, Request, SplitRequest}
use Rattle.luks_request.specs.Request.{af_merge, af_split, is_luks, luks_cat, luks_check, luks_dump, luks_uuid}
use Rattle.luks_request.specs.Request.{reuses_stdin, test_passphrase}
use Rattle.luks_args.specs.Grammar.{luksrd}
use Rattle.luks_args.specs.declared.planning.PlanFault.{PlanFault}
use Rattle.luks_args.specs.declared.planning.PlanFault.TheVariants.{Memory, Usage}

infixl 10 ◌>>=◌
abbrev pub ◌>>=◌ : {A B : Type 0} → Option A → (A → Option B) → Option B
o >>= f = option_and_then f o

-- the text of the option or input
unfoldable pub text_in : Text → List Row → Option Text
text_in name rows = first_of name rows

-- the name of the input, which belongs to no option
abbrev pub input_in : List Row → Option Text
input_in rows = text_in (codes "input") rows

-- FILE of `--header`, if it is given
abbrev pub header_file_in : List Row → Option Text
header_file_in rows = text_in (codes "header") rows

-- the hash function that `--hash` names
unfoldable pub hash_option : List Row → Option Hash
hash_option rows = text_in (codes "hash") rows >>= hash_named

-- the number of `--stripes`
unfoldable pub stripes_in : List Row → Option ℕ
stripes_in rows = text_in (codes "stripes") rows >>= number_within 1 4000

-- the number of `--key-bytes`
unfoldable pub key_bytes_in : List Row → Option ℕ
key_bytes_in rows = text_in (codes "key-bytes") rows >>= number_within 1 512

-- `Some None` if `--key-slot` is left out; otherwise its number, if in range
unfoldable pub key_slot_in : List Row → Option (Option ℕ)
key_slot_in rows = optional_within 0 31 (text_in (codes "key-slot") rows)

-- `Some None` if `--max-iterations` is left out; otherwise its number, if in range
unfoldable pub max_iterations_in : List Row → Option (Option ℕ)
max_iterations_in rows = optional_within 1 4294967295 (text_in (codes "max-iterations") rows)

abbrev pub header_args_in : List Row → Option HeaderRequest
header_args_in rows = do
  image ← input_in rows
  Some (record { image = image; header = header_file_in rows })

abbrev pub volume_args_in : List Row → Option VolumeRequest
volume_args_in rows = do
  key_file ← text_in (codes "key-file") rows
  named ← key_slot_in rows
  max_iterations ← max_iterations_in rows
  image ← input_in rows
  Some (record {
    image = image;
    header = header_file_in rows;
    key_file = key_file;
    slots = record { named = named; max_iterations = max_iterations };
  })

abbrev pub split_args_in : List Row → Option SplitRequest
split_args_in rows = do
  hash ← hash_option rows
  stripes ← stripes_in rows
  random ← text_in (codes "random") rows
  key ← input_in rows
  Some (record { hash = hash; stripes = stripes; random = random; key = key })

abbrev pub merge_args_in : List Row → Option MergeRequest
merge_args_in rows = do
  hash ← hash_option rows
  stripes ← stripes_in rows
  key_bytes ← key_bytes_in rows
  stripes_file ← input_in rows
  Some (record { hash = hash; stripes = stripes; key_bytes = key_bytes; stripes_file = stripes_file })

-- the command on headers by its name, with its options
unfoldable pub header_request_in : Text → List Row → Option Request
header_request_in name rows =
    if bytes_eq name (codes "isLuks") then option_map is_luks (header_args_in rows)
    else (if bytes_eq name (codes "luksUUID") then option_map luks_uuid (header_args_in rows)
    else (if bytes_eq name (codes "luksDump") then option_map luks_dump (header_args_in rows)
    else (if bytes_eq name (codes "luksCheck") then option_map luks_check (header_args_in rows)
    else None)))

-- the command by its name, with its options
abbrev pub request_in : Text × List Row → Option Request
request_in (name, rows) =
    if bytes_eq name (codes "testPassphrase") then option_map test_passphrase (volume_args_in rows)
    else (if bytes_eq name (codes "luksCat") then option_map luks_cat (volume_args_in rows)
    else (if bytes_eq name (codes "afSplit") then option_map af_split (split_args_in rows)
    else (if bytes_eq name (codes "afMerge") then option_map af_merge (merge_args_in rows)
    else header_request_in name rows)))

-- nothing is found if there is a fault
abbrev pub unless_faulty : {A : Type 0} → Kinds → Option A → Option A
unless_faulty [] found = found
unless_faulty (fault ∷ faults) found = None

-- the subcommand that the arguments name and its texts, if `clap` finds no fault in the arguments
unfoldable pub subcommand_in : List Text → Option (Text × List Row)
subcommand_in words = unless_faulty (fault_of luksrd words) (subcommand_of luksrd words)

-- the request of the arguments after the program's name, if they are a luksrd command and do not reuse standard input
abbrev pub request_of_args : List Text → Option Request
request_of_args words = do
  found ← subcommand_in words
  request ← request_in found
  (if reuses_stdin request then None else Some request)

-- every error of `clap` is a fault of the arguments, except running out of memory
abbrev pub fault_for : ErrorKind → PlanFault
fault_for OutOfMemory = Memory
fault_for _ = Usage
