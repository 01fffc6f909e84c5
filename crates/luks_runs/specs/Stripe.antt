-- The outcomes of the commands on stripes, how promptly a split is aborted, and what it adds to counts.
use Rattle.std.specs.Prelude.{ℕ, ◌≤◌, ◌+◌, ◌-◌, ◌*◌, ◌/◌, ◌&&◌, List, length, take, min, nat_lt, nat_le}
use Rattle.std.specs.Prelude.{if◌then◌else◌, ◌≡◌, not, Bool, true, false}
use Rattle.luks_kdf.specs.Stripes.{merged, split_stripes}
use Rattle.luks_kdf.specs.declared.hash.Hash.{Hash}
use Rattle.luks_report.specs.declared.message.Message.TheVariants.{Done, KeyLength, FewRandomBytes, FewStripes}
use Rattle.luks_report.specs.declared.message.Message.TheVariants.{ReadFailed, WriteFailed}
use Rattle.luks_runs.specs.Run.{Outcome, Promptness, no_output, is_run_read_failure}
use Rattle.luks_io.specs.Counts.{Reads}
use Rattle.luks_io.specs.declared.counts.ReadCounts.{ReadCounts}
use Rattle.luks_report.specs.declared.message.Message.{Message}

-- the length of the longest key in bytes
abbrev pub max_key_len : ℕ
max_key_len = 512

-- the length is one that a key may have
abbrev pub IsKeyLen : ℕ → Type 0
IsKeyLen len = (1 ≤ len) × (len ≤ max_key_len)

-- `afSplit`: the key is the whole first input, and the random bytes are the second one
unfoldable pub split_outcome : Hash → ℕ → List ℕ → List ℕ → Outcome
split_outcome hash count key random =
    let needed = (count - 1) * length key in
    if nat_lt 0 (length key) && nat_le (length key) max_key_len
    then (if nat_le needed (length random)
    then record (no_output Done (length key) needed) { output = split_stripes hash count key (take needed random) }
    else record (no_output FewRandomBytes (length key) (length random))
    { output = take (length random / length key * length key) random })
    else no_output KeyLength (min (length key) (max_key_len + 1)) 0

-- `afMerge`: the stripes are the first bytes of the image
unfoldable pub merge_outcome : Hash → ℕ → ℕ → List ℕ → Outcome
merge_outcome hash count key_bytes image =
    let needed = count * key_bytes in
    if nat_le needed (length image)
    then record (no_output Done needed 0) { output = merged hash key_bytes (take needed image) }
    else no_output FewStripes (length image) 0

-- an aborted split: if a write fails, nothing past the stripe in which it failed was consumed; if a read fails, the
-- whole random stripes that were consumed are written
abbrev pub PromptSplit : ℕ → Promptness
PromptSplit len WriteFailed consumed output = consumed.secret ≤ (output / len + 1) * len
PromptSplit len ReadFailed consumed output = output ≡ consumed.secret / len * len
PromptSplit len _ consumed output = Unit {0}

-- there were too few bytes: the end of the stripes or of the random bytes was hit
abbrev pub is_few : Message → Bool
is_few FewRandomBytes = true
is_few FewStripes = true
is_few _ = false

-- what a split adds to the counts of its sources: a failure of the key or of the random bytes if a read failed, and an
-- end of each that was hit
pub record ReadsForSplit (message : Message) (before before' next next' : ReadCounts) : Type 0 where
  pub in_key : Bool
  pub ended : Bool
  pub key : Reads (in_key && is_run_read_failure message) ended before before'
  pub random : Reads (not in_key && is_run_read_failure message) (is_few message) next next'
