-- The key file.
use Rattle.std.specs.Prelude.{ℕ, ◌+◌, ◌<◌, List, MatchResult, Option, Result, false, length, min, true}
use Rattle.luks_io.specs.Counts.{Reads}
use Rattle.luks_io.specs.Devices.{ConsumedExactly, ConsumedAtMost}
use Rattle.luks_io.specs.declared.counts.ReadCounts.{ReadCounts}
use Rattle.luks_open.specs.Fault.{is_passphrase_read_failure}
use Rattle.luks_open.specs.declared.fault.PassphraseFault.{PassphraseFault}
use Rattle.luks_open.specs.declared.fault.PassphraseFault.TheVariants.{TooLong, Read, Memory}

-- the length of the longest key file in bytes
abbrev pub max_key_file_len : ℕ
max_key_file_len = 8388608

-- how reading a key file failed: if it is too long, one byte more than the maximum length is consumed
abbrev pub NoKeyFileRead : List ℕ → Option (List ℕ) → PassphraseFault → Type 0
NoKeyFileRead secret left TooLong = (max_key_file_len < length secret)
    × ConsumedExactly secret left (max_key_file_len + 1)
NoKeyFileRead secret left Memory = ConsumedAtMost secret left (min (length secret) (max_key_file_len + 1))
NoKeyFileRead secret left Read = ConsumedAtMost secret left (min (length secret) (max_key_file_len + 1))

-- what reading a key file adds to the counts of its source: its end was hit if all of it was read, and not if it was
-- too long, a read failed, or memory ran out
abbrev pub ReadsKeyFile : {T : Type 0} → Result T PassphraseFault → ReadCounts → ReadCounts → Type 0
ReadsKeyFile result before after = MatchResult result (λ _. Reads false true before after)
    (λ fault. Reads (is_passphrase_read_failure fault) false before after)
