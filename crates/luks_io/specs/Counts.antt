-- The counts that devices keep of their calls, what the calls in a part of a run add to them, and the models of devices
-- that keep them: over memory, over writers, and with a buffer for bytes that are read ahead.
use Rattle.std.specs.Prelude.{◌≡◌, ℕ, zero, suc, ◌-◌, ◌≤◌, ◌==◌, ◌||◌, nat_lt, is_err, Bool, List, [], Result, Ok, Err}
use Rattle.std.specs.Prelude.{Option, Some, None, ◌≢◌, ◌+◌, ◌⊎◌, length, max, min, IfOk, IsErr}
use Rattle.luks_io.specs.Devices.{counted, is_end, saturating_add}
use Rattle.luks_io.specs.declared.counts.ReadCounts.{ReadCounts}
use Rattle.luks_io.specs.declared.counts.WriteCounts.{WriteCounts}
use Rattle.luks_io.specs.declared.source.ReadFault.{ReadFault}

-- no caller needs this read: the buffer has no capacity, or a read before it failed or hit EOF
abbrev pub is_needless_read : ReadCounts → ℕ → Bool
is_needless_read counts capacity = capacity == 0 || (nat_lt 0 counts.failures || nat_lt 0 counts.ends)

-- the number of bytes that a read gave
abbrev pub given : {E : Type 0} → Result ℕ E → ℕ
given (Ok count) = count
given (Err _) = 0

-- the counts of a source that has not been read yet, and is not allowed to read ahead
abbrev pub unread : ReadCounts
unread = record { failures = 0; ends = 0; needless = 0; consumed = 0; reached = 0 }

-- the counts after one more read into a buffer of `capacity` bytes
abbrev pub after_read : {E : Type 0} → Result ℕ E → ℕ → ReadCounts → ReadCounts
after_read answer capacity counts = record {
  failures = counted (is_err answer) counts.failures;
  ends = counted (is_end answer capacity) counts.ends;
  needless = counted (is_needless_read counts capacity) counts.needless;
  consumed = saturating_add counts.consumed (given answer);
  reached = counts.reached;
}

-- the counts of the same source, if `count` more bytes are consumed without a read
abbrev pub with_consumed : ℕ → ReadCounts → ReadCounts
with_consumed count counts = record {
  failures = counts.failures;
  ends = counts.ends;
  needless = counts.needless;
  consumed = saturating_add counts.consumed count;
  reached = counts.reached;
}

-- the counts of the same source, if it is allowed to read ahead up to the position `end`
abbrev pub allowed_to : ℕ → ReadCounts → ReadCounts
allowed_to end counts = record {
  failures = counts.failures;
  ends = counts.ends;
  needless = counts.needless;
  consumed = counts.consumed;
  reached = max end counts.reached;
}

-- the counts after `count` buffered bytes, or none of them, were forwarded
abbrev pub after_forward : {A : Type 0} → Option A → ℕ → ReadCounts → ReadCounts
after_forward (Some _) count counts = with_consumed count counts
after_forward None count counts = counts

-- the number of bytes after the consumed ones that are allowed to be read ahead
abbrev pub ahead_of : ReadCounts → ℕ
ahead_of counts = counts.reached - counts.consumed

-- no read has failed or hit EOF so far
pub record IsLive (counts : ReadCounts) : Type 0 where
  pub failed : counts.failures ≡ 0
  pub ended : counts.ends ≡ 0

-- a live source was read only as needed
abbrev pub ReadsAsNeeded : ReadCounts → ReadCounts → Type 0
ReadsAsNeeded before after = IsLive before → after.needless ≡ before.needless

-- no caller needs this write: there are no bytes, or a write before it failed
abbrev pub is_needless_write : WriteCounts → ℕ → Bool
is_needless_write counts len = len == 0 || nat_lt 0 counts.failures

-- the counts after one more write of `len` bytes
abbrev pub after_write : {E : Type 0} → Result ℕ E → ℕ → WriteCounts → WriteCounts
after_write answer len counts = record {
  failures = counted (is_err answer) counts.failures;
  needless = counted (is_needless_write counts len) counts.needless;
}

-- if no write of a sink has failed before, it was written to only as needed
abbrev pub WritesAsNeeded : WriteCounts → WriteCounts → Type 0
WritesAsNeeded before after = before.failures ≡ 0 → after.needless ≡ before.needless

-- what the reads of a part of a run add to the counts of a source: a failure if one failed, an end if one hit EOF,
-- and nothing needless. No read-ahead is allowed
pub record Reads (failed ended : Bool) (before after : ReadCounts) : Type 0 where
  pub failures : after.failures ≡ counted failed before.failures
  pub ends : after.ends ≡ counted ended before.ends
  pub needed : ReadsAsNeeded before after
  pub reached : after.reached ≡ before.reached

-- what the writes of a part of a run add to the counts of a sink: a failure if one failed, and nothing needless
pub record Writes (failed : Bool) (before after : WriteCounts) : Type 0 where
  pub failures : after.failures ≡ counted failed before.failures
  pub needed : WritesAsNeeded before after

-- the number of bytes that were read, in all or before a read failed
abbrev pub got_in : Result ℕ ReadFault → ℕ
got_in (Ok count) = count
got_in (Err fault) = fault.got

-- the remaining bytes of a reader, by how often it has hit EOF: none after the first time
abbrev pub left_of : ℕ → Option (List ℕ) → Option (List ℕ)
left_of zero remaining = remaining
left_of (suc _) remaining = Some []

-- a source over memory, whose reads never fail: the remaining bytes, and all counts except that of failures
pub record MemSourceModel : Type 0 where
  pub left : List ℕ
  pub ends : ℕ
  pub needless : ℕ
  pub consumed : ℕ
  pub reached : ℕ

-- the counts of a source over memory
abbrev pub counts_of_memory : MemSourceModel → ReadCounts
counts_of_memory source = record {
  failures = 0;
  ends = source.ends;
  needless = source.needless;
  consumed = source.consumed;
  reached = source.reached;
}

-- a sink over memory: the bytes written, how many more fit, and the counts of its writes
pub record MemSinkModel : Type 0 where
  pub written : List ℕ
  pub capacity : ℕ
  pub counts : WriteCounts

-- a sink over a writer: the writer, and the counts of the sink's writes
pub record WriteSinkModel (W : Type 0) : Type 0 where
  pub writer : W
  pub counts : WriteCounts

-- a source that reads ahead: the source below, the buffered bytes, the buffer's capacity, and the counts of its own
-- reads. The buffered bytes are some of those that it is allowed to read ahead
pub record ReadAheadModel (S : Type 0) : Type 0 where
  pub source : S
  pub buffered : List ℕ
  pub capacity : ℕ
  pub counts : ReadCounts

-- the number of bytes after the buffered ones that are allowed to be read ahead
abbrev pub read_ahead_remaining : {S : Type 0} → ReadAheadModel S → ℕ
read_ahead_remaining source = ahead_of source.counts - length source.buffered

-- the largest number of bytes that a read of `requested` bytes consumes: those, or more if more are allowed to be read
-- ahead, as far as they fit into the buffer
abbrev pub max_read : ℕ → ℕ → ℕ → ℕ
max_read requested allowed capacity = max requested (min allowed capacity)

-- the effect of a read of `requested` bytes on a source that reads ahead: the source below is read only if nothing is
-- buffered and `requested` is not 0, at most `max_read` bytes of it are consumed, and a failure leaves what is buffered
pub record ReadsAhead {S E : Type 0} (requested : ℕ) (answer : Result ℕ E) (before after : ReadAheadModel S) : Type 0
  where
    pub alone : (before.buffered ≢ []) ⊎ (requested ≡ 0) → after.source ≡ before.source
    pub buffered : before.buffered ≢ [] → IfOk answer (λ count. count ≡ min requested (length before.buffered))
    pub most : IfOk answer (λ count. count + length after.buffered
        ≤ length before.buffered + max_read requested (read_ahead_remaining before) before.capacity)
    pub kept : IsErr answer → after.buffered ≡ before.buffered
    pub capacity : after.capacity ≡ before.capacity
