-- How the commands on volumes end after their volume was opened, and the counts of a run from those of its parts.
use Rattle.std.proofs.Common.{◌≡◌, ℕ, ◌+◌, ◌*◌, ◌/◌, ◌<◌, ◌≤◌, List, Option, Some, ◌⊎◌, inl, inr, Bool, true, false}
use Rattle.std.proofs.Common.{ap, refl, subst, sym, length, max, [], drop, take, length-drop, arith, ◌&&◌}
use Rattle.std.proofs.Common.{◌^◌}
use Rattle.luks_cipher.specs.Sector.{Cipher}
use Rattle.std.proofs.Math.Nat.{div-eq_of_lt-le, mul-le-mul_right}
use Rattle.std.specs.Prelude.{MatchBool}
use Rattle.luks_header.specs.Header.{header_of}
use Rattle.luks_format.specs.declared.segment.Segment.{Segment}
use Rattle.luks_io.specs.Devices.{Appended, ConsumedExactly, IfKnown}
use Rattle.luks_open.specs.declared.opening.Opened.{Opened}
use Rattle.luks_payload.specs.Plain.{payload_end_of, sector_len, sector_start, sectors_of}
use Rattle.luks_runs.proofs.PayloadLemmas.{plain_len}
use Rattle.luks_runs.proofs.RunLemmas.{aborted_at, runs_printed}
use Rattle.luks_commands.proofs.VolumeRuns.{prompt_memory, same_segment_by, unlocking}
use Rattle.luks_open.proofs.VolumeLemmas.{consumed_same}
use Rattle.luks_runs.specs.Run.{Consumed, Outcome, Prints, Aborted, AnyPromptness, Completed}
use Rattle.luks_runs.specs.Run.{OutcomeMatches, Promptness, RunEffects, RunMatches, aborts, is_run_read_failure}
use Rattle.luks_runs.specs.Run.{is_run_write_failure}
use Rattle.luks_runs.specs.VolumeOutcome.{payload_outcome, slot_outcome, volume_outcome, volume_outcome_by}
use Rattle.luks_runs.specs.VolumeOutcome.{CommandOpeningMessage, ConsumesLoaded, OpeningMessage}
use Rattle.luks_request.specs.Request.{Request, VolumeRequest, is_luks, luks_uuid, luks_dump, luks_check, luks_cat}
use Rattle.luks_request.specs.Request.{test_passphrase, af_split, af_merge}
use Rattle.luks_commands.specs.Headline.{CatAllows, Change, ConsumedAtLeast, CountsCalls, RunsAsSpecified}
use Rattle.luks_commands.specs.Headline.{CountsReads}
use Rattle.luks_commands.specs.Headline.{CountsTried, EndsWithoutKey, PromptCat, AbortedOpening}
use Rattle.luks_commands.specs.Headline.{ReadsOnce, ReadsPayload}
use Rattle.luks_commands.specs.Headline.{Trial}
use Rattle.luks_commands.specs.Unlocking.{EndsLocked, Unlocks}
use Rattle.luks_open.specs.Allowed.{pbkdf2_alone}
use Rattle.luks_open.specs.Location.{reader_for, detached_header_of}
use Rattle.luks_open.specs.declared.location.HeaderLocation.{HeaderLocation}
use Rattle.luks_open.specs.declared.location.HeaderLocation.TheVariants.{Attached, Detached}
use Rattle.luks_runs.specs.Payload.{ForwardsPayload, max_payload_end, with_payload_allowed}
use Rattle.luks_runs.specs.RunMessages.{IsLuksMessage, PayloadMessage}
use Rattle.luks_open.specs.declared.allowed.AllowedSlots.{AllowedSlots}
use Rattle.luks_report.specs.Texts.{opened_line}
use Rattle.luks_report.specs.declared.message.Message.{Message}
use Rattle.luks_report.specs.declared.message.Message.TheVariants.{Done, OutOfMemory, ReadFailed, WriteFailed}
use Rattle.luks_report.specs.declared.message.Message.TheVariants.{CutBeforePayload, Tail, Short}
use Rattle.luks_io.proofs.EffectLemmas.{consumed-none, no_reads, no_writes, reads_more}
use Rattle.luks_io.specs.Counts.{Reads, Writes, allowed_to}
use Rattle.luks_io.specs.declared.counts.ReadCounts.{ReadCounts}
use Rattle.luks_io.specs.declared.counts.WriteCounts.{WriteCounts}

-- a run also matches with a promptness and with effects that follow from its own
pub runs_at : (is_prompt is_prompt' : Promptness) (out : Outcome) (message : Message) (Effects Effects' : RunEffects)
    → ((consumed : Consumed) (output : ℕ) → is_prompt message consumed output → is_prompt' message consumed output)
    → ((consumed : Consumed) (output : List ℕ) → Effects consumed output → Effects' consumed output)
    → OutcomeMatches is_prompt out message Effects → OutcomeMatches is_prompt' out message Effects'
runs_at is_prompt is_prompt' out message Effects Effects' follows implied = either (aborts message)
  where
    either : (b : Bool) → MatchBool b (Aborted is_prompt out message Effects) (Completed out message Effects)
        → MatchBool b (Aborted is_prompt' out message Effects') (Completed out message Effects')
    either true run =
        aborted_at run.consumed.input run.consumed.payload run.consumed.secret run.output_len run.output_within
        (follows run.consumed run.output_len run.is_prompt)
        run.input_within run.payload_within run.secret_within
        (implied run.consumed (take run.output_len out.output) run.effects)
    either false run =
        record { as_specified = run.as_specified; effects = implied out.consumed out.output run.effects }

-- if the header is attached, the run does not depend on a device for the payload alone
pub payload_unread : (request : Request) (message : Message) (input payload payload' secret output : Change (Option
    (List ℕ)))
    → RunsAsSpecified request Attached message
    (record { input = input; payload = payload; secret = secret; output = output })
    → RunsAsSpecified request Attached message
    (record { input = input; payload = payload'; secret = secret; output = output })
payload_unread (is_luks _) message input payload payload' secret output runs = runs
payload_unread (luks_uuid _) message input payload payload' secret output runs = runs
payload_unread (luks_dump _) message input payload payload' secret output runs = runs
payload_unread (luks_check _) message input payload payload' secret output runs = runs
payload_unread (test_passphrase o) message input payload payload' secret output runs = runs
payload_unread (luks_cat o) message input payload payload' secret output runs = runs
payload_unread (af_split s) message input payload payload' secret output runs = runs
payload_unread (af_merge m) message input payload payload' secret output runs = runs

module _ (location : HeaderLocation) (slots : AllowedSlots) (image pass : List ℕ) (segment : Segment) (opened : Opened)
    (loaded : List ℕ) (i s : Option (List ℕ))
    (u : Unlocks (unlocking location slots image pass i s) segment opened loaded) where
  -- the line about the key slot was written, whole or in part, or memory for it ran out
  pub runs_slot : (w w' : Option (List ℕ)) (message : Message) → Prints (opened_line opened.slot) Done w w' message
      → RunMatches (AbortedOpening location slots image)
      (volume_outcome_by (reader_for location) (slot_outcome pass) slots image pass) message
      (ConsumedExactly image i) (ConsumedExactly pass s) (Appended w w')
  runs_slot w w' message printed = rw (u.outcome (slot_outcome pass))
      (runs_at AnyPromptness (AbortedOpening location slots image) _ message _ _
      (λ consumed n any. prompt_memory location slots image message consumed n (λ is. inr (inr u.there)))
      (λ consumed output done. done) (runs_printed (slot_outcome pass segment opened (length loaded))
      (ConsumedExactly image i)
      (ConsumedExactly pass s) w w' message u.input_consumed refl u.secret_consumed printed))

-- writing the line about the key slot ends with one of these messages, and reads nothing
pub slot_message : (slot : ℕ) (w w' : Option (List ℕ)) (message : Message)
    → Prints (opened_line slot) Done w w' message
    → (CommandOpeningMessage message ⊎ (message ≡ Done ⊎ message ≡ WriteFailed))
    × (is_run_read_failure message ≡ false)
slot_message slot w w' OutOfMemory printed = (inl (tt, tt), refl)
slot_message slot w w' WriteFailed printed = (inr (inr refl), refl)
slot_message slot w w' ReadFailed printed = absurd printed
slot_message slot w w' _ printed = (inr (inl printed.0), refl)

-- ---- `luksCat`

-- a write failed within sector `count` of the payload: the output ends before the plaintext does, and in that sector
positioned_within : (segment : Segment) (image : List ℕ) (count written : ℕ) → count < sectors_of segment image
    → written < sector_len segment
    → (count * sector_len segment + written < sectors_of segment image * sector_len segment)
    × ((count * sector_len segment + written) / sector_len segment ≡ count)
positioned_within segment image count written few less =
    let more : (count + 1) * sector_len segment ≡ count * sector_len segment + sector_len segment = omega arith in
    let span : (count + 1) * sector_len segment
    ≤ sectors_of segment image * sector_len segment = mul-le-mul_right (sector_len segment) (omega arith) in
    (omega arith, div-eq_of_lt-le (sector_len segment) (omega arith) (omega arith))

module _ (slots : AllowedSlots) (image pass : List ℕ) (segment : Segment) (opened : Opened) (loaded : List ℕ)
    (i s : Option (List ℕ)) (u : Unlocks (unlocking Attached slots image pass i s) segment opened loaded) where
  -- the payload was forwarded, to its end or not; the image was consumed as far as its source says
  pub runs_forwarded : (left i' w w' : Option (List ℕ)) (message : Message) → PayloadMessage message
      → ForwardsPayload segment (segment.mode, opened.key) image (length loaded) left w w' message
      → ((n : ℕ) → length loaded ≤ n → ConsumedExactly image left n → ConsumedExactly image i' n)
      → RunMatches (PromptCat Attached slots image)
      (volume_outcome (payload_outcome Attached image pass) slots image pass)
      message (ConsumedExactly image i') (ConsumedExactly pass s) (Appended w w')
  runs_forwarded left i' w w' OutOfMemory only forwarded as_source = absurd only
  runs_forwarded left i' w w' ReadFailed only (end, later, count, position, whole, inside, consumption, output)
      as_source =
      rw (u.outcome (payload_outcome Attached image pass)) (aborted_at end 0 (length pass) (count * sector_len segment)
      (omega (arith, plain_len segment image (segment.mode, opened.key), mul-le-mul_right (sector_len segment) whole)) (
        tt,
        λ other is is_past_header. rw (same_segment_by header_of image segment other u.has is)
            (ap (λ n. n * sector_len segment) position),
      ) (omega (arith, inside)) (omega arith) (omega arith)
      (as_source end later consumption, refl, u.secret_consumed, output))
  runs_forwarded left i' w w' WriteFailed only (count, written, few, less, inside, consumption, output) as_source =
      let end = max (length loaded) (sector_start segment (count + 1)) in
      let within = positioned_within segment image count written few less in
      rw (u.outcome (payload_outcome Attached image pass))
      (aborted_at end 0 (length pass) (count * sector_len segment + written)
      (omega (arith, plain_len segment image (segment.mode, opened.key), within.0)) (
        tt,
        λ other is. rw (same_segment_by header_of image segment other u.has is, within.1)
            (omega (arith, u.no_further refl)),
      )
      (omega (arith, inside)) (omega arith) (omega arith)
      (as_source end (omega arith) consumption, refl, u.secret_consumed, output))
  runs_forwarded left i' w w' message only forwarded as_source =
      let read = as_source (max (length loaded) (payload_end_of segment image)) (omega arith) forwarded.1 in
      rw (u.outcome (payload_outcome Attached image pass))
      (record { as_specified = forwarded.0; effects = (read, refl, u.secret_consumed, forwarded.2) })

  -- all of the image is loaded
  module _ (none : i ≡ Some []) where
    pub loaded_from_none : ConsumedExactly image (Some []) (length loaded)
    loaded_from_none = rw none at u.input_consumed

    -- a count from that of the loaded bytes up to the image's length is that of the whole image, which was consumed
    pub loaded_whole : (n : ℕ) → length loaded ≤ n → n ≤ length image → ConsumedExactly image i n
    loaded_whole n most within =
        let rest : Some [] ≡ Some (drop (length loaded) image) = loaded_from_none.left in
        let same : [] ≡ drop (length loaded) image = cc in
        let all : length loaded ≡ n = omega (arith, ap length same, length-drop (length loaded) image) in
        subst (ConsumedExactly image i) all u.input_consumed

-- ---- what trying the key slots had consumed

-- forwarding a payload consumed at least the loaded bytes
forwarded_at_least : (s : Segment) (cipher : Cipher) (image : List ℕ) (loaded : ℕ) (left before after : Option (List ℕ))
    (message : Message) → ForwardsPayload s cipher image loaded left before after message
    → ConsumedAtLeast image left loaded
forwarded_at_least s cipher image loaded left before after ReadFailed forwarded =
    (forwarded.0, forwarded.1, forwarded.6)
forwarded_at_least s cipher image loaded left before after WriteFailed forwarded = (_, omega arith, forwarded.5)
forwarded_at_least s cipher image loaded left before after message forwarded = (_, omega arith, forwarded.1)

-- after the key slots were tried, the payload was forwarded
pub counts_forwarded : (slots : AllowedSlots) (image pass : List ℕ) (segment : Segment) (opened : Opened)
    (loaded : List ℕ) (s i' w w' : Option (List ℕ)) (trial : Trial) (message : Message)
    → Unlocks (unlocking Attached slots image pass trial.image.after s) segment opened loaded
    → CountsTried Attached slots image pass trial
    → (length image < 2 ^ 64
    → ForwardsPayload segment (segment.mode, opened.key) image (length loaded) i' w w' message)
    → CountsTried Attached slots image pass
    (record trial { image = record { before = trial.image.before; after = i' } })
counts_forwarded slots image pass segment opened loaded s i' w w' trial message u tried forwarded
    = (
      tried.0,
      record {
        is_volume = tried.1.is_volume;
        key_file = tried.1.key_file;
        material = λ counted.
            let before = tried.1.material counted in
            let same = consumed_same image trial.image.after before.0 (length loaded) before.2 u.input_consumed in
            let cipher : Cipher = (segment.mode, opened.key) in
            let more = forwarded_at_least segment cipher image (length loaded) i' w w' message (forwarded counted) in
            (more.0, omega (arith, before.1, same, more.1), more.2);
      },
      tried.2,
    )

-- the payload's outcome consumes at least the loaded bytes of the image, or of the file with the header, and the whole
-- key file
pub payload_consumes_loaded : (location : HeaderLocation) (image pass : List ℕ)
    → ConsumesLoaded pass (payload_outcome location image pass)
payload_consumes_loaded Attached image pass =
    record { loaded = λ segment opened loaded. omega arith; whole = λ segment opened loaded. refl }
payload_consumes_loaded Detached image pass =
    record { loaded = λ segment opened loaded. omega arith; whole = λ segment opened loaded. refl }

-- a run of `luksCat` that opened no volume: it consumed nothing of an image that has the payload alone, and wrote
-- nothing
pub cat_locked : (location : HeaderLocation) (o : VolumeRequest) (message : Message)
    (input secret : Change (Option (List ℕ))) (payload output : Option (List ℕ))
    → IfKnown input.before (λ known. IfKnown secret.before (λ pass.
    EndsLocked location (pbkdf2_alone o.slots) known pass message input.after secret.after))
    → RunsAsSpecified (luks_cat o) location message (record {
      input = input;
      payload = record { before = payload; after = payload };
      secret = secret;
      output = record { before = output; after = output };
    })
cat_locked Attached o message input secret payload output ends = λ image is pass has counted.
    ends image is pass has (payload_outcome Attached image pass) (payload_consumes_loaded Attached image pass) output
cat_locked Detached o message input secret payload output ends = λ file is image knows pass has counted.
    runs_at (PromptCat Detached (pbkdf2_alone o.slots) file) (PromptCat Detached (pbkdf2_alone o.slots) file) _ _ _ _
    (λ consumed len prompt. prompt)
    (λ consumed bytes done. (
      done.0,
      subst (ConsumedExactly image payload) (sym done.1) (consumed-none image payload knows),
      done.2,
      done.3,
    ))
    (ends file is pass has (payload_outcome Detached image pass) (payload_consumes_loaded Detached image pass) output)

module _ (slots : AllowedSlots) (file image pass : List ℕ) (segment : Segment) (opened : Opened) (loaded : List ℕ)
    (h s : Option (List ℕ)) (u : Unlocks (unlocking Detached slots file pass h s) segment opened loaded)
    (i' w w' : Option (List ℕ)) where
  -- the payload was forwarded, to its end or not
  pub detached_runs_forwarded : (message : Message) → PayloadMessage message
      → ForwardsPayload segment (segment.mode, opened.key) image 0 i' w w' message
      → OutcomeMatches (PromptCat Detached slots file)
      (volume_outcome_by detached_header_of (payload_outcome Detached image pass) slots file pass) message
      (λ consumed output. ConsumedExactly file h consumed.input × ConsumedExactly image i' consumed.payload
      × ConsumedExactly pass s consumed.secret × Appended w w' output)
  detached_runs_forwarded OutOfMemory only forwarded = absurd only
  detached_runs_forwarded ReadFailed only (end, later, count, position, whole, inside, consumption, output) =
      rw (u.outcome (payload_outcome Detached image pass))
      (aborted_at (length loaded) end (length pass) (count * sector_len segment)
      (omega (arith, plain_len segment image (segment.mode, opened.key), mul-le-mul_right (sector_len segment) whole)) (
        tt,
        λ other is is_past_header. rw (same_segment_by detached_header_of file segment other u.has is)
            (ap (λ n. n * sector_len segment) position),
      )
      (omega arith) (omega (arith, inside)) (omega arith)
      (u.input_consumed, consumption, u.secret_consumed, output))
  detached_runs_forwarded WriteFailed only (count, written, few, less, inside, consumption, output) =
      let within = positioned_within segment image count written few less in
      rw (u.outcome (payload_outcome Detached image pass))
      (aborted_at (length loaded) (max 0 (sector_start segment (count + 1))) (length pass)
      (count * sector_len segment + written)
      (omega (arith, plain_len segment image (segment.mode, opened.key), within.0))
      (tt, λ other is. rw (same_segment_by detached_header_of file segment other u.has is, within.1) (omega arith))
      (omega arith) (omega (arith, inside)) (omega arith)
      (u.input_consumed, consumption, u.secret_consumed, output))
  detached_runs_forwarded message only forwarded =
      let all : max 0 (payload_end_of segment image) ≡ payload_end_of segment image = omega arith in
      let read = subst (ConsumedExactly image i') all forwarded.1 in
      rw (u.outcome (payload_outcome Detached image pass))
      (record { as_specified = forwarded.0; effects = (u.input_consumed, read, u.secret_consumed, forwarded.2) })

-- forwarding a payload ends with no message that a run without a key may have
pub with_key : (message : Message) → PayloadMessage message → EndsWithoutKey message → ⊥
with_key Done forwarded without = absurd without.0
with_key CutBeforePayload forwarded without = absurd without.0
with_key (Tail n) forwarded without = absurd without.0
with_key (Short n) forwarded without = absurd without.0
with_key WriteFailed forwarded without = absurd without.0
with_key ReadFailed forwarded without = let wrong : true ≡ false = without.1 in cc
with_key _ forwarded without = absurd forwarded

-- the first input alone was read
pub reads_of_image : {failed ended : Bool} {image : Change ReadCounts} {secret : ReadCounts}
    → Reads failed ended image.before image.after
    → CountsReads ReadsOnce failed image (record { before = secret; after = secret })
reads_of_image reads = record { in_input = true; input_reads = (_, reads); secret_reads = (false, no_reads _) }

-- no write fails in `isLuks`, which makes none
pub no_write_in_is_luks : (message : Message) {out : WriteCounts} → IsLuksMessage message
    → Writes (is_run_write_failure message) out out
no_write_in_is_luks WriteFailed only = absurd only
no_write_in_is_luks _ only = no_writes _

-- the volume was not opened, and nothing was written
pub no_write_unopened : (message : Message) {out : WriteCounts} → OpeningMessage message
    → Writes (is_run_write_failure message) out out
no_write_unopened WriteFailed only = absurd only
no_write_unopened _ only = no_writes _

-- no read of either input failed
pub none_failed : (in_it : Bool) (before after : ReadCounts) → ReadsOnce (in_it && false) before after
    → ReadsOnce false before after
none_failed true before after reads = reads
none_failed false before after reads = reads

-- if no read-ahead was allowed, it was allowed up to position 0
nothing_allowed : (failed ended : Bool) (before after : ReadCounts) → Reads failed ended before after
    → Reads failed ended (allowed_to 0 before) after
nothing_allowed failed ended before after reads = record {
  failures = reads.failures;
  ends = reads.ends;
  needed = λ live. reads.needed (record { failed = live.failed; ended = live.ended });
  reached = omega (arith, reads.reached);
}

-- the payload was not read: no read-ahead is allowed
pub none_allowed : (location : HeaderLocation) (slots : AllowedSlots) (message : Message)
    (known known_secret : Option (List ℕ)) (failed : Bool) (before after : ReadCounts) → ReadsOnce failed before after
    → ReadsPayload (CatAllows location slots message known known_secret) failed before after
none_allowed location slots message known known_secret failed before after reads = (
  0,
  ((λ without. refl), (λ file is pass has. inl refl)),
  (reads.0, nothing_allowed failed reads.0 before after reads.1),
)

-- a key was found, and then read-ahead was allowed up to the payload's end
pub allows_payload : (location : HeaderLocation) (slots : AllowedSlots) (message : Message)
    (input secret : Option (List ℕ)) (segment : Segment) (opened : Opened) (loaded : List ℕ)
    (input' secret' : Option (List ℕ)) → PayloadMessage message → IfKnown input (λ known. IfKnown secret
    (λ passphrase. Unlocks (unlocking location slots known passphrase input' secret') segment opened loaded))
    → CatAllows location slots message input secret (max_payload_end segment)
allows_payload location slots message input secret segment opened loaded input' secret' forwarded unlocks = (
  (λ without. absurd (with_key message forwarded without)),
  (λ known is passphrase has.
      inr (segment, (opened, length loaded, (unlocks known is passphrase has).outcome), refl)),
)

-- the start of the image was read before read-ahead of its payload was allowed, and then the payload
pub payload_after : (failed ended : Bool) (segment : Segment) (a b c : ReadCounts) → Reads false false a b
    → Reads failed ended (with_payload_allowed segment b) c → Reads failed ended (with_payload_allowed segment a) c
payload_after failed ended segment a b c first reads =
    reads_more failed ended (with_payload_allowed segment a) (with_payload_allowed segment b) c (record {
      failures = first.failures;
      ends = first.ends;
      needed = λ live. first.needed (record { failed = live.failed; ended = live.ended });
      reached = ap (λ n. max (max_payload_end segment) n) first.reached;
    }) reads

none_read : (image : ReadCounts) → ReadsOnce false image image
none_read image = (false, no_reads image)

-- no payload was read
pub calls_without_payload : (location : HeaderLocation) (ReadsIt : Bool → ReadCounts → ReadCounts → Type 0)
    (message : Message) {input secret : Change ReadCounts} {image : ReadCounts} {out : Change WriteCounts}
    → ((failed : Bool) (before after : ReadCounts) → ReadsOnce failed before after → ReadsIt failed before after)
    → CountsReads ReadsOnce (is_run_read_failure message) input secret
    → Writes (is_run_write_failure message) out.before out.after
    → CountsCalls location ReadsIt message (record {
      input = input;
      payload = record { before = image; after = image };
      secret = secret;
      output = out;
    })
calls_without_payload Attached ReadsIt message once reads writes = record {
  in_payload = false;
  reads = record {
    in_input = reads.in_input;
    input_reads = once _ _ _ reads.input_reads;
    secret_reads = reads.secret_reads;
  };
  payload_reads = refl;
  out_writes = writes;
}
calls_without_payload Detached ReadsIt message once reads writes = record {
  in_payload = false;
  reads = reads;
  payload_reads = once false _ _ (none_read _);
  out_writes = writes;
}
