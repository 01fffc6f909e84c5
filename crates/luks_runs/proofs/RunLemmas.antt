-- Runs that are aborted, runs that print a text, and runs of the commands on headers.
use Rattle.std.proofs.Common.{◌≡◌, ℕ, ◌≤◌, List, [], Option, refl, length, take, arith, Bool, true, false, Ok, Err}
use Rattle.luks_io.proofs.EffectLemmas.{appended-none}
use Rattle.luks_io.specs.Devices.{Appended, ConsumedExactly, counted}
use Rattle.luks_report.specs.declared.message.Message.{Message}
use Rattle.luks_report.specs.declared.message.Message.TheVariants.{OutOfMemory, ReadFailed, WriteFailed, Done, Findings}
use Rattle.luks_runs.specs.Run.{Prints, Aborted, AnyPromptness, ConsumedNothing, IsPrefixLen, Promptness}
use Rattle.luks_runs.specs.Run.{RunEffects, RunMatches}
use Rattle.luks_runs.specs.Run.{Outcome, no_output}
use Rattle.std.specs.Prelude.{◌==◌, if◌then◌else◌}
use Rattle.luks_header.specs.Header.{ReadsNoHeader, header_read_len}
use Rattle.luks_header.proofs.KnownLemmas.{memory_below}
use Rattle.luks_header.specs.declared.header.Header.{Header}
use Rattle.luks_format.specs.declared.fault.HeaderFault.{HeaderFault}
use Rattle.luks_format.specs.declared.fault.HeaderFault.TheVariants.{Read, Memory}
use Rattle.luks_runs.specs.HeaderOutcome.{message_for_is_luks, is_luks_outcome, print_outcome_by, printout_text}
use Rattle.luks_runs.specs.HeaderOutcome.{printout_message}
use Rattle.luks_report.specs.Faults.{message_for_header}
use Rattle.luks_open.specs.Location.{reader_for}
use Rattle.luks_open.specs.declared.location.HeaderLocation.{HeaderLocation}
use Rattle.luks_runs.specs.declared.headers.Printout.{Printout}
use Rattle.luks_runs.specs.declared.headers.Printout.TheVariants.{Uuid, Dump, Check}
use Rattle.luks_report.specs.Texts.{findings_of, message_for_check}
use Rattle.luks_open.proofs.VolumeLemmas.{reading_fault}

-- a source over memory, whose count of failures stays 0, has no failed read to report
pub never_failed : (failed : Bool) → 0 ≡ counted failed 0 → failed ≡ false
never_failed true count = absurd (cc)
never_failed false count = refl

-- a run was aborted after these numbers of bytes were consumed and written
pub aborted_at : {is_prompt : Promptness} {o : Outcome} {message : Message}
    {Effects : RunEffects} (input payload secret written : ℕ) → IsPrefixLen message written (length o.output)
    → is_prompt message (record { input = input; payload = payload; secret = secret }) written
    → input ≤ o.consumed.input → payload ≤ o.consumed.payload → secret ≤ o.consumed.secret
    → Effects (record { input = input; payload = payload; secret = secret }) (take written o.output)
    → Aborted is_prompt o message Effects
aborted_at input payload secret written begins prompt input_within payload_within secret_within effects =
    record {
      consumed = record { input = input; payload = payload; secret = secret };
      output_len = written;
      input_within = input_within;
      payload_within = payload_within;
      secret_within = secret_within;
      output_within = begins;
      is_prompt = prompt;
      effects = effects;
    }

-- a run was aborted before anything was written
pub aborted_unwritten : {is_prompt : Promptness} {o : Outcome} {message : Message} {Effects : RunEffects}
    (input secret : ℕ) → IsPrefixLen message 0 (length o.output)
    → is_prompt message (record { input = input; payload = 0; secret = secret }) 0
    → input ≤ o.consumed.input → secret ≤ o.consumed.secret
    → Effects (record { input = input; payload = 0; secret = secret }) [] → Aborted is_prompt o message Effects
aborted_unwritten input secret begins prompt input_within secret_within effects =
    aborted_at input 0 secret 0 begins prompt input_within (omega arith) secret_within effects

-- the output was printed, whole or in part, or memory for it ran out
pub runs_printed : (o : Outcome) (ConsumedInput ConsumedSecret : ℕ → Type 0) (w w' : Option (List ℕ))
    (message : Message) → ConsumedInput o.consumed.input → o.consumed.payload ≡ 0 → ConsumedSecret o.consumed.secret
    → Prints o.output o.message w w' message
    → RunMatches AnyPromptness o message ConsumedInput ConsumedSecret (Appended w w')
runs_printed o ConsumedInput ConsumedSecret w w' OutOfMemory input none secret same = rw same
    (aborted_unwritten o.consumed.input o.consumed.secret refl tt (omega arith) (omega arith)
    (input, refl, secret, appended-none _))
runs_printed o ConsumedInput ConsumedSecret w w' WriteFailed input none secret part =
    aborted_at o.consumed.input 0 o.consumed.secret part.0 part.1 tt (omega arith) (omega arith) (omega arith)
    (input, refl, secret, part.2)
runs_printed o ConsumedInput ConsumedSecret w w' ReadFailed input none secret lost = absurd lost
runs_printed o ConsumedInput ConsumedSecret w w' _ input none secret all =
    record { as_specified = all.0; effects = (input, none, secret, all.1) }

-- what holds for `Done`, and in a check also for `Findings`, holds for the message after a text was printed
pub by_printout : (P : Printout → Message → Type 0) → P Uuid Done → P Dump Done → P Check Done → P Check Findings
    → (printout : Printout) (header : Header) → P printout (printout_message printout header)
unfolding message_for_check
by_printout P uuid dump clean found Uuid header = uuid
by_printout P uuid dump clean found Dump header = dump
by_printout P uuid dump clean found Check header = by (length (findings_of header) == 0)
  where
    by : (b : Bool) → P Check (if b then Done else Findings)
    by true = clean
    by false = found

-- if the text was written, it was printed, with its message
pub printout_written : (printout : Printout) (header : Header) (text : List ℕ) (before after : Option (List ℕ))
    → text ≡ printout_text printout header → Appended before after text
    → Prints (printout_text printout header) (printout_message printout header) before after
    (printout_message printout header)
printout_written printout header text before after is a =
    let all : Appended before after (printout_text printout header) = rw is at a in
    by_printout (λ _ message. Prints (printout_text printout header) message before after message) (refl, all)
    (refl, all) (refl, all) (refl, all) printout header

module _ (location : HeaderLocation) (printout : Printout) (image : List ℕ) (i w : Option (List ℕ)) where
  -- the header was read, and the text was printed, whole or in part, or memory for it ran out
  pub runs_with_text : (header : Header) → reader_for location image ≡ Ok header
      → ConsumedExactly image i (header_read_len image) → (message : Message) (w' : Option (List ℕ))
      → Prints (printout_text printout header) (printout_message printout header) w w' message
      → RunMatches AnyPromptness (print_outcome_by (reader_for location) printout image) message
      (ConsumedExactly image i) ConsumedNothing (Appended w w')
  runs_with_text header found left message w' printed = rw found
      (runs_printed (record (no_output (printout_message printout header) (header_read_len image) 0)
      { output = printout_text printout header }) (ConsumedExactly image i) ConsumedNothing w w' message left refl refl
      printed)

  -- the image has no readable header, or reading it failed
  pub runs_without_header : (ends ends' : ℕ) (fault : HeaderFault) → ReadsNoHeader image i ends ends' fault
      → RunMatches AnyPromptness (print_outcome_by (reader_for location) printout image)
      (message_for_header fault) (ConsumedExactly image i) ConsumedNothing (Appended w w)
  runs_without_header ends ends' Read stop =
      let some = stop.0 in aborted_unwritten some.0 0 (omega arith) tt some.1 (omega arith)
      (some.2, refl, refl, appended-none _)
  runs_without_header ends ends' Memory stop =
      let some = memory_below image i ends ends' stop in
      aborted_unwritten some.0 0 refl tt some.1 (omega arith) (some.2, refl, refl, appended-none _)
  runs_without_header ends ends' fault stop = rw (reading_fault location image fault stop.0) (record
      { as_specified = refl; effects = (stop.1.0, refl, refl, appended-none w) })

-- `isLuks` of an image without a readable header, or if reading the header failed
pub is_luks_refused : (image : List ℕ) (i w : Option (List ℕ)) (ends ends' : ℕ) (fault : HeaderFault)
    → ReadsNoHeader image i ends ends' fault
    → RunMatches AnyPromptness (is_luks_outcome image) (message_for_is_luks (Err fault)) (ConsumedExactly image i)
    ConsumedNothing (Appended w w)
is_luks_refused image i w ends ends' Read stop =
    let some = stop.0 in aborted_unwritten some.0 0 (omega arith) tt some.1 (omega arith)
    (some.2, refl, refl, appended-none _)
is_luks_refused image i w ends ends' Memory stop =
    let some = memory_below image i ends ends' stop in
    aborted_unwritten some.0 0 refl tt some.1 (omega arith) (some.2, refl, refl, appended-none _)
is_luks_refused image i w ends ends' _ stop =
    rw stop.0 (record { as_specified = refl; effects = (stop.1.0, refl, refl, appended-none w) })
