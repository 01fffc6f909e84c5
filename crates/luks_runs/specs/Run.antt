-- The outcome of a run, its effects on its devices, and what it still satisfies if it is aborted. Each device is
-- treated by itself: a run consumes this many bytes of the first and of the second input, and writes this output; what
-- that means for a device is a separate fact.
use Rattle.std.specs.Prelude.{◌≡◌, ℕ, ◌<◌, ◌≤◌, List, length, take, Bool, true, false, MatchBool, Option, []}
pub use Rattle.luks_report.specs.Texts.{result_message}
use Rattle.luks_report.specs.declared.message.Message.{Message}
use Rattle.luks_report.specs.declared.message.Message.TheVariants.{OutOfMemory, ReadFailed, WriteFailed}
use Rattle.luks_io.specs.Devices.{Appended}

-- how many bytes are consumed of each input
pub record Consumed : Type 0 where
  -- of the input that is read first: the image, the file with a detached header, the key, or the stripes
  pub input : ℕ
  -- of the payload's image if the header is detached; otherwise it is 0, since the payload is in the image that was
  -- counted
  pub payload : ℕ
  -- of the key file, or of the random bytes
  pub secret : ℕ

-- what a run gives: its output, its message, and how many bytes it consumes of each input
pub record Outcome : Type 0 where
  pub output : List ℕ
  pub message : Message
  pub consumed : Consumed

-- an outcome without output
abbrev pub no_output : Message → ℕ → ℕ → Outcome
no_output message input secret =
    record { output = []; message = message; consumed = record { input = input; payload = 0; secret = secret } }

-- an allocation, a read or a write failed
abbrev pub aborts : Message → Bool
aborts OutOfMemory = true
aborts ReadFailed = true
aborts WriteFailed = true
aborts _ = false

-- how promptly a run was aborted: a fact about its message, the bytes that it consumed of each input, and the length of
-- its output
abbrev pub Promptness : Type 1
Promptness = Message → Consumed → ℕ → Type 0

-- no promptness is specified
abbrev pub AnyPromptness : Promptness
AnyPromptness _ _ _ = Unit {0}

-- the output has a valid length: at most that of the specified output, less if a write failed, and none if memory ran
-- out
abbrev pub IsPrefixLen : Message → ℕ → ℕ → Type 0
IsPrefixLen OutOfMemory output specified = output ≡ 0
IsPrefixLen WriteFailed output specified = output < specified
IsPrefixLen _ output specified = output ≤ specified

-- what a run does to its devices: a fact about the bytes that it consumes of each input, and about its output
abbrev pub RunEffects : Type 1
RunEffects = Consumed → List ℕ → Type 0

-- an aborted run: its output is a prefix of the specified one, and no input was consumed further than specified
pub record Aborted (pace : Promptness) (outcome : Outcome) (message : Message) (Effects : RunEffects) : Type 0 where
  pub consumed : Consumed
  pub output_len : ℕ
  pub input_within : consumed.input ≤ outcome.consumed.input
  pub payload_within : consumed.payload ≤ outcome.consumed.payload
  pub secret_within : consumed.secret ≤ outcome.consumed.secret
  pub output_within : IsPrefixLen message output_len (length outcome.output)
  pub is_prompt : pace message consumed output_len
  pub effects : Effects consumed (take output_len outcome.output)

-- a run that was not aborted: the specified message, output and bytes consumed
pub record Completed (outcome : Outcome) (message : Message) (Effects : RunEffects) : Type 0 where
  pub as_specified : message ≡ outcome.message
  pub effects : Effects outcome.consumed outcome.output

-- the run has this outcome, or was aborted on the way to it
abbrev pub OutcomeMatches : Promptness → Outcome → Message → RunEffects → Type 0
OutcomeMatches pace outcome message Effects =
    MatchBool (aborts message) (Aborted pace outcome message Effects) (Completed outcome message Effects)

-- nothing is consumed of an input that a command does not have
abbrev pub ConsumedNothing : ℕ → Type 0
ConsumedNothing count = count ≡ 0

-- the effects of a run that has no image for the payload alone: one fact for each of its devices
abbrev pub EffectsOf : (ℕ → Type 0) → (ℕ → Type 0) → (List ℕ → Type 0) → RunEffects
EffectsOf ConsumedInput ConsumedSecret Wrote consumed output = ConsumedInput consumed.input
    × ConsumedNothing consumed.payload × ConsumedSecret consumed.secret × Wrote output

-- a run that has no image for the payload alone has this outcome, or was aborted on the way to it
abbrev pub RunMatches : Promptness → Outcome → Message → (ℕ → Type 0) → (ℕ → Type 0) → (List ℕ → Type 0) → Type 0
RunMatches pace outcome message ConsumedInput ConsumedSecret Wrote =
    OutcomeMatches pace outcome message (EffectsOf ConsumedInput ConsumedSecret Wrote)

-- a failed read is reported
abbrev pub is_run_read_failure : Message → Bool
is_run_read_failure ReadFailed = true
is_run_read_failure _ = false

-- a failed write is reported
abbrev pub is_run_write_failure : Message → Bool
is_run_write_failure WriteFailed = true
is_run_write_failure _ = false

-- printing a text, with the message `whole_message` if it is printed whole: memory ran out before its first byte, a
-- write failed within it, or all of it was written
abbrev pub Prints : List ℕ → Message → Option (List ℕ) → Option (List ℕ) → Message → Type 0
Prints text whole_message before after OutOfMemory = after ≡ before
Prints text whole_message before after WriteFailed = (n : ℕ) × (n < length text) × Appended before after (take n text)
Prints text whole_message before after ReadFailed = ⊥
Prints text whole_message before after message = (message ≡ whole_message) × Appended before after text
