use Rattle.std.proofs.Common.{◌∙◌, ◌≡◌, ◌≢◌, ℕ, List, Option, Result, Ok, Err, Some, ap, arith, refl, rules, sym}
use Rattle.std.proofs.Common.{None, false, subst, true}
use Rattle.std.specs.Prelude.{MatchOption}
use Rattle.luks_io.specs.Counts.{MemSourceModel}
use Rattle.luks_access.specs.Keys.{check_in_header, key_check_of}
use Rattle.luks_open.specs.declared.fault.VolumeFault.{VolumeFault}
use Rattle.luks_open.specs.declared.volume_key.KeyCheck.{KeyCheck}
use Rattle.luks_open.specs.declared.volume_key.KeyCheck.TheVariants.{Matches, Differs, NoDigest}
use Rattle.luks_report.specs.declared.message.Message.{Message}
use Rattle.luks_report.specs.declared.message.Message.TheVariants.{Done}
use Rattle.luks_open.proofs.PrefixLemmas.{header_decided}
use Rattle.luks_runs.proofs.RunLemmas.{never_failed}
use Rattle.luks_runs.proofs.OutcomeLemmas.{message_says}
use Rattle.luks_open.specs.Volume.{HasSegmentBy}
use Rattle.luks_runs.specs.VolumeOutcome.{OpeningMessage}
use Rattle.luks_format.specs.declared.segment.Segment.{Segment}
use Rattle.luks_c.specs.Keys.{IsOfKey, check_code, is_compared}
use Rattle.luks_c.specs.Stored.{BeginsAs, code_for, limit_in, location_in}
use Rattle.luks_c.specs.declared.options.LuksrdOptions.{LuksrdOptions}
use Rattle.luks_open.specs.Location.{reader_for}
use Rattle.luks_open.specs.declared.location.HeaderLocation.{HeaderLocation}
use Rattle.luks_c.proofs.open_volume.compared.Goals as goal

-- the code of a comparison is one, and not that of bad options
compared_code : (check : KeyCheck) → (is_compared (check_code check) ≡ true) × (check_code check ≢ 15)
compared_code Matches = (refl, (λ is. absurd (omega arith)))
compared_code Differs = (refl, (λ is. absurd (omega arith)))
compared_code NoDigest = (refl, (λ is. absurd (omega arith)))

-- that of a refusal is neither
refused_code : (m : Message) → OpeningMessage m → (is_compared (code_for m) ≡ false) × (code_for m ≢ 15)
refused_code Done only = absurd only
refused_code _ only = (refl, (λ is. absurd (omega arith)))

-- the first bytes of an image decide what comparing a key with its header gives
decided : (c : LuksrdOptions) (location : HeaderLocation) (limit : Option ℕ) (image header key : List ℕ)
    (r : Result KeyCheck VolumeFault) → location ≡ location_in c → limit ≡ limit_in c → BeginsAs image header
    → key_check_of location limit header key ≡ r → key_check_of (location_in c) (limit_in c) image key ≡ r
unfolding key_check_of
decided c location limit image header key r at within begins is =
    ap (check_in_header (limit_in c) key) (header_decided (location_in c) image header begins)
    ∙ (ap (λ l. check_in_header (limit_in c) key (reader_for l header)) (sym at)
    ∙ (ap (λ n. check_in_header n key (reader_for location header)) (sym within) ∙ is))

-- the key was compared
pub returns-in-Ok-clause-compares : goal.returns-in-Ok-clause-compares
returns-in-Ok-clause-compares c =
    let code = c.answer_code-in-Ok.ensures.code ∙ c.code_of_check.ensures in
    let codes = compared_code c.in-Ok.check in
    record {
      compares = λ is. record {
        check = c.in-Ok.check;
        is_code = code;
        says = rw c.answer_code-in-Ok.ensures.code c.answer_code-in-Ok.ensures.message;
        gives = λ image begins.
            decided c.args.options.now c.in-Some.location c.in-Some.max_iterations image c.args.header.now
            c.args.key.now (Ok c.in-Ok.check) c.in-Some.ensures.1 c.in-Some.ensures.2 begins
            (c.in-Ok.ensures.checks c.args.header.now (ap (λ (g : MemSourceModel). Some g.left) c.new.ensures));
      };
      refuses = λ none other.
          let wrong : true ≡ false = sym codes.0 ∙ (ap is_compared (sym code) ∙ none) in absurd cc;
      bad = search rules;
      only_bad = λ bad. absurd (codes.1 (sym code ∙ bad));
    }

-- there was no header to compare it with
pub returns-in-Err-clause-compares : goal.returns-in-Err-clause-compares
returns-in-Err-clause-compares c =
    let code = c.answer_message.ensures.code ∙ ap code_for c.from.ensures in
    let codes = refused_code _ (message_says c.in-Err.fault).opening in
    record {
      compares = λ is. let wrong : false ≡ true = sym codes.0 ∙ (ap is_compared (sym code) ∙ is) in absurd cc;
      refuses = λ none other. record {
        fault = c.in-Err.fault;
        is_code = code;
        says = rw c.from.ensures at c.answer_message.ensures.message;
        only = c.in-Err.ensures.only;
        read = never_failed _ c.in-Err.ensures.reads.1.failures;
        gives = λ never image begins.
            decided c.args.options.now c.in-Some.location c.in-Some.max_iterations image c.args.header.now
            c.args.key.now (Err c.in-Err.fault) c.in-Some.ensures.1 c.in-Some.ensures.2 begins
            (c.in-Err.ensures.refuses never c.args.header.now
            (ap (λ (g : MemSourceModel). Some g.left) c.new.ensures));
      };
      bad = search rules;
      only_bad = λ bad. absurd (codes.1 (sym code ∙ bad));
    }

-- if the key matches, the segment is that of the header of each image that starts with these bytes
of_each : (c : LuksrdOptions) (location : HeaderLocation) (image header : List ℕ) (segment : Segment)
    → location ≡ location_in c → BeginsAs image header → HasSegmentBy (reader_for location) header segment
    → HasSegmentBy (reader_for (location_in c)) image segment
of_each c location image header segment at begins (read, found, is) =
    (read, header_decided (location_in c) image header begins ∙ (ap (λ l. reader_for l header) (sym at) ∙ found), is)

module _ (c : LuksrdOptions) (header key : List ℕ) (check : KeyCheck) (segment : Segment) (code : ℕ)
    (is : code ≡ check_code check) (of_key : check ≡ Matches → IsOfKey c header key segment) where
  with_segment : (found : Option Segment)
      → MatchOption found (check_code check ≢ 0) (λ s. (check ≡ Matches) × (s ≡ segment))
      → MatchOption found (code ≢ 0) (λ s. (code ≡ 0) × IsOfKey c header key s)
  with_segment None other = λ same. other (sym is ∙ same)
  with_segment (Some s) (matches, same) = (
    is ∙ ap check_code matches,
    subst (IsOfKey c header key) (sym same)
        (of_key matches),
  )

pub returns-in-Ok-clause-segment : goal.returns-in-Ok-clause-segment
returns-in-Ok-clause-segment c =
    let read = ap (λ (g : MemSourceModel). Some g.left) c.new.ensures in
    with_segment c.args.options.now c.args.header.now c.args.key.now c.in-Ok.check c.in-Ok.segment _
    (c.answer_code-in-Ok.ensures.code ∙ c.code_of_check.ensures) (λ matches. record {
      of_header = λ image begins.
          of_each c.args.options.now c.in-Some.location image c.args.header.now c.in-Ok.segment c.in-Some.ensures.1
          begins (c.in-Ok.ensures.segment c.args.header.now read);
      key_length = c.in-Ok.ensures.length matches;
    }) c.segment_if.result c.segment_if.ensures

pub returns-in-Err-clause-segment : goal.returns-in-Err-clause-segment
returns-in-Err-clause-segment c is =
    let codes = refused_code _ (message_says c.in-Err.fault).opening in
    let code = c.answer_message.ensures.code ∙ ap code_for c.from.ensures in
    let wrong : true ≡ false = ap is_compared (sym (sym code ∙ is)) ∙ codes.0 in absurd cc
