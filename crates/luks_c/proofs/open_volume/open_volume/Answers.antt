use Rattle.std.proofs.Common.{◌∙◌, Some, ap, sym, ◌≢◌, arith, rules}
use Rattle.luks_io.specs.Counts.{MemSourceModel}
use Rattle.luks_cipher.proofs.ModeLemmas.{max_mode_key}
use Rattle.luks_report.specs.declared.message.Message.{Message}
use Rattle.luks_report.specs.declared.message.Message.TheVariants.{Done}
use Rattle.luks_open.proofs.PrefixLemmas.{opening_decided}
use Rattle.luks_runs.specs.VolumeOutcome.{OpeningMessage}
use Rattle.luks_open.specs.Volume.{VolumeOpening}
use Rattle.luks_runs.proofs.RunLemmas.{never_failed}
use Rattle.luks_runs.proofs.OutcomeLemmas.{message_says}
use Rattle.luks_access.specs.Opens.{allowed_by}
use Rattle.luks_c.specs.Stored.{code_for}
use Rattle.luks_c.proofs.open_volume.open_volume.Goals as goal

-- the code of a refusal is neither that of success nor that of bad options
refusal_code : (m : Message) → OpeningMessage m → (code_for m ≢ 0) × (code_for m ≢ 15)
refusal_code Done only = absurd only
refusal_code _ only = ((λ is. absurd (omega arith)), (λ is. absurd (omega arith)))

pub store-requires : goal.store-requires
store-requires c = rw c.key.ensures (max_mode_key _ _ c.in-Ok.opened.key_length)

-- a volume was opened
pub returns-in-Ok : goal.returns-in-Ok
returns-in-Ok c =
    let answers = c.in-Ok.ensures.answers c.args.header.now (ap (λ (g : MemSourceModel). Some g.left) c.new.ensures) in
    record {
      opens = λ done. record {
        options = c.in-Some.options;
        are = c.in-Some.ensures.made;
        opened = c.in-Ok.opened;
        filled = rw (c.segment.ensures, c.slot.ensures, c.key.ensures) at c.store.ensures;
        opens = λ image begins.
            ap (λ (o : VolumeOpening). o.result) (opening_decided c.in-Some.options.location
            (allowed_by c.in-Some.options)
            image c.args.header.now c.args.passphrase.now begins) ∙ answers.opens.opens;
        says = c.answer_message.ensures.message;
      };
      refuses = λ some. absurd (some c.answer_message.ensures.code);
      cleared = λ some. absurd (some c.answer_message.ensures.code);
      bad = search rules;
      only_bad = search rules;
    }

-- none was, and the struct is all zero
pub returns-in-Err : goal.returns-in-Err
returns-in-Err c =
    let answers = c.in-Err.ensures.answers c.args.header.now (ap (λ (g : MemSourceModel). Some g.left) c.new.ensures) in
    let code = c.answer_fault.ensures.code in
    let codes = refusal_code _ (message_says c.in-Err.fault).opening in
    record {
      opens = λ none. absurd (codes.0 (sym code ∙ none));
      refuses = λ some other. record {
        options = c.in-Some.options;
        are = c.in-Some.ensures.made;
        fault = c.in-Err.fault;
        is_code = code;
        says = c.answer_fault.ensures.message;
        read = never_failed _ c.in-Err.ensures.reads.1.failures;
        refuses = λ never image begins.
            ap (λ (o : VolumeOpening). o.result) (opening_decided c.in-Some.options.location
            (allowed_by c.in-Some.options)
            image c.args.header.now c.args.passphrase.now begins) ∙ answers.refuses.refuses never;
      };
      cleared = λ some. c.clear-in-Err.ensures;
      bad = search rules;
      only_bad = λ bad. absurd (codes.1 (sym code ∙ bad));
    }
