use Rattle.std.proofs.Common.{◌∙◌, List, ℕ, Option, subst}
use Rattle.luks_commands.proofs.OpenedRuns.{payload_unread}
use Rattle.luks_commands.proofs.execute.execute.Goals as goal
use Rattle.luks_commands.specs.Headline.{Change, RunsAsSpecified, WritesPlain}
use Rattle.luks_io.specs.Devices.{Appended}
use Rattle.luks_report.specs.declared.message.Message.{Message}
use Rattle.luks_request.specs.Request.{Request, luks_cat, request_of}
use Rattle.luks_open.specs.Allowed.{pbkdf2_alone}
use Rattle.luks_open.specs.declared.location.HeaderLocation.TheVariants.{Attached}
use Rattle.luks_runs.proofs.HonestVolumes.{unsealed}

-- a run of `luksCat` that matches its outcome and is not aborted writes the plaintext of an honestly sealed volume
writes_plain : (request : Request) (message : Message) (input payload secret output : Change (Option (List ℕ)))
    → RunsAsSpecified request Attached message
    (record { input = input; payload = payload; secret = secret; output = output })
    → WritesPlain request message input.before secret.before output
writes_plain (luks_cat o) message input payload secret output runs = λ known is pass has plain counted honest whole.
    let run = rw whole at (runs known is pass has counted) in
    let outcome = unsealed (pbkdf2_alone o.slots) known pass plain honest in (
      run.as_specified ∙ outcome.1,
      subst (λ (bytes : List ℕ). Appended output.before output.after bytes) outcome.0 run.effects.3,
    )
writes_plain _ message input payload secret output runs = tt

pub returns-clause-run : goal.returns-clause-run
returns-clause-run g c = payload_unread (request_of c.args.command.now) _ _ _ _ _ _ c.run.ensures.run

pub returns-clause-honest : goal.returns-clause-honest
returns-clause-honest g c = writes_plain (request_of c.args.command.now) _ _ _ _ _ c.run.ensures.run

pub returns-clause-calls : goal.returns-clause-calls
returns-clause-calls g c = let calls = c.run.ensures.calls in record {
  in_payload = calls.in_payload;
  reads = calls.reads;
  payload_reads = calls.payload_reads;
  out_writes = calls.out_writes;
}
