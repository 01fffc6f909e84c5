use Rattle.std.proofs.Common.{refl}
use Rattle.luks_runs.specs.Run.{result_message}
use Rattle.luks_commands.proofs.OpenedRuns.{calls_without_payload, no_write_in_is_luks, reads_of_image}
use Rattle.luks_commands.specs.Headline.{ReadsOnce}
use Rattle.luks_commands.proofs.execute.run.Goals as goal

pub returns-in-IsLuks : goal.returns-in-IsLuks
returns-in-IsLuks g c = let said = c.report.ensures in rw (said.0, said.1, c.in-IsLuks.is) (record {
  run = λ input is. c.is_luks.ensures.run _ input is;
  work = c.new-work.ensures;
  only = c.is_luks.ensures.only;
  unneeded = λ _. refl;
  untouched = λ _. refl;
  reads_first = λ _ _. refl;
  calls = calls_without_payload c.args.location ReadsOnce (result_message c.is_luks.result)
      (λ failed before after reads. reads)
      (reads_of_image c.is_luks.ensures.reads.1) (no_write_in_is_luks _ c.is_luks.ensures.only);
})

pub returns-in-LuksUuid : goal.returns-in-LuksUuid
returns-in-LuksUuid g c = let said = c.report-in-LuksUuid.ensures in rw (said.0, said.1, c.in-LuksUuid.is) (record {
  run = λ input is. c.print.ensures.run input is;
  work = c.new-work.ensures;
  only = c.print.ensures.only;
  unneeded = λ _. refl;
  untouched = λ _. refl;
  reads_first = λ _. c.print.ensures.reads_first;
  calls = calls_without_payload c.args.location ReadsOnce (result_message c.print.result)
      (λ failed before after reads. reads)
      (reads_of_image c.print.ensures.reads.1) c.print.ensures.writes;
})

pub returns-in-LuksDump : goal.returns-in-LuksDump
returns-in-LuksDump g c = let said = c.report-in-LuksDump.ensures in rw (said.0, said.1, c.in-LuksDump.is) (record {
  run = λ input is. c.print-in-LuksDump.ensures.run input is;
  work = c.new-work.ensures;
  only = c.print-in-LuksDump.ensures.only;
  unneeded = λ _. refl;
  untouched = λ _. refl;
  reads_first = λ _. c.print-in-LuksDump.ensures.reads_first;
  calls = calls_without_payload c.args.location ReadsOnce (result_message c.print-in-LuksDump.result)
      (λ failed before after reads. reads)
      (reads_of_image c.print-in-LuksDump.ensures.reads.1) c.print-in-LuksDump.ensures.writes;
})

pub returns-in-LuksCheck : goal.returns-in-LuksCheck
returns-in-LuksCheck g c = let said = c.report-in-LuksCheck.ensures in rw (said.0, said.1, c.in-LuksCheck.is) (record {
  run = λ input is. c.print-in-LuksCheck.ensures.run input is;
  work = c.new-work.ensures;
  only = c.print-in-LuksCheck.ensures.only;
  unneeded = λ _. refl;
  untouched = λ _. refl;
  reads_first = λ _. c.print-in-LuksCheck.ensures.reads_first;
  calls = calls_without_payload c.args.location ReadsOnce (result_message c.print-in-LuksCheck.result)
      (λ failed before after reads. reads)
      (reads_of_image c.print-in-LuksCheck.ensures.reads.1) c.print-in-LuksCheck.ensures.writes;
})

pub returns-in-AfMerge : goal.returns-in-AfMerge
returns-in-AfMerge g c = let said = c.report-in-AfMerge.ensures in rw (said.0, said.1, c.in-AfMerge.is) (record {
  run = λ input is. c.merge.ensures.run input is;
  work = c.new-work.ensures;
  only = c.merge.ensures.only;
  unneeded = λ _. refl;
  untouched = λ _. refl;
  reads_first = λ _. c.merge.ensures.reads_first;
  calls = calls_without_payload c.args.location ReadsOnce (result_message c.merge.result)
      (λ failed before after reads. reads)
      (reads_of_image c.merge.ensures.reads) c.merge.ensures.writes;
})

pub returns-in-AfSplit : goal.returns-in-AfSplit
returns-in-AfSplit g c = let said = c.report-in-AfSplit.ensures in rw (said.0, said.1, c.in-AfSplit.is) (record {
  run = λ input is random has. c.split.ensures.run input is random has;
  work = c.new-work.ensures;
  only = c.split.ensures.only;
  unneeded = λ needs. c.split.ensures.unneeded needs.0 needs.1 needs.2;
  untouched = λ _. refl;
  reads_first = λ wrong. absurd wrong;
  calls =
      let reads = c.split.ensures.reads in
      calls_without_payload c.args.location ReadsOnce (result_message c.split.result)
      (λ failed before after reads. reads)
      (record { in_input = reads.in_key; input_reads = (_, reads.key); secret_reads = (_, reads.random) })
      c.split.ensures.writes;
})

pub returns-in-TestPassphrase : goal.returns-in-TestPassphrase
returns-in-TestPassphrase g c =
    let said = c.report-in-TestPassphrase.ensures in rw (said.0, said.1, c.in-TestPassphrase.is) (record {
      run = λ input is pass has. c.test_passphrase.ensures.run input is pass has;
      work = rw c.new-work.ensures at c.test_passphrase.ensures.work;
      only = c.test_passphrase.ensures.only;
      unneeded = λ needs. c.test_passphrase.ensures.unneeded needs.0 needs.1 needs.2;
      untouched = λ _. refl;
      reads_first = λ _. c.test_passphrase.ensures.reads_first;
      calls = calls_without_payload c.args.location ReadsOnce (result_message c.test_passphrase.result)
          (λ failed before after reads. reads)
          c.test_passphrase.ensures.counts c.test_passphrase.ensures.writes;
    })

pub returns-in-LuksCat : goal.returns-in-LuksCat
returns-in-LuksCat g c = let said = c.report-in-LuksCat.ensures in rw (said.0, said.1, c.in-LuksCat.is) (record {
  run = c.cat.ensures.run;
  work = rw c.new-work.ensures at c.cat.ensures.work;
  only = c.cat.ensures.only;
  unneeded = λ needs. c.cat.ensures.unneeded needs.0 needs.1 needs.2;
  untouched = c.cat.ensures.before_key;
  reads_first = λ wrong. absurd wrong;
  calls = c.cat.ensures.calls;
})
