use Rattle.luks_format.proofs.Search2Lemmas.{next_both, next_found}
use Rattle.luks_format.proofs.header2_search.found_end.Goals as goal

pub returns-then-offset-gt0-clause-next : goal.returns-then-offset-gt0-clause-next
returns-then-offset-gt0-clause-next c = next_found c.args.bytes.now c.args.offset c.requires c.if-offset-gt0.true

pub returns-clause-next : goal.returns-clause-next
returns-clause-next c =
    rw c.probe_end.ensures.value (next_both c.args.bytes.now c.args.offset c.requires c.if-offset-gt0.false)
