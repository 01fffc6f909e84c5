use Rattle.luks_host.proofs.PrintLemmas.{printed_by}
use Rattle.luks_host.proofs.ending.print_ending.Goals as goal

pub returns-clause-printed : goal.returns-clause-printed
returns-clause-printed g c =
    printed_by _ _ _ _ _ c.put_all.result c.put_all.ensures.ok c.put_all.ensures.err c.put_all.ensures.writes
