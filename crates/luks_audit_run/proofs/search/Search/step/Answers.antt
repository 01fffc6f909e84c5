use Rattle.luks_audit_run.proofs.search.Search.step.Goals as goal

pub returns-clause-behind : goal.returns-clause-behind
returns-clause-behind g c image is = c.try_sector.ensures.behind image _ (c.in_ok-skipped.ensures.held image is)
