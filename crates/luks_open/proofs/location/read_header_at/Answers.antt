use Rattle.luks_open.proofs.location.read_header_at.Goals as goal

pub returns-in-Attached-clause-consumed : goal.returns-in-Attached-clause-consumed
returns-in-Attached-clause-consumed g c known is = rw c.in-Attached.is (c.in_ok-header.ensures.consumed known is)
