use Rattle.std.proofs.Common.{arith, rules}
use Rattle.luks_io.proofs.AheadLemmas.{forwards_buffered, stays_buffered}
use Rattle.luks_io.proofs.read_ahead.ReadAheadSourceSource.forward_buffered.Goals as goal

pub returns-clause-forwards : goal.returns-clause-forwards
returns-clause-forwards g c =
    let at = c.self.inside in
    let put = c.put_transformed-answer in
    rw (← c.self.view_is)
    (forwards_buffered at.buffer.items put.new.buffer at.buffer.len at.start at.end c.args.count (omega arith)
    (omega arith) (search rules) (search rules) (search rules) _ _ _ (g.C.Transform.transformed c.args.transform.now)
    put.result _ (search rules) (search rules))

pub returns-clause-leaves : goal.returns-clause-leaves
returns-clause-leaves g c =
    let at = c.self.inside in
    let buffered = stays_buffered at.buffer.items c.put_transformed-answer.new.buffer at.buffer.len at.start at.end
    c.args.count (omega arith) (omega arith) (search rules) (search rules) (search rules) in
    rw (← c.self.view_is, buffered) (search rules)
