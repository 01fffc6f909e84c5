use Rattle.std.proofs.Common.{arith, rules, ◌≡◌, length, take, drop}
use Rattle.luks_io.proofs.AheadLemmas.{copies_out_first}
use Rattle.luks_io.proofs.read_ahead.ReadAheadSource.copy_out.Goals as goal

pub returns-clause-bytes : goal.returns-clause-bytes
returns-clause-bytes g c =
    let at = c.self.inside in
    let piece : c.copy_from_slice.new.self ≡ take c.min-count.result (drop at.start at.buffer.items) = search rules in
    let long : length c.copy_from_slice.new.self ≡ c.min-count.result = search rules in
    rw (← c.self.view_is) (copies_out_first at.buffer.items c.args.buf.now c.copy_from_slice.new.self at.start at.end
    c.min-count.result long (omega arith) piece)
