use Rattle.std.proofs.Common.{arith}
use Rattle.luks_io.proofs.AheadLemmas.{read_consumes_at_most}
use Rattle.luks_io.proofs.read_ahead.ReadAheadSourceSource.read.Goals as goal

pub returns-then-ahead-buf-clause-within : goal.returns-then-ahead-buf-clause-within
returns-then-ahead-buf-clause-within g c =
    rw c.counted.ensures.counts
    (read_consumes_at_most _ _ c.read_unbuffered-answer.result c.read_unbuffered-answer.new.buf _ (omega arith)
    c.read_unbuffered-answer.ensures.bound c.read_unbuffered-answer.ensures.bytes)
