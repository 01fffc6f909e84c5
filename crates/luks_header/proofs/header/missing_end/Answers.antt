use Rattle.std.proofs.Common.{arith}
use Rattle.luks_header.proofs.HorizonLemmas.{next_near}
use Rattle.luks_header.proofs.header.missing_end.Goals as goal

pub returns-then-bytes-end-clause-some : goal.returns-then-bytes-end-clause-some
returns-then-bytes-end-clause-some c =
    let need = rw c.as_slice-bytes.ensures.value at c.next_end-end.ensures.next in
    let more = rw c.as_slice-bytes.ensures.value at c.if-bytes-end.true in (
      need,
      more,
      c.next_end-end.ensures.least c.if-bytes-end.true,
      omega (arith, next_near c.args.area.now.bytes c.next_end-end.result need more),
    )
