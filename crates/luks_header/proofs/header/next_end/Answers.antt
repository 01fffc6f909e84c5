use Rattle.std.proofs.Common.{rules, ◌∙◌, sym}
use Rattle.luks_header.proofs.LoadingLemmas.{next_first, next_other}
use Rattle.luks_header.proofs.header.next_end.Goals as goal

pub returns-then-bytes-lt-HEADER1_LEN-clause-next : goal.returns-then-bytes-lt-HEADER1_LEN-clause-next
returns-then-bytes-lt-HEADER1_LEN-clause-next c = next_first c.args.bytes.now (λ long. search rules)

pub returns-clause-next : goal.returns-clause-next
returns-clause-next c =
    next_other c.args.bytes.now c.next_end2.result c.if-bytes-lt-HEADER1_LEN.false
    (sym c.is_header1.ensures ∙ c.if-is_header1.false) c.next_end2.ensures.next
