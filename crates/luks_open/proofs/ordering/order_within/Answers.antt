use Rattle.luks_open.specs.Opening.{order_within}
use Rattle.luks_open.proofs.ordering.order_within.Goals as goal

pub returns-in-None : goal.returns-in-None
unfolding order_within
returns-in-None c =
    record { answer = rw c.in-None.is c.order_all.ensures.answer; memory = rw c.in-None.is c.order_all.ensures.memory }
