use Rattle.std.proofs.Common.{ℕ, ◌+◌, ◌*◌, ◌%◌, ◌<◌, arith, ◌∙◌}
use Rattle.luks_aes.proofs.MixingLemmas.{inv_mixed, product_at}
use Rattle.luks_aes.proofs.ScheduleLemmas.{round_in_schedule, round_byte}
use Rattle.luks_aes.proofs.aes.AesKey.inv_mixed_round_key.Goals as goal

pub round_key-requires : goal.round_key-requires
round_key-requires c = round_in_schedule c.self.invariant c.self.view_is _ c.requires

pub returns : goal.returns
returns c = λ r k low small.
    let n = c.args.n in
    let is = c.self.invariant in
    let inside = round_in_schedule is c.self.view_is n c.requires in
    let same = λ (q : ℕ) (row : q < 4). round_byte is c.self.view_is n q k c.requires row small in
    c.round_key.ensures r k low small
    ∙ product_at c.self.inside.schedule.bytes _ 60 (4 * n + k) r is.products (omega arith) low
    ∙ (λ t. inv_mixed (same r low t) (same ((r + 1) % 4) (omega arith) t) (same ((r + 2) % 4) (omega arith) t)
    (same ((r + 3) % 4) (omega arith) t))
