use Rattle.std.proofs.Common.{◌-◌, ◌+◌, ◌%◌, arith, ap, ◌∙◌}
use Rattle.std.specs.Int.{bit_at}
use Rattle.luks_aes.proofs.ShiftLemmas.{bit_rotated}
use Rattle.luks_aes.proofs.batch.lane.U64Lane.rotated.Goals as goal

pub returns : goal.returns
returns c = λ l q one low.
    let bits = c.bits-bits.result in
    bit_rotated c.args.self bits (64 - bits) q (omega arith) (omega arith) low
    ∙ ap (λ n. bit_at c.args.self ((q + 64 - n) % 64)) c.bits-bits.ensures.value
