use Rattle.std.proofs.Common.{◌-◌, ◌+◌, ◌%◌, arith, ap, ◌∙◌, slice_index}
use Rattle.std.specs.Int.{bit_at}
use Rattle.luks_aes.proofs.ShiftLemmas.{bit_rotated_words}
use Rattle.luks_aes.proofs.batch.lane.U64x2Lane.rotated.Goals as goal

pub returns : goal.returns
returns c = λ l q low small.
    let v = c.args.self in
    let bits = c.from-bits.result in
    bit_rotated_words v bits (64 - bits) l q c.fits-self.0 c.fits-self.1 (omega arith) low small
    ∙ ap (λ n. bit_at (slice_index v l) ((q + 64 - n) % 64)) (c.from-bits.ensures ∙ c.bits.ensures.value)
