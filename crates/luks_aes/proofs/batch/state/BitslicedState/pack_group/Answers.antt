use Rattle.std.proofs.Common.{◌≡◌, ◌+◌, ◌*◌, ◌/◌, ◌%◌, [], ◌∷◌, arith, ap, ◌∙◌}
use Rattle.std.specs.Prelude.{slice_index}
use Rattle.std.specs.Int.{bit_at}
use Rattle.luks_aes.proofs.Bytes.{each_below_8}
use Rattle.luks_aes.specs.Blocks.{masked_byte}
use Rattle.luks_aes.proofs.batch.state.BitslicedState.pack_group.Goals as goal

pub returns-clause-here : goal.returns-clause-here
returns-clause-here g c = λ r j p k low which inside small.
    let batch = c.args.batch.now in
    let mask = c.args.mask.now in
    let n = 16 * c.args.g in
    let i = g.row.WORDS / 4 * r + c.args.g in
    let first : n + 8 * (p % 2) ≡ n + 0 + 8 * (p % 2) = omega arith in
    each_below_8
    (λ j. bit_at
    (slice_index
    (slice_index c.put_row_words.new.self.words i ∷ slice_index c.put_row_words-2.new.self.words i
    ∷ slice_index c.put_row_words-3.new.self.words i ∷ slice_index c.put_row_words-4.new.self.words i
    ∷ slice_index c.put_row_words-5.new.self.words i ∷ slice_index c.put_row_words-6.new.self.words i
    ∷ slice_index c.put_row_words-7.new.self.words i ∷ slice_index c.put_row_words-8.new.self.words i ∷ [])
    j)
    (8 * p + k)
    ≡ bit_at (masked_byte batch mask (n + j + 8 * (p % 2)) (r + 4 * (p / 2))) k)
    (ap (λ w. bit_at w (8 * p + k)) (c.put_row_words.ensures.here r low) ∙ c.masked_rows.ensures r p k low inside small
    ∙ ap (λ m. bit_at (masked_byte batch mask m (r + 4 * (p / 2))) k) first)
    (ap (λ w. bit_at w (8 * p + k)) (c.put_row_words-2.ensures.here r low)
    ∙ c.masked_rows-2.ensures r p k low inside small)
    (ap (λ w. bit_at w (8 * p + k)) (c.put_row_words-3.ensures.here r low)
    ∙ c.masked_rows-3.ensures r p k low inside small)
    (ap (λ w. bit_at w (8 * p + k)) (c.put_row_words-4.ensures.here r low)
    ∙ c.masked_rows-4.ensures r p k low inside small)
    (ap (λ w. bit_at w (8 * p + k)) (c.put_row_words-5.ensures.here r low)
    ∙ c.masked_rows-5.ensures r p k low inside small)
    (ap (λ w. bit_at w (8 * p + k)) (c.put_row_words-6.ensures.here r low)
    ∙ c.masked_rows-6.ensures r p k low inside small)
    (ap (λ w. bit_at w (8 * p + k)) (c.put_row_words-7.ensures.here r low)
    ∙ c.masked_rows-7.ensures r p k low inside small)
    (ap (λ w. bit_at w (8 * p + k)) (c.put_row_words-8.ensures.here r low)
    ∙ c.masked_rows-8.ensures r p k low inside small)
    j which
