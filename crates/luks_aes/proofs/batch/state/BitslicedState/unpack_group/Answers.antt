use Rattle.std.proofs.Common.{◌≡◌, ℕ, ◌+◌, ◌*◌, ◌/◌, ◌%◌, ◌<◌, arith, ap, ◌∙◌}
use Rattle.std.specs.Prelude.{slice_index}
use Rattle.std.specs.Int.{bit_at}
use Rattle.luks_aes.specs.Field.{◌⊕◌}
use Rattle.luks_aes.proofs.Bytes.{each_below_8}
use Rattle.luks_aes.specs.Blocks.{masked_byte}
use Rattle.luks_aes.specs.Words.{words_at}
use Rattle.luks_aes.proofs.batch.state.BitslicedState.unpack_group.Goals as goal

pub returns-clause-here : goal.returns-clause-here
returns-clause-here g c = λ j e i k which one low small.
    let mask = c.args.mask.now in
    let n = 16 * c.args.g in
    let w = g.row.WORDS / 4 * (i % 4) + c.args.g in
    let at = 8 * (2 * (i / 4) + e) + k in
    let first : n + 0 + 8 * e ≡ n + 8 * e = omega arith in
    let k8 = λ (j : ℕ) (before : j < 7).
    c.put_masked_rows-8.ensures.others (n + j + 8 * e) i (λ q. omega (arith, q)) (λ q. omega (arith, q)) low in
    let k7 = λ (j : ℕ) (before : j < 6). k8 j (omega arith)
    ∙ c.put_masked_rows-7.ensures.others (n + j + 8 * e) i (λ q. omega (arith, q)) (λ q. omega (arith, q)) low in
    let k6 = λ (j : ℕ) (before : j < 5). k7 j (omega arith)
    ∙ c.put_masked_rows-6.ensures.others (n + j + 8 * e) i (λ q. omega (arith, q)) (λ q. omega (arith, q)) low in
    let k5 = λ (j : ℕ) (before : j < 4). k6 j (omega arith)
    ∙ c.put_masked_rows-5.ensures.others (n + j + 8 * e) i (λ q. omega (arith, q)) (λ q. omega (arith, q)) low in
    let k4 = λ (j : ℕ) (before : j < 3). k5 j (omega arith)
    ∙ c.put_masked_rows-4.ensures.others (n + j + 8 * e) i (λ q. omega (arith, q)) (λ q. omega (arith, q)) low in
    let k3 = λ (j : ℕ) (before : j < 2). k4 j (omega arith)
    ∙ c.put_masked_rows-3.ensures.others (n + j + 8 * e) i (λ q. omega (arith, q)) (λ q. omega (arith, q)) low in
    let k2 = λ (j : ℕ) (before : j < 1). k3 j (omega arith)
    ∙ c.put_masked_rows-2.ensures.others (n + j + 8 * e) i (λ q. omega (arith, q)) (λ q. omega (arith, q)) low in
    each_below_8
    (λ j. bit_at (masked_byte c.put_masked_rows-8.new.batch mask (n + j + 8 * e) i) k
    ≡ bit_at (slice_index (words_at w c.args.self.now) j) at)
    (ap (λ b. bit_at (b ⊕ slice_index mask (16 * (n + 0 + 8 * e) + i)) k) (k2 0 (omega arith))
    ∙ ap (λ m. bit_at (masked_byte c.put_masked_rows.new.batch mask m i) k) first
    ∙ c.put_masked_rows.ensures.here e i k one low small
    ∙ ap (λ w. bit_at w at) (c.row_words.ensures (i % 4) (omega arith)))
    (ap (λ b. bit_at (b ⊕ slice_index mask (16 * (n + 1 + 8 * e) + i)) k) (k3 1 (omega arith))
    ∙ c.put_masked_rows-2.ensures.here e i k one low small
    ∙ ap (λ w. bit_at w at) (c.row_words-2.ensures (i % 4) (omega arith)))
    (ap (λ b. bit_at (b ⊕ slice_index mask (16 * (n + 2 + 8 * e) + i)) k) (k4 2 (omega arith))
    ∙ c.put_masked_rows-3.ensures.here e i k one low small
    ∙ ap (λ w. bit_at w at) (c.row_words-3.ensures (i % 4) (omega arith)))
    (ap (λ b. bit_at (b ⊕ slice_index mask (16 * (n + 3 + 8 * e) + i)) k) (k5 3 (omega arith))
    ∙ c.put_masked_rows-4.ensures.here e i k one low small
    ∙ ap (λ w. bit_at w at) (c.row_words-4.ensures (i % 4) (omega arith)))
    (ap (λ b. bit_at (b ⊕ slice_index mask (16 * (n + 4 + 8 * e) + i)) k) (k6 4 (omega arith))
    ∙ c.put_masked_rows-5.ensures.here e i k one low small
    ∙ ap (λ w. bit_at w at) (c.row_words-5.ensures (i % 4) (omega arith)))
    (ap (λ b. bit_at (b ⊕ slice_index mask (16 * (n + 5 + 8 * e) + i)) k) (k7 5 (omega arith))
    ∙ c.put_masked_rows-6.ensures.here e i k one low small
    ∙ ap (λ w. bit_at w at) (c.row_words-6.ensures (i % 4) (omega arith)))
    (ap (λ b. bit_at (b ⊕ slice_index mask (16 * (n + 6 + 8 * e) + i)) k) (k8 6 (omega arith))
    ∙ c.put_masked_rows-7.ensures.here e i k one low small
    ∙ ap (λ w. bit_at w at) (c.row_words-7.ensures (i % 4) (omega arith)))
    (c.put_masked_rows-8.ensures.here e i k one low small
    ∙ ap (λ w. bit_at w at) (c.row_words-8.ensures (i % 4) (omega arith)))
    j which
