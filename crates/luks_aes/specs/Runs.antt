-- A transposition of 8 by 8 bits in three steps, each of which exchanges runs of 1, 2 or 4 bits.
use Rattle.std.specs.Prelude.{ℕ, ◌+◌, ◌-◌, ◌/◌, ◌%◌, ◌==◌, if◌then◌else◌}
use Rattle.luks_aes.specs.declared.batch.transpose.Run.{Run}
use Rattle.luks_aes.specs.declared.batch.transpose.Run.TheVariants.{Bit, Pair, Nibble}

-- the number of bits in a run
abbrev pub run_bits : Run → ℕ
run_bits Bit = 1
run_bits Pair = 2
run_bits Nibble = 4

-- the mask of the lower runs of a word: every other run, from the lowest bit on
abbrev pub low_mask : Run → ℕ
low_mask Bit = 0x5555555555555555
low_mask Pair = 0x3333333333333333
low_mask Nibble = 0x0f0f0f0f0f0f0f0f

-- in the lower runs of n bits, the bits of f; in the runs between them, the bits that g has n positions lower
abbrev pub swapped_low : ℕ → (ℕ → ℕ) → (ℕ → ℕ) → ℕ → ℕ
swapped_low n f g q = if q / n % 2 == 0 then f q else g (q - n)

-- in the lower runs of n bits, the bits that f has n positions higher; in the runs between them, the bits of g
abbrev pub swapped_high : ℕ → (ℕ → ℕ) → (ℕ → ℕ) → ℕ → ℕ
swapped_high n f g q = if q / n % 2 == 0 then f (q + n) else g q
