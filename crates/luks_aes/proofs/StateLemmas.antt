-- States that are written byte by byte.
use Rattle.std.proofs.Common.{◌≡◌, ℕ, ◌+◌, ◌%◌, ◌/◌, ◌<◌, ◌≤◌, List, length, inl, inr, arith, ap, ◌∙◌}
use Rattle.std.specs.Prelude.{slice_index, slice_set}
use Rattle.std.proofs.lemmas.List.{length-set, get_or-set_same, get_or-set_other}
use Rattle.std.proofs.lemmas.List.FromFn.{fill_by_all}
use Rattle.std.proofs.lemmas.Bool.{cases_lt}
use Rattle.luks_aes.specs.Aes.{cell, state_of}

-- the first n bytes of t are those of the state of f
pub record IsFilled (f : ℕ → ℕ → ℕ) (t : List ℕ) (n : ℕ) : Type 0 where
  pub len : length t ≡ 16
  pub filled : (k : ℕ) → k < n → slice_index t k ≡ f (k % 4) (k / 4)

pub filled_none : (f : ℕ → ℕ → ℕ) (t : List ℕ) → length t ≡ 16 → IsFilled f t 0
filled_none f t e = record { len = e; filled = λ k low. absurd (omega arith) }

pub filled_more : (f : ℕ → ℕ → ℕ) (t : List ℕ) (i v : ℕ) → IsFilled f t i → i < 16 → v ≡ f (i % 4) (i / 4)
    → IsFilled f (slice_set t i v) (i + 1)
filled_more f t i v is low e = record {
  len = length-set t i v ∙ is.len;
  filled = λ k below.
      elim (cases_lt k i) [
        | inl before ↦ get_or-set_other t i k v 0 (omega arith) ∙ is.filled k before
        | inr after ↦
            let here : k ≡ i = omega arith in
            let fits : i < length t = omega (arith, is.len) in
            rw here (get_or-set_same t i v 0 fits ∙ e)
      ];
}

pub filled_all : (f : ℕ → ℕ → ℕ) (t : List ℕ) (n : ℕ) → IsFilled f t n → 16 ≤ n → t ≡ state_of f
filled_all f t n is all = fill_by_all (λ k. f (k % 4) (k / 4)) t 16 0 is.len (λ k low. is.filled k (omega arith))

-- byte i of a state is in row i % 4 and column i / 4
pub cell_at : (s : List ℕ) (i : ℕ) → slice_index s i ≡ cell s (i % 4) (i / 4)
cell_at s i = ap (slice_index s) (omega arith)
