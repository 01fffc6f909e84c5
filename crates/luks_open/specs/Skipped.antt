-- How a list of at most 32 key slots is stored in an array of 32.
use Rattle.std.specs.Prelude.{◌≡◌, ℕ, ◌-◌, ◌≤◌, List, ◌++◌, length, take, replicate}
use Rattle.std.proofs.Common.{◌∙◌, ap, sym}
use Rattle.luks_format.specs.declared.refusal.SkipReason.{SkipReason}
use Rattle.luks_format.specs.declared.refusal.SkipReason.TheVariants.{State}

-- the value of the unused elements of the array
abbrev pub nothing : ℕ × SkipReason
nothing = (0, State)

-- the array that stores a list
abbrev pub padded_to_32 : List (ℕ × SkipReason) → List (ℕ × SkipReason)
padded_to_32 slots = slots ++ replicate (32 - length slots) nothing

-- the first `used` of the 32 elements are used, and the others have the unused value
pub record IsPadded (elements : List (ℕ × SkipReason)) (used : ℕ) : Type 0 where
  pub capacity : used ≤ 32
  pub there : length (take used elements) ≡ used
  pub others : elements ≡ take used elements ++ replicate (32 - used) nothing

-- padding the used elements to 32 gives the same array
pub padded_again : {T : Type 0} (make : List (ℕ × SkipReason) → ℕ → T) (elements : List (ℕ × SkipReason)) (used : ℕ)
    → IsPadded elements used
    → make (padded_to_32 (take used elements)) (length (take used elements)) ≡ make elements used
padded_again make elements used is_padded =
    ap (λ n. make (take used elements ++ replicate (32 - n) nothing) n) is_padded.there
    ∙ ap (λ all. make all used) (sym is_padded.others)
