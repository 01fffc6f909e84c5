-- Lists of what numbers give, by ascending number.
use Rattle.std.proofs.Common.{◌≡◌, ◌∙◌, ℕ, ◌+◌, List, [], ◌++◌, refl, add-one, ap, sym}
use Rattle.luks_audit.specs.Numbers.{by_number}

pub by_number_none : {T : Type 0} (f : ℕ → List T) → by_number f 0 ≡ []
unfolding by_number
by_number_none f = refl

pub by_number_more : {T : Type 0} (f : ℕ → List T) (n : ℕ) → by_number f (n + 1) ≡ by_number f n ++ f n
unfolding by_number
by_number_more f n = rw add-one refl

-- a list that is made of what the numbers so far, and then one more, give
pub by_number_made : {T : Type 0} (f : ℕ → List T) (n : ℕ) (before after : List T)
    → before ≡ by_number f n → after ≡ before ++ f n → after ≡ by_number f (n + 1)
by_number_made f n before after so_far one =
    one ∙ (ap (λ list. list ++ f n) so_far ∙ sym (by_number_more f n))
