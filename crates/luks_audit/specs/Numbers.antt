-- Lists of what numbers give.
use Rattle.std.specs.Prelude.{ℕ, ◌++◌, zero, suc, List, []}

-- what the numbers below n give, by ascending number
unfoldable pub by_number : {T : Type 0} → (ℕ → List T) → ℕ → List T
by_number f zero = []
by_number f (suc n) = by_number f n ++ f n
