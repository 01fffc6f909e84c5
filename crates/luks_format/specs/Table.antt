-- Tables in which the first line that holds decides, and lists by ascending number.
use Rattle.std.specs.Prelude.{ℕ, zero, suc, Bool, List, [], ◌∷◌, ◌++◌, Option, Some, None, if◌then◌else◌}
use Rattle.std.specs.List.{cons_option}

-- the name in the first line that holds, if there is one
abbrev pub first_match : {T : Type 0} → List (Bool × T) → Option T
first_match [] = None
first_match ((holds, name) ∷ lines) = if holds then Some name else first_match lines

-- the values of `f` for those numbers below n that have one, by ascending number
unfoldable pub ascending : {T : Type 0} → (ℕ → Option T) → ℕ → List T
ascending f zero = []
ascending f (suc n) = ascending f n ++ cons_option (f n) []
