-- Lists of bytes.
use Rattle.std.specs.Prelude.{ℕ, ◌<◌, List, slice_index}

-- the elements are bytes (a read past the end of a list gives 0)
pub record IsBytes (xs : List ℕ) : Type 0 where
  pub each : (i : ℕ) → slice_index xs i < 256
