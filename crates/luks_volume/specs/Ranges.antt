-- Ranges that volumes of both formats share, and the results of sealing.
use Rattle.std.specs.Prelude.{◌≡◌, ◌≢◌, ℕ, ◌%◌, ◌<◌, ◌≤◌, true, List, [], ◌∷◌, All, length}
use Rattle.std.specs.Prelude.{slice_index, Result, Ok, Err}
use Rattle.luks_cipher.specs.Sector.{is_mode_key_length}
use Rattle.luks_cipher.specs.declared.mode.Mode.{Mode}
use Rattle.luks_volume.specs.declared.parameters.SealFault.{SealFault}
use Rattle.luks_volume.specs.declared.parameters.SealFault.TheVariants.{Parameters, Memory}

-- a key of this length in bytes fits the mode
abbrev pub FitsKey : Mode → ℕ → Type 0
FitsKey mode len = is_mode_key_length mode len ≡ true

-- a text of at most this many bytes, none of them zero
abbrev pub FitsText : ℕ → List ℕ → Type 0
FitsText max_len text = (length text ≤ max_len) × ((i : ℕ) → i < length text → slice_index text i ≢ 0)

-- no two key slots have the same number; `number` gives that of a slot
abbrev pub AreDistinct : {S : Type 0} → (S → ℕ) → List S → Type 0
AreDistinct number [] = Unit {0}
AreDistinct number (slot ∷ slots) = All (λ other. number other ≢ number slot) slots × AreDistinct number slots

-- the length in bytes of the longest plaintext that is sealed
abbrev pub max_plain_len : ℕ
max_plain_len = 8388608

-- a plaintext of this length is whole sectors of this size, and is not too long
abbrev pub FitsPlain : ℕ → ℕ → Type 0
FitsPlain sector len = (len % sector ≡ 0) × (len ≤ max_plain_len)

-- the result of sealing: Parameters exactly if the parameters do not fit, and otherwise a volume or Memory
abbrev pub SealAnswer : {T : Type 0} → Type 0 → Result T SealFault → Type 0
SealAnswer fits (Ok _) = fits
SealAnswer fits (Err Parameters) = ¬ fits
SealAnswer fits (Err Memory) = fits

-- the same if one of the ranges is only known late: memory can run out before it is known
abbrev pub SealAnswerLate : {T : Type 0} → Type 0 → Type 0 → Result T SealFault → Type 0
SealAnswerLate fits late (Ok _) = fits × late
SealAnswerLate fits late (Err Parameters) = ¬ (fits × late)
SealAnswerLate fits late (Err Memory) = fits
