-- The key schedule that a struct of plain numbers holds, and the contents of an expanded key of AES.
use Rattle.std.specs.Prelude.{◌≡◌, ℕ, ◌+◌, ◌-◌, ◌*◌, List, [], ◌∷◌, length, take, IsTrue}
use Rattle.luks_aes.specs.Aes.{is_aes_key_length, key_expansion, rounds_of}
use Rattle.luks_aes.specs.Bytes.{IsBytes}
use Rattle.luks_aes.specs.Columns.{IsMultiplied}
use Rattle.luks_aes.specs.declared.key_schedule.KeySchedule.{KeySchedule}

-- the struct holds the schedule of this key
pub record IsScheduleOf (key : List ℕ) (s : KeySchedule) : Type 0 where
  pub key_length : IsTrue (is_aes_key_length (length key))
  pub rounds : s.rounds ≡ rounds_of key
  pub expanded : take (16 * (rounds_of key + 1)) s.bytes ≡ key_expansion key

-- the key of a schedule, which are its first words: 6 fewer than there are rounds
abbrev pub scheduled_key : KeySchedule → List ℕ
scheduled_key s = take (4 * (s.rounds - 6)) s.bytes

-- the struct holds the schedule of the key with which it starts; `inv_mixed` has its words after InvMixColumns
pub record IsAesKey (s : KeySchedule) (inv_mixed : List ℕ) : Type 0 where
  pub schedule : IsScheduleOf (scheduled_key s) s
  pub bytes : IsBytes s.bytes
  pub products : IsMultiplied (14 ∷ 11 ∷ 13 ∷ 9 ∷ []) s.bytes inv_mixed 60
