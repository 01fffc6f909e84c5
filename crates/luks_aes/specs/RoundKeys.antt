-- The round keys of the equivalent inverse cipher (FIPS 197, 5.3.5), bitsliced for four groups of blocks,
-- the same for each.
use Rattle.std.specs.Prelude.{◌≡◌, ℕ, ◌+◌, ◌/◌, ◌<◌, ◌≤◌, List, slice_get, Some}
use Rattle.luks_aes.specs.Field.{◌⊕◌}
use Rattle.luks_aes.specs.Aes.{key_expansion, rounds_of}
use Rattle.luks_aes.specs.Bytes.{IsBytes}
use Rattle.luks_aes.specs.Columns.{key_byte, inv_mixed_key_byte}
use Rattle.luks_aes.specs.Words.{GroupsHold}
use Rattle.luks_aes.specs.declared.batch.state.BitslicedState.{BitslicedState}
use Rattle.luks_aes.specs.declared.batch.round_key.RoundKey.{RoundKey}
use Rattle.luks_aes.specs.declared.batch.round_keys.RoundKeys.{RoundKeys}

-- a round key as a bitsliced state of four groups
abbrev pub state_of_key : RoundKey → BitslicedState 16
state_of_key x = record {
  plane_0 = record { words = x.plane_0.words };
  plane_1 = record { words = x.plane_1.words };
  plane_2 = record { words = x.plane_2.words };
  plane_3 = record { words = x.plane_3.words };
  plane_4 = record { words = x.plane_4.words };
  plane_5 = record { words = x.plane_5.words };
  plane_6 = record { words = x.plane_6.words };
  plane_7 = record { words = x.plane_7.words };
}

-- `x` holds round key n of the schedule w, with k XORed into each byte
pub record HasRoundKey (w : List ℕ) (n k : ℕ) (x : RoundKey) : Type 0 where
  pub bytes : GroupsHold (λ g r q. key_byte w n r (q / 16) ⊕ k) (state_of_key x)

-- `x` holds round key n after InvMixColumns, with k XORed into each byte
pub record HasInvMixedKey (w : List ℕ) (n k : ℕ) (x : RoundKey) : Type 0 where
  pub bytes : GroupsHold (λ g r q. inv_mixed_key_byte w n r (q / 16) ⊕ k) (state_of_key x)

-- if n + 1 is less than `end`, entry n is round key n + 1 after InvMixColumns, with 0x63 XORed into each byte
pub record HasInvMixedKeys (w : List ℕ) (all : List RoundKey) (end : ℕ) : Type 0 where
  pub at : (n : ℕ) → n + 1 < end → (key : RoundKey) → slice_get all n ≡ Some key
      → HasInvMixedKey w (n + 1) 0x63 key

-- `keys` are the round keys of the key for decryption
pub record IsBatchKey (key : List ℕ) (keys : RoundKeys) : Type 0 where
  pub bytes : IsBytes key
  pub rounds : keys.rounds ≡ rounds_of key
  pub some : 1 ≤ rounds_of key
  pub few : rounds_of key ≤ 14
  pub first_key : HasRoundKey (key_expansion key) (rounds_of key) 0x63 keys.first
  pub between_keys : HasInvMixedKeys (key_expansion key) keys.between (rounds_of key)
  pub last_key : HasRoundKey (key_expansion key) 0 0 keys.last
