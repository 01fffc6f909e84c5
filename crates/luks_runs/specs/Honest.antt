-- Honestly sealed volumes, and the passphrases that open them.
use Rattle.std.specs.Prelude.{◌≡◌, ℕ, ◌≤◌, All, Contains, List, ◌∷◌, ◌++◌, length, Some, Ok}
use Rattle.luks_open.specs.Opening.{slot_key, OrderModel, order_within}
use Rattle.luks_open.specs.declared.entry.Entry.{Entry}
use Rattle.luks_volume.specs.Sealed.{Sealed}
use Rattle.luks_open.specs.declared.allowed.AllowedSlots.{AllowedSlots}
use Rattle.luks_open.specs.KeyFile.{max_key_file_len}

-- if the key slot opens under this passphrase, it gives this key
abbrev pub GivesNoOther : List ℕ → List ℕ → List ℕ → Entry → Type 0
GivesNoOther image passphrase key entry = (other : List ℕ) → slot_key entry image passphrase ≡ Some other → other ≡ key

-- the key slot of this number is one of these, and none before it gives another key under this passphrase
pub record ComesFirst (number : ℕ) (entries : List Entry) (image passphrase key : List ℕ) : Type 0 where
  pub before : List Entry
  pub entry : Entry
  pub after : List Entry
  pub are : entries ≡ before ++ entry ∷ after
  pub is_number : entry.number ≡ number
  pub no_other : All (GivesNoOther image passphrase key) before

-- the image is an honestly sealed volume of this plaintext; this passphrase is no longer than a key file may be, and is
-- that of a key slot to be tried, before which no key slot gives another key under it
pub record OpensHonest (slots : AllowedSlots) (image passphrase plain : List ℕ) : Type 0 where
  pub passphrases : List (ℕ × List ℕ)
  pub key : List ℕ
  pub sealed : Sealed image passphrases key plain
  pub number : ℕ
  pub is_passphrase : Contains passphrases (number, passphrase)
  pub short : length passphrase ≤ max_key_file_len
  pub order : OrderModel
  pub is_order : order_within sealed.header slots.named slots.limits ≡ Ok order
  pub first : ComesFirst number order.entries image passphrase key
