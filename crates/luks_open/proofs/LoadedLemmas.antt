-- The bytes of an image after the key material of the key slots to be tried change nothing.
use Rattle.std.proofs.Common.{◌≡◌, ◌∙◌, ℕ, zero, suc, ◌+◌, ◌*◌, ◌/◌, ◌<◌, ◌≤◌, List, [], ◌∷◌, Option, Some, refl, sym}
use Rattle.std.proofs.Common.{ap}
use Rattle.std.proofs.Common.{arith, take}
use Rattle.std.specs.Prelude.{if◌then◌else◌, is_some, ok_or, sum_by}
use Rattle.std.specs.List.{AllByRecursion}
use Rattle.luks_kdf.specs.Stripes.{merged}
use Rattle.luks_kdf.specs.declared.hash.Hash.{Hash}
use Rattle.luks_cipher.specs.Sector.{Cipher, sector_decrypted}
use Rattle.luks_cipher.specs.declared.mode.Mode.{Mode}
use Rattle.luks_kdf.proofs.BytesLemmas.{joined_same}
use Rattle.luks_format.proofs.FieldLemmas.{at_prefix}
use Rattle.luks_format.specs.Rule.{key_material_len}
use Rattle.luks_format.specs.Slot.{material_end}
use Rattle.luks_open.specs.Candidate.{candidate_by, candidate_of, decrypted_material, derived_by, material_sector}
use Rattle.luks_open.specs.Candidate.{recovered}
use Rattle.luks_open.specs.Opening.{OrderModel, StopsAfter, evaluations_of, first_opening, key_material_end}
use Rattle.luks_open.specs.Opening.{opening_of, slot_key, tried_of, work_of}
use Rattle.luks_open.specs.declared.entry.Entry.{Entry}
use Rattle.luks_open.specs.declared.fault.OpenFault.TheVariants.{NoKey}
use Rattle.luks_open.specs.declared.opening.Opened.{Opened}
use Rattle.luks_open.proofs.CallerLemmas.{All-key_material_end, if_matches_digest, opened_or}

-- key material that ends at or before offset n gives the same key from the first n bytes alone
recovered_prefix : (af : Hash) (cipher : Cipher) (image : List ℕ) (offset key_bytes stripes n : ℕ)
    → offset + key_material_len key_bytes stripes ≤ n → recovered af cipher (take n image) offset key_bytes stripes
    ≡ recovered af cipher image offset key_bytes stripes
unfolding recovered decrypted_material
recovered_prefix af cipher image offset key_bytes stripes n before =
    let sectors : (i : ℕ) → i < key_material_len key_bytes stripes / 512
    → material_sector cipher (take n image) offset i ≡ material_sector cipher image offset i =
    λ i below. ap (sector_decrypted cipher.0 cipher.1 i) (at_prefix (offset + 512 * i) 512 n image (omega arith)) in
    ap (λ material. merged af key_bytes (take (key_bytes * stripes) material))
    (joined_same _ _ (key_material_len key_bytes stripes / 512) sectors)

-- a key slot whose key material ends at or before offset n gives the same volume key from the first n bytes alone
key_prefix : (entry : Entry) (n : ℕ) (image pass : List ℕ) → material_end entry.slot.parts ≤ n
    → slot_key entry (take n image) pass ≡ slot_key entry image pass
unfolding slot_key candidate_of
key_prefix entry n image pass before =
    let parts = entry.slot.parts in
    ap (if_matches_digest entry.slot.digest)
    (of_read (derived_by parts.derivation pass parts.salt parts.area_key_bytes) parts.af_hash parts.area_mode)
  where
    of_read : (area_key : Option (List ℕ)) (af : Option Hash) (mode : Option Mode)
        → candidate_by area_key af mode entry.slot.parts (take n image)
        ≡ candidate_by area_key af mode entry.slot.parts image
    of_read (Some area_key) (Some af) (Some mode) =
        let parts = entry.slot.parts in
        ap Some (recovered_prefix af (mode, area_key) image parts.area_offset parts.key_bytes parts.stripes n before)
    of_read _ _ _ = refl

-- the bytes of the image after the key material do not change which of these key slots opens
first_prefix : (entries : List Entry) (n : ℕ) (image pass : List ℕ)
    → AllByRecursion (λ (entry : Entry). material_end entry.slot.parts ≤ n) entries
    → first_opening entries (take n image) pass ≡ first_opening entries image pass
unfolding first_opening
first_prefix [] n image pass ends = refl
first_prefix (entry ∷ entries) n image pass ends =
    ap (λ (key : Option (List ℕ)). opened_or entry.number key (first_opening entries (take n image) pass))
    (key_prefix entry n image pass ends.0)
    ∙ ap (opened_or entry.number (slot_key entry image pass)) (first_prefix entries n image pass ends.1)

module _ (order : OrderModel) (n : ℕ) (image pass : List ℕ) (loaded : key_material_end order.entries ≤ n) where
  -- nor what a passphrase opens
  pub opening_prefix : opening_of order (take n image) pass ≡ opening_of order image pass
  unfolding opening_of
  opening_prefix =
      ap (λ (first : Option Opened). ok_or first (NoKey order.skipped))
      (first_prefix order.entries n image pass (All-key_material_end n order.entries loaded))

  -- nor which key slots are tried
  pub tried_prefix : tried_of order.entries (take n image) pass ≡ tried_of order.entries image pass
  unfolding tried_of
  tried_prefix = of_entries order.entries (All-key_material_end n order.entries loaded)
    where
      of_entries : (entries : List Entry)
          → AllByRecursion (λ (entry : Entry). material_end entry.slot.parts ≤ n) entries
          → tried_of entries (take n image) pass ≡ tried_of entries image pass
      of_entries [] ends = refl
      of_entries (entry ∷ entries) ends =
          ap (λ (key : Option (List ℕ)). entry
          ∷ (if is_some key then [] else tried_of entries (take n image) pass)) (key_prefix entry n image pass ends.0)
          ∙ ap (λ (further : List Entry). entry ∷ (if is_some (slot_key entry image pass) then [] else further))
          (of_entries entries ends.1)

  -- nor what trying them costs
  pub work_prefix : work_of order (take n image) pass ≡ work_of order image pass
  unfolding work_of
  work_prefix = ap (sum_by evaluations_of) tried_prefix

  -- nor at which of them opening stops
  pub stops_prefix : (tried number kib : ℕ) → StopsAfter order.entries (take n image) pass tried number kib
      → StopsAfter order.entries image pass tried number kib
  stops_prefix tried number kib stops = record {
    there = stops.there;
    slot = stops.slot;
    none = sym (first_prefix (take tried order.entries) n image pass
        (of_taken tried order.entries (All-key_material_end n order.entries loaded))) ∙ stops.none;
    needs = stops.needs;
  }
    where
      of_taken : (tried : ℕ) (entries : List Entry)
          → AllByRecursion (λ (entry : Entry). material_end entry.slot.parts ≤ n) entries
          → AllByRecursion (λ (entry : Entry). material_end entry.slot.parts ≤ n) (take tried entries)
      of_taken zero entries ends = tt
      of_taken (suc tried) [] ends = tt
      of_taken (suc tried) (entry ∷ entries) ends = (ends.0, of_taken tried entries ends.1)
