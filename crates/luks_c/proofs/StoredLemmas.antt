-- What is read from the struct of a volume is what was stored in it.
use Rattle.std.proofs.Common.{◌≡◌, ◌∙◌, ℕ, ◌-◌, ◌*◌, ◌/◌, List, length, Option, None, Some, ap, subst, refl}
use Rattle.std.proofs.lemmas.Option.{same_Some}
use Rattle.std.specs.Prelude.{◌+◌, if◌then◌else◌, nat_le, unwrap_or}
use Rattle.luks_access.proofs.RangeLemmas.{plaintext_length}
use Rattle.luks_access.specs.Opens.{cipher_of, plaintext_of}
use Rattle.luks_open.specs.declared.unlocked.UnlockedVolume.{UnlockedVolume}
use Rattle.luks_cipher.specs.Sector.{Cipher}
use Rattle.luks_cipher.specs.declared.mode.Mode.{Mode}
use Rattle.luks_cipher.specs.declared.mode.Mode.TheVariants.{XtsPlain64, XtsPlain, CbcEssivSha256, CbcPlain64}
use Rattle.luks_format.proofs.MadeLemmas.{segment_by, segment_from-yes}
use Rattle.luks_format.proofs.SectorLemmas.{sector_size_again}
use Rattle.luks_format.specs.SectorSize.{bytes_of, sector_size_with}
use Rattle.luks_format.specs.declared.sector_size.SectorSize.{SectorSize}
use Rattle.luks_format.specs.declared.segment.Segment.{Segment}
use Rattle.luks_payload.specs.Plain.{payload_bytes}
use Rattle.luks_access.specs.Steps.{IsNextStep}
use Rattle.luks_c.specs.Steps.{Plans, plan_code, plan_code_by, plain_len_of, prepare_code, prepare_code_by, step_in}
use Rattle.luks_c.specs.Stored.{Filled, Stores, cipher_in, has_size_of}
use Rattle.luks_c.specs.Stored.{mode_in, mode_number, segment_in, size_stored_in}
use Rattle.luks_c.specs.declared.step.LuksrdStep.{LuksrdStep}
use Rattle.luks_c.specs.declared.volume.LuksrdVolume.{LuksrdVolume}

pub mode_again : (mode : Mode) → mode_in (mode_number mode) ≡ Some mode
mode_again XtsPlain64 = refl
mode_again XtsPlain = refl
mode_again CbcEssivSha256 = refl
mode_again CbcPlain64 = refl

-- what holds of the segment that was read from the struct holds of the one that it holds
pub for_segment : (P : Segment → Type 0) (c : LuksrdVolume) (s t : Segment) → Some s ≡ segment_in c
    → segment_in c ≡ Some t → P s → P t
for_segment P c s t is_segment there = subst P (same_Some s t (is_segment ∙ there))

module _ (c : LuksrdVolume) (v : UnlockedVolume) (stored : Stores c v) where
  pub stored_sector : sector_size_with c.sector_size ≡ Some v.segment.sector_size
  stored_sector = ap sector_size_with stored.sector_size ∙ sector_size_again v.segment.sector_size

  stored_mode : mode_in c.mode ≡ Some v.segment.mode
  stored_mode = ap mode_in stored.mode ∙ mode_again v.segment.mode

  pub stored_size : size_stored_in c ≡ Some v.segment.size
  stored_size = by v.segment.size stored.has_size stored.size
    where
      by : (size : Option ℕ) → c.has_size ≡ has_size_of size → c.size ≡ unwrap_or size 0 → size_stored_in c ≡ Some size
      by None has is = rw has refl
      by (Some size) has is = rw (has, is) refl

  pub stored_segment : segment_in c ≡ Some v.segment
  unfolding segment_by
  stored_segment =
      let s = v.segment in
      rw (stored_sector, stored_mode, stored.offset, stored_size, stored.iv_tweak)
      (segment_from-yes s.offset s.size s.iv_tweak s.sector_size s.mode s.whole_sectors)

  -- what holds of the segment and the cipher that were read from the struct holds of the volume's
  pub for_volume : (P : Segment → Cipher → Type 0) (s : Segment) → Some s ≡ segment_in c → P s (cipher_in c s.mode)
      → P v.segment (cipher_of v)
  for_volume P s is_segment holds =
      let same : s ≡ v.segment = same_Some s v.segment (is_segment ∙ stored_segment) in
      let of_volume : cipher_in c v.segment.mode ≡ cipher_of v =
      ap (λ (key : List ℕ). (v.segment.mode, key)) stored.key_bytes in
      subst (P v.segment) of_volume (subst (λ (t : Segment). P t (cipher_in c t.mode)) same holds)

  -- the length that is computed from the fields is that of the plaintext
  pub len_for : (z : SectorSize) (size : Option ℕ) (image : List ℕ) (image_len len : ℕ)
      → Some z ≡ sector_size_with c.sector_size → Some size ≡ size_stored_in c → length image ≡ image_len
      → len ≡ payload_bytes size (image_len - c.offset) / bytes_of z * bytes_of z → len ≡ length (plaintext_of v image)
  len_for z size image image_len len sector fixed long is =
      let z_is : z ≡ v.segment.sector_size = same_Some z v.segment.sector_size (sector ∙ stored_sector) in
      let size_is : size ≡ v.segment.size = same_Some size v.segment.size (fixed ∙ stored_size) in
      plaintext_length v.segment (cipher_of v) image image_len len long (rw (z_is, size_is, stored.offset) at is)

  -- the length of the segment's plaintext is that of the volume's
  plain_len_is : (image : List ℕ) (image_len : ℕ) → length image ≡ image_len
      → plain_len_of v.segment image_len ≡ length (plaintext_of v image)
  plain_len_is image image_len long =
      plaintext_length v.segment (cipher_of v) image image_len (plain_len_of v.segment image_len) long refl

  -- a step that is planned is the next one of the volume's plaintext
  pub planned : (image : List ℕ) (image_len offset count : ℕ) (step : LuksrdStep) → length image ≡ image_len
      → Plans c image_len offset count step
      → IsNextStep v.segment (length (plaintext_of v image)) offset count (step_in step)
  planned image image_len offset count step long plans =
      subst (λ len. IsNextStep v.segment len offset count (step_in step)) (plain_len_is image image_len long)
      (plans v.segment stored_segment)

  -- a step is refused exactly if the range ends past the volume's plaintext
  pub planned_code : (image : List ℕ) (image_len offset count : ℕ) → length image ≡ image_len
      → plan_code c image_len offset count
      ≡ (if nat_le (offset + count) (length (plaintext_of v image)) then 0 else 17)
  planned_code image image_len offset count long =
      ap (λ (s : Option Segment). plan_code_by s image_len offset count) stored_segment
      ∙ ap (λ len. if nat_le (offset + count) len then 0 else 17) (plain_len_is image image_len long)

-- the keys of a volume that was opened are expanded
pub filled_code : (c : LuksrdVolume) (v : UnlockedVolume) → Filled c v → prepare_code c ≡ 0
filled_code c v filled =
    rw filled.reserved (ap (λ (s : Option Segment). prepare_code_by s c.key_size) (stored_segment c v filled.stores)
    ∙ rw (filled.key_size, v.key_length) refl)
