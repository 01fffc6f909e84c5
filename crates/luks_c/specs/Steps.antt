-- The structs of `c/luksrd.h` with which a range of a plaintext is read, and what the functions over them answer.
use Rattle.std.specs.Prelude.{ℕ, ◌≡◌, ◌==◌, ◌+◌, ◌-◌, ◌*◌, ◌/◌, if◌then◌else◌}
use Rattle.std.specs.Prelude.{drop, nat_le, replicate, take, Option, None, Some}
use Rattle.std.specs.Prelude.{List}
use Rattle.luks_aes.specs.declared.batch.round_key.RoundKey.{RoundKey}
use Rattle.luks_cipher.specs.Expanded.{AreExpanded}
use Rattle.luks_cipher.specs.Sector.{is_mode_key_length}
use Rattle.luks_cipher.specs.declared.expanded.ExpandedKeys.{ExpandedKeys}
use Rattle.luks_format.specs.declared.segment.Segment.{Segment}
use Rattle.luks_payload.specs.Plain.{payload_bytes, sector_len}
use Rattle.luks_access.specs.Sectors.{plain_in}
use Rattle.luks_access.specs.Steps.{IsNextStep}
use Rattle.luks_access.specs.declared.step.ReadStep.{ReadStep}
use Rattle.luks_c.specs.Stored.{IsCleared, cipher_in, key_in, range_code, segment_in}
use Rattle.luks_c.specs.declared.cipher.LuksrdCipher.{LuksrdCipher}
use Rattle.luks_c.specs.declared.step.LuksrdStep.{LuksrdStep}
use Rattle.luks_c.specs.declared.volume.LuksrdVolume.{LuksrdVolume}

-- ---- expanded keys

-- a round key of zeros
abbrev pub zero_key : RoundKey
zero_key = record {
  plane_0 = record { words = replicate 16 0 };
  plane_1 = record { words = replicate 16 0 };
  plane_2 = record { words = replicate 16 0 };
  plane_3 = record { words = replicate 16 0 };
  plane_4 = record { words = replicate 16 0 };
  plane_5 = record { words = replicate 16 0 };
  plane_6 = record { words = replicate 16 0 };
  plane_7 = record { words = replicate 16 0 };
}

-- expanded keys of zeros
abbrev pub no_keys : ExpandedKeys
no_keys = record {
  «data» = record { rounds = 0; first = zero_key; between = replicate 13 zero_key; last = zero_key };
  iv_or_tweak = record { rounds = 0; bytes = replicate 240 0 };
}

-- the struct holds no cipher: all of it is zero
pub record IsNoCipher (c : LuksrdCipher) : Type 0 where
  pub volume : IsCleared c.volume
  pub keys : c.keys ≡ no_keys
  pub reserved : c.reserved ≡ replicate 82 0

-- the struct holds the expanded keys of its volume, as `luksrd_prepare` leaves it
pub record IsPrepared (c : LuksrdCipher) : Type 0 where
  pub keys : (s : Segment) → segment_in c.volume ≡ Some s → AreExpanded (key_in c.volume) s.mode c.keys

-- the code of expanding a key of this length, if there is a segment and its mode has keys of this length
abbrev pub prepare_code_by : Option Segment → ℕ → ℕ
prepare_code_by None key_size = 16
prepare_code_by (Some s) key_size = if is_mode_key_length s.mode key_size then 0 else 16

-- the code of expanding the key that the struct has, for the segment that its fields make, if they make one, and if the
-- reserved field is 0
abbrev pub prepare_code : LuksrdVolume → ℕ
prepare_code c = if c.reserved == 0 then prepare_code_by (segment_in c) c.key_size else 16

-- ---- steps

-- the step that the struct holds
abbrev pub step_in : LuksrdStep → ReadStep
step_in c = record {
  read_offset = c.read_offset;
  read_len = c.read_len;
  first_sector = c.first_sector;
  skip = c.skip;
  count = c.count;
}

-- the struct holds no step: all of it is zero
pub record IsNoStep (c : LuksrdStep) : Type 0 where
  pub read_offset : c.read_offset ≡ 0
  pub read_len : c.read_len ≡ 0
  pub first_sector : c.first_sector ≡ 0
  pub skip : c.skip ≡ 0
  pub count : c.count ≡ 0

-- the length of a segment's plaintext in an image of `image_len` bytes: all whole sectors
abbrev pub plain_len_of : Segment → ℕ → ℕ
plain_len_of s image_len = payload_bytes s.size (image_len - s.offset) / sector_len s * sector_len s

-- the code of a step of reading `count` bytes from `offset` on, if there is a segment
abbrev pub plan_code_by : Option Segment → ℕ → ℕ → ℕ → ℕ
plan_code_by None image_len offset count = 16
plan_code_by (Some s) image_len offset count = if nat_le (offset + count) (plain_len_of s image_len) then 0 else 17

-- the code of such a step for the segment that the struct's fields make, if they make one
abbrev pub plan_code : LuksrdVolume → ℕ → ℕ → ℕ → ℕ
plan_code c image_len offset count = plan_code_by (segment_in c) image_len offset count

-- the struct holds the next step of reading `count` bytes from `offset` on
abbrev pub Plans : LuksrdVolume → ℕ → ℕ → ℕ → LuksrdStep → Type 0
Plans c image_len offset count step =
    (s : Segment) → segment_in c ≡ Some s → IsNextStep s (plain_len_of s image_len) offset count (step_in step)

-- the bytes that a step read were decrypted, and those that the range gets are the first
abbrev pub Finishes : LuksrdVolume → LuksrdStep → List ℕ → List ℕ → Type 0
Finishes c step old new =
    (s : Segment) → segment_in c ≡ Some s
    → take step.count new ≡ take step.count (drop step.skip (plain_in s (cipher_in c s.mode) step.first_sector old))

-- the code of finishing a step with `len` bytes, if there is a segment
abbrev pub finish_code_by : Option Segment → LuksrdStep → ℕ → ℕ
finish_code_by None step len = 16
finish_code_by (Some s) step len =
    if nat_le (step.skip + step.count) len then range_code s.sector_size step.first_sector len else 17

-- the code of finishing such a step for the segment that the struct's fields make, if they make one
abbrev pub finish_code : LuksrdVolume → LuksrdStep → ℕ → ℕ
finish_code c step len = finish_code_by (segment_in c) step len
