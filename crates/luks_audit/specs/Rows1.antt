-- Which member of a LUKS1 header each field is (LUKS1 On-Disk Format Specification 1.2.3, section 2.1, figures 1 to 3).
use Rattle.std.specs.Prelude.{ℕ, ◌*◌, ◌++◌, Bool, false, List, Some, None, codes, not}
use Rattle.luks_format.specs.Rule.{key_material_len}
use Rattle.luks_format.specs.declared.slot.VerdictKind.{VerdictKind}
use Rattle.luks_format.specs.Slot1.{is_disabled}
use Rattle.luks_format.specs.declared.header.Header1.{Header1}
use Rattle.luks_format.specs.declared.header.StoredSlot.{StoredSlot}
use Rattle.luks_audit.specs.Cipher.{mode_of}
use Rattle.luks_audit.specs.declared.rows.CipherMode.{CipherMode}
use Rattle.luks_audit.specs.declared.rows.DigestRow.{DigestRow}
use Rattle.luks_audit.specs.declared.rows.HeaderRow.{HeaderRow}
use Rattle.luks_audit.specs.declared.rows.Length.TheVariants.{Dynamic}
use Rattle.luks_audit.specs.declared.rows.PayloadRow.{PayloadRow}
use Rattle.luks_audit.specs.declared.rows.SlotRow.{SlotRow}
use Rattle.luks_audit.specs.declared.text.Text.{Text}
use Rattle.luks_audit.specs.declared.text.Text.TheVariants.{Fixed, Unicode, Binary}

-- LUKS1 has one header, without a label or what the binary header of LUKS2 has besides
unfoldable pub header1_row : Header1 → HeaderRow
header1_row header = record {
  version = 1;
  uuid = Fixed header.uuid;
  label = None;
  subsystem = None;
  role = None;
  finding = None;
  seqid = None;
  header_size = None;
  checksum_hash = None;
  salt = None;
}

-- the cipher and its mode, as dm-crypt names them
abbrev pub cipher1_of : Header1 → Text
cipher1_of header = Fixed (header.cipher_name ++ codes "-" ++ header.cipher_mode)

-- how the cipher encrypts sectors: in the notation of the kernel's crypto API its name has all its templates
unfoldable pub cipher_mode1 : Header1 → CipherMode
cipher_mode1 header = mode_of header.cipher_name header.cipher_name header.cipher_mode

-- the payload is in sectors of 512 bytes, which are numbered from 0 on, and goes to the image's end
unfoldable pub payload1_row : Header1 → PayloadRow
payload1_row header = record {
  cipher = Some (cipher1_of header);
  key_bytes = Some header.key_bytes;
  sector_size = Some 512;
  iv_tweak = Some 0;
  segment_offset = Some (512 * header.payload_offset);
  segment_size = Some Dynamic;
  segment_type = None;
  segment_flags = None;
  integrity = None;
  flags = None;
  requirements = None;
  has_linear = false;
  mode = cipher_mode1 header;
}

-- a slot's key is derived by PBKDF2, and its area has the bytes that it needs
unfoldable pub slot1_row : Header1 → StoredSlot → ℕ → VerdictKind → Bool → SlotRow
slot1_row header slot number verdict library_can_try = record {
  number = number;
  verdict = verdict;
  library_can_try = library_can_try;
  priority = Some 1;
  key_bytes = Some header.key_bytes;
  kdf = Some (Unicode (codes "pbkdf2"));
  hash = Some (Fixed header.hash_spec);
  salt = Some (Binary slot.salt);
  iterations = Some slot.iterations;
  time = None;
  memory = None;
  threads = None;
  af_hash = Some (Fixed header.hash_spec);
  stripes = Some slot.stripes;
  area_cipher = Some (cipher1_of header);
  area_key_bytes = Some header.key_bytes;
  area_offset = Some (512 * slot.offset);
  area_size = Some (key_material_len header.key_bytes slot.stripes);
  holds_key = not (is_disabled slot.state);
  mode = cipher_mode1 header;
}

-- the digest, by which all key slots are recognised: it names none of them
unfoldable pub digest1_row : Header1 → DigestRow
digest1_row header = record {
  number = 0;
  kind = Some (Unicode (codes "pbkdf2"));
  hash = Some (Fixed header.hash_spec);
  salt = Some (Binary header.digest_salt);
  iterations = Some header.digest_iterations;
  digest = Some (Binary header.digest);
  bytes = Some 20;
  keyslots = None;
  segments = None;
}
