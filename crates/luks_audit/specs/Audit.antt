-- What is listed of a header of either format.
use Rattle.std.specs.Prelude.{ℕ, ◌&&◌, ◌==◌, Bool, false, List, [], ◌∷◌, Option, Some, None, codes}
use Rattle.std.specs.Prelude.{if◌then◌else◌, length, map, not, option_and_then, option_map, slice_get, unwrap_or}
use Rattle.std.specs.List.{cons_option}
use Rattle.luks_report.specs.Findings.{finding_list}
use Rattle.luks_format.specs.Rule.{max_slots}
use Rattle.luks_format.specs.Slot.{verdict_kind_of}
use Rattle.luks_format.specs.declared.derivation.Limits.{Limits}
use Rattle.luks_format.specs.declared.slot.VerdictKind.{VerdictKind}
use Rattle.luks2_json.specs.Numbered.{object_numbered}
use Rattle.luks_header.specs.SlotVerdicts.{verdict_at, verdict_within}
use Rattle.luks_header.specs.declared.header.Header.{Header}
use Rattle.luks_header.specs.declared.header.Header.TheVariants.{V1, V2}
use Rattle.luks_audit.specs.Finding.{finding_values, unsupported_values}
use Rattle.luks_audit.specs.Numbers.{by_number}
use Rattle.luks_audit.specs.Rows1.{digest1_row, header1_row, payload1_row, slot1_row}
use Rattle.luks_audit.specs.Rows2.{digest2_row, header2_row, payload2_row, slot2_row, token2_row}
use Rattle.luks_audit.specs.Table.{binary_fields, judged_fields, list_fields, payload_fields, place_fields}
use Rattle.luks_audit.specs.Table.{program_fields, segment_fields, volume_fields}
use Rattle.luks_audit.specs.Tree.{empty_object, with_fields}
use Rattle.luks_audit.specs.Verdict.{is_kind_usable}
use Rattle.luks_audit.specs.Weakness.{any_fails, weak_list, weak_value}
use Rattle.luks_audit.specs.declared.audit.Audit.{Audit}
use Rattle.luks_audit.specs.declared.image.Policy.{Policy}
use Rattle.luks_audit.specs.declared.rows.DigestRow.{DigestRow}
use Rattle.luks_audit.specs.declared.rows.HeaderRow.{HeaderRow}
use Rattle.luks_audit.specs.declared.rows.PayloadRow.{PayloadRow}
use Rattle.luks_audit.specs.declared.rows.SlotRow.{SlotRow}
use Rattle.luks_audit.specs.declared.rows.TokenRow.{TokenRow}
use Rattle.luks_audit.specs.declared.weak_row.WeakRow.{WeakRow}
use Rattle.serde_json.specs.Data.{Data}

-- ---- the fields of a header

unfoldable pub header_row : Header → HeaderRow
header_row (V1 header) = header1_row header
header_row (V2 header tree) = header2_row header

unfoldable pub payload_row : Header → PayloadRow
payload_row (V1 header) = payload1_row header
payload_row (V2 header tree) = payload2_row tree

-- the library's default limits: 4 GiB of memory for Argon2, and 64 GiB that its passes fill (c/luksrd.h)
abbrev pub library_limits : Limits
library_limits = record {
  max_iterations = None;
  argon2 = Some (record { memory_kib = 4194304; fill_kib = 67108864 });
}

-- the library can try the key slot of this number, by these limits
abbrev pub library_can_try : Header → ℕ → Bool
library_can_try header number =
    unwrap_or (option_map is_kind_usable (option_map verdict_kind_of
    (verdict_within header library_limits number))) false

-- the key slot of this number, if the header has it, with this verdict
unfoldable pub slot_row : Header → ℕ → VerdictKind → Option SlotRow
slot_row (V1 header) number kind =
    option_map (λ slot. slot1_row header slot number kind (library_can_try (V1 header) number))
    (slice_get header.slots number)
slot_row (V2 header tree) number kind =
    option_map (λ slot. slot2_row slot number kind (library_can_try (V2 header tree) number))
    (object_numbered (codes "keyslots") tree number)

-- the same with its own verdict, as a list of none or one. The number of iterations has no limit here
unfoldable pub slot_rows : Header → ℕ → List SlotRow
slot_rows header number =
    cons_option (option_and_then (slot_row header number) (option_map verdict_kind_of
    (verdict_at header None number))) []

-- the digest of this number; that of LUKS1 is number 0
unfoldable pub digest_rows : Header → ℕ → List DigestRow
digest_rows (V1 header) number = if number == 0 then digest1_row header ∷ [] else []
digest_rows (V2 header tree) number =
    cons_option (option_map (λ digest. digest2_row digest number) (object_numbered (codes "digests") tree number)) []

-- the token of this number. LUKS1 has none
unfoldable pub token_rows : Header → ℕ → List TokenRow
token_rows (V1 header) number = []
token_rows (V2 header tree) number =
    cons_option (option_map (λ token. token2_row token number) (object_numbered (codes "tokens") tree number)) []

abbrev pub slot_list : Header → List SlotRow
slot_list header = by_number (slot_rows header) max_slots

abbrev pub digest_list : Header → List DigestRow
digest_list header = by_number (digest_rows header) max_slots

abbrev pub token_list : Header → List TokenRow
token_list header = by_number (token_rows header) max_slots

-- ---- what is listed

abbrev pub weak_of : Option ℕ → Header → List WeakRow
weak_of minimum header =
    weak_list minimum (payload_row header) (slot_list header) (digest_list header) (token_list header)

-- the object of a header that was found in a file at this offset
unfoldable pub with_volume : Header → Data → Data
with_volume header owner =
    with_fields (segment_fields (payload_row header)) (with_fields (payload_fields (payload_row header))
    (with_fields (binary_fields (header_row header)) (with_fields (volume_fields (header_row header)) owner)))

unfoldable pub with_lists : List SlotRow → List DigestRow → List TokenRow → Data → Data
with_lists slots digests tokens owner = with_fields (list_fields slots digests tokens) owner

unfoldable pub audit_value : Option ℕ → List ℕ → ℕ → Header → Data
audit_value minimum file offset header =
    with_fields (judged_fields (finding_values header (finding_list header))
    (unsupported_values header (finding_list header)) (map weak_value (weak_of minimum header)))
    (with_lists (slot_list header) (digest_list header) (token_list header)
    (with_volume header (with_fields (place_fields file offset) (with_fields program_fields empty_object))))

-- nothing is wrong, and nothing weak that is as severe as the policy asks for. What luksrd does not support is not
-- wrong
unfoldable pub is_clean : Policy → Header → Bool
is_clean policy header =
    (length (finding_values header (finding_list header)) == 0)
    && not (any_fails policy.fail_on (weak_of policy.minimum header))

abbrev pub audit_of : Policy → List ℕ → ℕ → Header → Audit
audit_of policy file offset header = record {
  tree = audit_value policy.minimum file offset header;
  is_clean = is_clean policy header;
}
