-- The key slots to be tried, which of them opens a volume, and how many evaluations of HMAC that costs.
use Rattle.std.specs.Prelude.{ℕ, ◌+◌, ◌<◌, get_or, take, sum_by, if◌then◌else◌, List, [], ◌∷◌, Option, Some, None}
use Rattle.std.specs.Prelude.{Result, Ok, Err}
use Rattle.std.specs.Prelude.{length, is_some, ok_or, option_and_then, option_map, ◌≡◌, ◌==◌, ◌⊎◌, max, MatchResult}
use Rattle.std.specs.Prelude.{◌++◌}
use Rattle.std.specs.Option.{option_or}
use Rattle.luks_format.specs.declared.refusal.SkipReason.{SkipReason}
use Rattle.luks_open.specs.Candidate.{candidate_of, matches_digest}
use Rattle.luks_open.specs.Deriving.{NeedsMemory, blocks_by, evaluations, evaluations_by}
use Rattle.luks_open.specs.declared.entry.Entry.{Entry}
use Rattle.luks_open.specs.declared.fault.OpenFault.{OpenFault}
use Rattle.luks_open.specs.declared.fault.OpenFault.TheVariants.{NoKey, NoSuchSlot, Disabled, NamedSkipped}
use Rattle.luks_open.specs.declared.fault.OpenFault.TheVariants.{NothingTried, Memory}
use Rattle.luks_open.specs.declared.opening.Opened.{Opened}
use Rattle.luks_format.specs.Derivation.{without_argon2}
use Rattle.luks_format.specs.Rule.{max_slots}
use Rattle.luks_format.specs.Slot.{material_end}
use Rattle.luks_format.specs.Table.{ascending}
use Rattle.luks_format.specs.declared.derivation.Limits.{Limits}
use Rattle.luks_format.specs.declared.slot.Verdict.{Verdict}
use Rattle.luks_format.specs.declared.slot.Verdict.TheVariants.{Usable, Disabled as VerdictDisabled, Skipped}
use Rattle.luks_header.specs.SlotVerdicts.{verdict_within}
use Rattle.luks_header.specs.declared.header.Header.{Header}

-- ---- the order of the key slots

-- the key slots to be tried, and those that are skipped
pub record OrderModel : Type 0 where
  -- the key slots with their numbers, in the order in which they are tried
  pub entries : List Entry
  -- the key slots that were skipped, by ascending number; empty if a key slot was named
  pub skipped : List (ℕ × SkipReason)

-- the key slot of this number with this verdict, if it can be tried and has this priority
abbrev pub entry_with_priority : ℕ → ℕ → Option Verdict → Option Entry
entry_with_priority priority number (Some (Usable slot)) =
    if slot.parts.priority == priority then Some record { number = number; slot = slot } else None
entry_with_priority priority number _ = None

-- the key slot of this number, if it can be tried and has this priority
abbrev pub tried_with : Header → Limits → ℕ → ℕ → Option Entry
tried_with header limits priority number = entry_with_priority priority number (verdict_within header limits number)

-- the number of a key slot and the reason why it is skipped, if it is
abbrev pub skipped_with_reason : ℕ → Option Verdict → Option (ℕ × SkipReason)
skipped_with_reason number (Some (Skipped reason)) = Some (number, reason)
skipped_with_reason number _ = None

-- the number of this key slot and the reason why it is skipped, if it is
abbrev pub skipped_at : Header → Limits → ℕ → Option (ℕ × SkipReason)
skipped_at header limits number = skipped_with_reason number (verdict_within header limits number)

-- the order that tries these key slots, or the fault if there are none
abbrev pub unless_none : List Entry → List (ℕ × SkipReason) → Result OrderModel OpenFault
unless_none [] skipped = Err (NothingTried skipped)
unless_none (entry ∷ entries) skipped = Ok record { entries = entry ∷ entries; skipped = skipped }

-- the order if the key slot of this number, with this verdict, is named: it alone is tried, whatever its priority
abbrev pub order_of_named : ℕ → Option Verdict → Result OrderModel OpenFault
order_of_named number None = Err (NoSuchSlot number)
order_of_named number (Some (Usable slot)) =
    Ok record { entries = record { number = number; slot = slot } ∷ []; skipped = [] }
order_of_named number (Some VerdictDisabled) = Err (Disabled number)
order_of_named number (Some (Skipped reason)) = Err (NamedSkipped number reason)

-- the key slots of a header to be tried, by the named key slot and the limits, or why there are none. If no key slot is
-- named: those of priority 2, then those of priority 1, each by ascending number
unfoldable pub order_within : Header → Option ℕ → Limits → Result OrderModel OpenFault
order_within header None limits =
    unless_none (ascending (tried_with header limits 2) max_slots ++ ascending (tried_with header limits 1) max_slots)
    (ascending (skipped_at header limits) max_slots)
order_within header (Some named) limits = order_of_named named (verdict_within header limits named)

-- the same without Argon2, by the limit on iterations
abbrev pub order_of : Header → Option ℕ → Option ℕ → Result OrderModel OpenFault
order_of header named limit = order_within header named (without_argon2 limit)

-- an answer is the specified one, or memory ran out
abbrev pub IsOrMemory : {T : Type 0} → Result T OpenFault → Result T OpenFault → Type 0
IsOrMemory specified answer =
    MatchResult answer (λ value. specified ≡ Ok value) (λ fault. (fault ≡ Memory) ⊎ (specified ≡ Err fault))

-- the end of the last key material of these key slots
unfoldable pub key_material_end : List Entry → ℕ
key_material_end [] = 0
key_material_end (entry ∷ entries) = max (material_end entry.slot.parts) (key_material_end entries)

-- ---- opening

-- the volume key that a key slot gives under a passphrase, if it opens: the candidate, if it matches the digest
unfoldable pub slot_key : Entry → List ℕ → List ℕ → Option (List ℕ)
slot_key entry image pass = option_and_then
    (λ key. if matches_digest entry.slot.digest key then Some key else None) (candidate_of entry.slot image pass)

-- the first of these key slots that opens, and the volume key that it gives
unfoldable pub first_opening : List Entry → List ℕ → List ℕ → Option Opened
first_opening [] image pass = None
first_opening (entry ∷ entries) image pass =
    option_or (option_map (λ key. record { slot = entry.number; key = key }) (slot_key entry image pass))
    (first_opening entries image pass)

-- the first of the key slots to be tried that a passphrase opens, or the fault if it opens none
unfoldable pub opening_of : OrderModel → List ℕ → List ℕ → Result Opened OpenFault
opening_of order image pass = ok_or (first_opening order.entries image pass) (NoKey order.skipped)

-- the evaluations that trying a key slot costs: for the key of its key material, and for the digest of the candidate
unfoldable pub evaluations_of : Entry → ℕ
evaluations_of entry =
    evaluations_by entry.slot.parts.derivation entry.slot.parts.area_key_bytes
    + evaluations entry.slot.digest.parts.hash entry.slot.digest.parts.iterations (length entry.slot.digest.parts.value)

-- the blocks that Argon2 fills for the key of a key slot's key material
abbrev pub blocks_of : Entry → ℕ
blocks_of entry = blocks_by entry.slot.parts.derivation

-- the key slots that are tried: up to the first that opens, or all
unfoldable pub tried_of : List Entry → List ℕ → List ℕ → List Entry
tried_of [] image pass = []
tried_of (entry ∷ entries) image pass = entry
    ∷ (if is_some (slot_key entry image pass) then [] else tried_of entries image pass)

-- the evaluations of HMAC that opening costs: those of all key slots that are tried
unfoldable pub work_of : OrderModel → List ℕ → List ℕ → ℕ
work_of order image pass = sum_by evaluations_of (tried_of order.entries image pass)

-- the blocks that Argon2 fills for opening: those of all key slots that are tried
abbrev pub blocks_filled : OrderModel → List ℕ → List ℕ → ℕ
blocks_filled order image pass = sum_by blocks_of (tried_of order.entries image pass)

-- the key slot of this number follows the first n, none of which opens, and Argon2 needs this much memory for its key
pub record StopsAfter (entries : List Entry) (image pass : List ℕ) (n number memory_kib : ℕ) : Type 0 where
  pub there : n < length entries
  pub slot : (entry : Entry) → (get_or entries n entry).number ≡ number
  pub none : first_opening (take n entries) image pass ≡ None
  pub needs : (entry : Entry) → NeedsMemory (get_or entries n entry).slot.parts.derivation memory_kib
