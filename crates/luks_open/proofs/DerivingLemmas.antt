-- Which keys can be derived, for callers.
use Rattle.std.proofs.Common.{◌≡◌, ℕ, ◌^◌, ◌<◌, true, List, length, Option, Some, None, Ok, arith}
use Rattle.std.specs.Prelude.{slice_index_or}
use Rattle.std.specs.List.{All}
use Rattle.luks_format.specs.Derivation.{IsDerivable, is_allowed}
use Rattle.luks_format.specs.declared.derivation.Derivation.{Derivation}
use Rattle.luks_format.specs.declared.derivation.Derivation.TheVariants.{Pbkdf2, Argon2}
use Rattle.luks_format.specs.declared.derivation.Limits.{Limits}
use Rattle.luks_format.specs.declared.segment.Segment.{Segment}
use Rattle.luks_format.proofs.RangeLemmas.{slot_range}
use Rattle.luks2_metadata.proofs.SlotLemmas.{IsSaltFor}
use Rattle.luks_header.specs.HeaderSegment.{segment_of}
use Rattle.luks_header.specs.declared.header.Header.{Header}
use Rattle.luks_header.proofs.KnownLemmas.{IsKnown}
use Rattle.luks_open.specs.Opening.{OrderModel, order_within}
use Rattle.luks_open.specs.declared.entry.Entry.{Entry}
use Rattle.luks_open.proofs.CallerLemmas.{each_known}
use Rattle.luks_open.specs.WithArgon2.{CanDerive}

-- a key that may be derived in its way can be, if the passphrase is not too long
can_derive : (limits : Limits) (derivation : Derivation) (pass salt : List ℕ) → is_allowed limits derivation ≡ true
    → IsDerivable derivation → IsSaltFor derivation salt → length pass < 2 ^ 32 → CanDerive derivation pass salt
can_derive limits (Pbkdf2 (Some hash) iterations) pass salt is range short_salt short =
    (range.some, omega (arith, range.few))
can_derive limits (Pbkdf2 None iterations) pass salt is range short_salt short = absurd cc
can_derive limits (Argon2 parameters) pass salt is range short_salt short = (range, short, short_salt)

-- the keys of all key slots to be tried can be derived
pub All-CanDerive : (header : Header) (named : Option ℕ) (limits : Limits) (order : OrderModel)
    → order_within header named limits ≡ Ok order → (segment : Segment) → segment_of header ≡ Ok segment
    → (pass : List ℕ) → length pass < 2 ^ 32
    → All (λ (entry : Entry). CanDerive entry.slot.parts.derivation pass entry.slot.parts.salt) order.entries
All-CanDerive header named limits order is_order segment is_segment pass short = λ k d below.
    let entry = slice_index_or order.entries k d in
    let known : IsKnown segment limits entry.slot =
    each_known header named limits order is_order segment is_segment k d below in
    can_derive limits entry.slot.parts.derivation pass entry.slot.parts.salt known.kdf
    (slot_range entry.slot).derivation known.salt short
