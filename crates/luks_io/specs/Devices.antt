-- The effects of calls on one device: which bytes a source gave, which bytes a sink accepted, and what is counted. A
-- device may know its bytes: `Some` of a list, or `None` if it does not. std's relations `Consumes`, `Appends` and
-- `IsAtEnd` state what one call does to them, and claim nothing for `None`. Forwarding has effects on two devices:
-- bytes go from a source to a sink without a buffer between them.
use Rattle.std.specs.Prelude.{◌≡◌, ℕ, ◌+◌, ◌-◌, ◌^◌, ◌<◌, ◌≤◌, ◌++◌, ◌==◌, ◌&&◌, min, nat_lt, Bool, true, false, List}
use Rattle.std.specs.Prelude.{drop, length, take, MatchResult, Result, Ok, Err, Option, None, Some}
use Rattle.std.specs.Io.KnownBytes.{Consumes}
use Rattle.luks_io.specs.declared.sink.WriteFault.{WriteFault}

-- if a device knows its bytes, this holds for them
abbrev pub IfKnown : Option (List ℕ) → (List ℕ → Type 0) → Type 0
IfKnown device Holds = (known : List ℕ) → device ≡ Some known → Holds known

-- the first `count` of a source's remaining bytes were consumed, and those after them remain
pub record ConsumedExactly (known : List ℕ) (left' : Option (List ℕ)) (count : ℕ) : Type 0 where
  pub within : count ≤ length known
  pub left : left' ≡ Some (drop count known)

-- the first of a source's remaining bytes were consumed: at most `most`
abbrev pub ConsumedAtMost : List ℕ → Option (List ℕ) → ℕ → Type 0
ConsumedAtMost known left most = (count : ℕ) × (count ≤ most) × ConsumedExactly known left count

-- the first of a source's remaining bytes were consumed: fewer than `all`
abbrev pub ConsumedFewer : List ℕ → Option (List ℕ) → ℕ → Type 0
ConsumedFewer known left all = (count : ℕ) × (count < all) × ConsumedExactly known left count

-- the first of a source's remaining bytes were consumed: at least `least`, and fewer than `all`
abbrev pub ConsumedBetween : List ℕ → Option (List ℕ) → ℕ → ℕ → Type 0
ConsumedBetween known left least all = (count : ℕ) × (least ≤ count) × (count < all) × ConsumedExactly known left count

-- the first `count` bytes of a buffer are those that were consumed
abbrev pub ConsumedInto : List ℕ → Option (List ℕ) → List ℕ → ℕ → Type 0
ConsumedInto known left buf count = ConsumedExactly known left count × (take count buf ≡ take count known)

-- the bytes were appended to those that a sink had accepted, if it knows them
abbrev pub Appended : Option (List ℕ) → Option (List ℕ) → List ℕ → Type 0
Appended before after bytes = (known : List ℕ) → before ≡ Some known → after ≡ Some (known ++ bytes)

-- the largest count, at which counts saturate
abbrev pub max_count : ℕ
max_count = 2 ^ 64 - 1

-- a count after some more
abbrev pub saturating_add : ℕ → ℕ → ℕ
saturating_add count more = min (count + more) max_count

-- a count after one more
abbrev pub saturating_inc : ℕ → ℕ
saturating_inc count = saturating_add count 1

-- a count after a call: one more exactly if the call is one of those counted
abbrev pub counted : Bool → ℕ → ℕ
counted true count = saturating_inc count
counted false count = count

-- a read hit EOF: it gave no bytes to a buffer of `capacity` bytes, and `capacity` is not 0
abbrev pub is_end : {E : Type 0} → Result ℕ E → ℕ → Bool
is_end (Ok count) capacity = count == 0 && nat_lt 0 capacity
is_end (Err _) capacity = false

-- fewer bytes were read than were requested, and no read failed: EOF was hit
abbrev pub is_short_read : {E : Type 0} → Result ℕ E → ℕ → Bool
is_short_read (Ok count) requested = nat_lt count requested
is_short_read (Err _) requested = false

-- a sink accepted between one byte and all of a buffer that has any, and none of an empty one, unless the write failed
abbrev pub AcceptsSome : {E : Type 0} → Result ℕ E → List ℕ → Type 0
AcceptsSome r buf = MatchResult r (λ n. (n ≤ length buf) × (0 < length buf → 0 < n)) (λ _. Unit {0})

-- the next `count` bytes of a source were consumed, and the bytes that `written_of` makes of them were written
abbrev pub Forwarded : ℕ → (List ℕ → List ℕ) → Option (List ℕ) → Option (List ℕ) → Option (List ℕ) → Option (List ℕ)
    → Type 0
Forwarded count written_of left left' before after =
    (bytes : List ℕ) × (length bytes ≡ count) × Consumes left left' bytes × Appended before after (written_of bytes)

-- the effect of forwarding `count` bytes of a source: nothing, all of them, or those before a write that failed
abbrev pub ForwardEffect : Option (Result (Unit {0}) WriteFault) → Type 0 → ℕ → (List ℕ → List ℕ) → Option (List ℕ)
    → Option (List ℕ) → Option (List ℕ) → Option (List ℕ) → Type 0
ForwardEffect None untouched count transformed left left' before after = untouched
ForwardEffect (Some (Ok _)) untouched count transformed left left' before after =
    Forwarded count transformed left left' before after
ForwardEffect (Some (Err fault)) untouched count transformed left left' before after =
    (fault.written < count) × Forwarded count (λ bytes. take fault.written (transformed bytes)) left left' before after

-- whether forwarding was aborted
abbrev pub is_aborted : Option (Result (Unit {0}) WriteFault) → Bool
is_aborted (Some (Err _)) = true
is_aborted _ = false

-- the bytes that stay buffered
abbrev pub buffered_after : Option (Result (Unit {0}) WriteFault) → ℕ → List ℕ → List ℕ
buffered_after None count buffered = buffered
buffered_after (Some _) count buffered = drop count buffered
