use Rattle.std.proofs.Common.{◌≡◌, ◌∙◌, ℕ, Bool, List, Option, Ok, Err, ap, arith, false, length, sym, true}
use Rattle.std.specs.Prelude.{if◌then◌else◌}
use Rattle.luks_io.proofs.ErrorLemmas.{given_error}
use Rattle.luks_cipher.specs.Sector.{is_mode_key_length}
use Rattle.luks_format.specs.declared.fault.HeaderFault.{HeaderFault}
use Rattle.luks_format.specs.declared.fault.HeaderFault.TheVariants.{Read as HeaderRead, Memory as HeaderMemory}
use Rattle.luks_format.specs.declared.refusal.SegmentFault.{SegmentFault}
use Rattle.luks_format.specs.declared.segment.Segment.{Segment}
use Rattle.luks_header.proofs.KnownLemmas.{memory_below}
use Rattle.luks_header.specs.Header.{ReadsNoHeader, header_read_len}
use Rattle.luks_header.specs.HeaderSegment.{segment_of}
use Rattle.luks_header.specs.declared.header.Header.{Header}
use Rattle.luks_open.specs.VolumeKey.{compared, key_digest_of}
use Rattle.luks_open.specs.declared.volume_key.KeyCheck.{KeyCheck}
use Rattle.luks_open.specs.declared.volume_key.KeyCheck.TheVariants.{Differs}
use Rattle.luks_open.specs.Fault.{aborts_opening}
use Rattle.luks_open.specs.declared.fault.VolumeFault.TheVariants.{Header as HeaderNotRead}
use Rattle.luks_open.specs.declared.fault.VolumeFault.TheVariants.{Segment as SegmentRefused}
use Rattle.luks_open.proofs.VolumeLemmas.{reading_fault}
use Rattle.luks_open.specs.Location.{reader_for}
use Rattle.luks_open.specs.declared.location.HeaderLocation.{HeaderLocation}
use Rattle.luks_access.specs.Keys.{ConsumesToCheck, check_in_header, check_in_segment, key_check_of}
use Rattle.luks_access.proofs.key.check_key_from.Goals as goal

module _ (location : HeaderLocation) (limit : Option ℕ) (image key : List ℕ) where
  -- no header was read
  refused_unread : (left : Option (List ℕ)) (ends ends' : ℕ) (fault : HeaderFault)
      → ReadsNoHeader image left ends ends' fault → aborts_opening (HeaderNotRead fault) ≡ false
      → key_check_of location limit image key ≡ Err (HeaderNotRead fault)
  unfolding key_check_of
  refused_unread left ends ends' HeaderRead stop never = cc
  refused_unread left ends ends' HeaderMemory stop never = cc
  refused_unread left ends ends' fault stop never =
      ap (check_in_header limit key) (reading_fault location image fault stop.0)

  module _ (header : Header) (read : reader_for location image ≡ Ok header) where
    -- the segment was refused
    refused_segment : (fault : SegmentFault) → segment_of header ≡ Err fault
        → key_check_of location limit image key ≡ Err (SegmentRefused fault)
    unfolding key_check_of
    refused_segment fault is = ap (check_in_header limit key) read ∙ ap (check_in_segment header limit key) is

    -- the length of the key was looked at, and the key compared
    checked : (segment : Segment) → segment_of header ≡ Ok segment → (is_length : Bool)
        → is_mode_key_length segment.mode (length key) ≡ is_length
        → key_check_of location limit image key
        ≡ Ok (if is_length then compared limit (key_digest_of header) key else Differs)
    unfolding key_check_of
    checked segment is is_length tested =
        ap (check_in_header limit key) read
        ∙ (ap (check_in_segment header limit key) is
        ∙ ap (λ (b : Bool). Ok (if b then compared limit (key_digest_of header) key else Differs)) tested)

-- no header was read: the bytes that are read for it were consumed, or no more than these
consumed_unread : (image : List ℕ) (left : Option (List ℕ)) (ends ends' : ℕ) (fault : HeaderFault)
    → ReadsNoHeader image left ends ends' fault → ConsumesToCheck {T = KeyCheck × Segment} image (Err
    (HeaderNotRead fault)) left
consumed_unread image left ends ends' HeaderRead stop = stop.0
consumed_unread image left ends ends' HeaderMemory stop = memory_below image left ends ends' stop
consumed_unread image left ends ends' fault stop = stop.1.0

pub returns-in_err-header-clause-refuses : goal.returns-in_err-header-clause-refuses
returns-in_err-header-clause-refuses g c =
    rw (given_error _ _ c.from_residual.ensures.1) (λ never known is.
    refused_unread c.args.location c.args.max_iterations known c.args.key.now _ _ _ c.in_err-header.field-0.0
    (c.in_err-header.ensures.no_header known is) never)

pub returns-in_err-segment-clause-refuses : goal.returns-in_err-segment-clause-refuses
returns-in_err-segment-clause-refuses g c =
    rw (given_error _ _ c.from_residual-in_err-segment.ensures.1) (λ never known is.
    refused_segment c.args.location c.args.max_iterations known c.args.key.now c.in_ok-header.header
    (c.in_ok-header.ensures.consumed known is).0 _ (sym c.in_err-segment.ensures))

pub returns-then-not-has_key_length-clause-checks : goal.returns-then-not-has_key_length-clause-checks
returns-then-not-has_key_length-clause-checks g c known is =
    checked c.args.location c.args.max_iterations known c.args.key.now c.in_ok-header.header
    (c.in_ok-header.ensures.consumed known is).0 c.in_ok-segment.segment (sym c.in_ok-segment.ensures) false
    (sym c.has_key_length.ensures ∙ c.if-not-has_key_length.true)

pub returns-clause-checks : goal.returns-clause-checks
returns-clause-checks g c known is =
    checked c.args.location c.args.max_iterations known c.args.key.now c.in_ok-header.header
    (c.in_ok-header.ensures.consumed known is).0 c.in_ok-segment.segment (sym c.in_ok-segment.ensures) true
    (sym c.has_key_length.ensures ∙ c.if-not-has_key_length.false)
    ∙ ap Ok (sym c.in_ok-check.ensures.value)

pub returns-in_err-header-clause-consumes : goal.returns-in_err-header-clause-consumes
returns-in_err-header-clause-consumes g c =
    rw (given_error _ _ c.from_residual.ensures.1) (λ known is.
    consumed_unread known _ _ _ c.in_err-header.field-0.0 (c.in_err-header.ensures.no_header known is))

pub returns-in_err-segment-clause-consumes : goal.returns-in_err-segment-clause-consumes
returns-in_err-segment-clause-consumes g c =
    rw (given_error _ _ c.from_residual-in_err-segment.ensures.1) (λ known is.
    (c.in_ok-header.ensures.consumed known is).2)

pub returns-then-not-has_key_length-clause-consumes : goal.returns-then-not-has_key_length-clause-consumes
returns-then-not-has_key_length-clause-consumes g c known is = (c.in_ok-header.ensures.consumed known is).2

-- memory ran out after the header was read
pub returns-in_err-check-clause-consumes : goal.returns-in_err-check-clause-consumes
returns-in_err-check-clause-consumes g c =
    rw (given_error _ _ c.from_residual-in_err-check.ensures.1) (λ known is.
    (header_read_len known, omega arith, (c.in_ok-header.ensures.consumed known is).2))

pub returns-clause-consumes : goal.returns-clause-consumes
returns-clause-consumes g c known is = (c.in_ok-header.ensures.consumed known is).2

pub returns-then-not-has_key_length-clause-segment : goal.returns-then-not-has_key_length-clause-segment
returns-then-not-has_key_length-clause-segment g c known is =
    (c.in_ok-header.header, (c.in_ok-header.ensures.consumed known is).0, sym c.in_ok-segment.ensures)

pub returns-clause-segment : goal.returns-clause-segment
returns-clause-segment g c known is =
    (c.in_ok-header.header, (c.in_ok-header.ensures.consumed known is).0, sym c.in_ok-segment.ensures)
