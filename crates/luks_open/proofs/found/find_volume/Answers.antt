use Rattle.std.proofs.Common.{Err, ap, sym}
use Rattle.luks_io.proofs.ErrorLemmas.{given_error}
use Rattle.luks_open.proofs.ReasonLemmas.{unordered_without_argon2}
use Rattle.luks_open.proofs.VolumeLemmas.{aborts_without_header, aborts_without_order, aborts_without_segment}
use Rattle.luks_open.proofs.VolumeLemmas.{none_remain}
use Rattle.luks_open.proofs.found.find_volume.Goals as goal

pub returns-in_err-header-clause-err : goal.returns-in_err-header-clause-err
returns-in_err-header-clause-err g c =
    rw (given_error _ _ c.from_residual.ensures.1) (λ known is.
    aborts_without_header c.args.location _ known _ _ _ c.in_err-header.field-0.0
    (c.in_err-header.ensures.no_header known is))

pub returns-in_err-segment-clause-err : goal.returns-in_err-segment-clause-err
returns-in_err-segment-clause-err g c =
    rw (given_error _ _ c.from_residual-in_err-segment.ensures.1) (λ known is.
    let read = c.in_ok-header.ensures.consumed known is in
    aborts_without_segment c.args.location c.args.slots known _ c.in_ok-header.header read.0 read.2
    _ (sym c.in_err-segment.ensures))

pub returns-in_err-order-clause-err : goal.returns-in_err-order-clause-err
returns-in_err-order-clause-err g c =
    rw (given_error _ _ c.from_residual-in_err-order.ensures.1) (λ known is.
    let read = c.in_ok-header.ensures.consumed known is in
    aborts_without_order c.args.location c.args.slots known _ c.in_ok-header.header read.0 read.2
    c.in_ok-segment.segment (sym c.in_ok-segment.ensures) _ c.in_err-order.ensures.answer
    (λ memory. c.in_err-order.ensures.memory (ap Err memory)))

-- without limits for Argon2, the fault has no reason of a program with Argon2
pub returns-in_err-header-clause-without_argon2 : goal.returns-in_err-header-clause-without_argon2
returns-in_err-header-clause-without_argon2 g c = rw (given_error _ _ c.from_residual.ensures.1) (λ none. tt)

pub returns-in_err-segment-clause-without_argon2 : goal.returns-in_err-segment-clause-without_argon2
returns-in_err-segment-clause-without_argon2 g c =
    rw (given_error _ _ c.from_residual-in_err-segment.ensures.1) (λ none. tt)

pub returns-in_err-order-clause-without_argon2 : goal.returns-in_err-order-clause-without_argon2
returns-in_err-order-clause-without_argon2 g c =
    rw (given_error _ _ c.from_residual-in_err-order.ensures.1) (λ none.
    unordered_without_argon2 c.in_ok-header.header c.args.slots none _ c.in_err-order.ensures.answer)

pub returns-clause-found : goal.returns-clause-found
returns-clause-found g c =
    let read = c.in_ok-header.ensures in
    record {
      slots = record { segment = sym c.in_ok-segment.ensures; order = c.in_ok-order.ensures.answer };
      of_area = read.of_area;
      area = read.whole_area;
      found = λ known is.
          let whole = read.consumed known is in
          record {
            slots = record { segment = sym c.in_ok-segment.ensures; order = c.in_ok-order.ensures.answer };
            header = whole.0;
            area = whole.1;
            consumed = whole.2;
            ended = none_remain _ _ _ _ _ known _ read.loaded is whole.2.left;
          };
      loaded = read.loaded;
    }
