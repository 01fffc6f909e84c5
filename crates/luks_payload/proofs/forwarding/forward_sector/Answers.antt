use Rattle.std.proofs.Common.{rules, ◌≡◌, inr, refl, ◌<◌, ◌++◌, length, arith}
use Rattle.luks_io.proofs.ErrorLemmas.{given_error}
use Rattle.luks_payload.proofs.ForwardingLemmas.{unit_filled, unit_is, write_aborted_forwarded}
use Rattle.luks_payload.proofs.forwarding.forward_sector.Goals as goal

pub returns-in_err-answer-clause-forwards : goal.returns-in_err-answer-clause-forwards
returns-in_err-answer-clause-forwards g c =
    let none : length c.args.prefix.now ≡ 0 = search rules in
    let forwarded = rw c.in_err-answer.was at c.in-Some.ensures.forwards in
    rw (given_error _ _ c.from_residual.ensures.1) (record {
      known = λ known is.
          write_aborted_forwarded c.args.cipher.now c.args.number (length c.args.sector.now) known _ _ _ _
          c.args.prefix.now c.in_err-answer.field-0.0.written none forwarded.0 forwarded.1 is;
      unread = λ is. absurd cc;
      only = inr refl;
    })

pub returns-in_err-put_all-clause-forwards : goal.returns-in_err-put_all-clause-forwards
returns-in_err-put_all-clause-forwards g c =
    let source : c.if-is_empty.source ≡ c.args.source.now = search rules in
    let sink : c.if-is_empty.sink ≡ c.args.sink.now = search rules in
    let filled = rw source at c.in_ok-got.ensures.filled_sector in
    let failed = rw sink at c.in_err-put_all.ensures.err.1 in
    let sized = c.fill_sector.auto.sector in
    let full : c.in_ok-got.got ≡ length c.args.sector.now = omega (arith, c.in_ok-got.ensures.most, sized) in
    let few : c.in_err-put_all.field-0.0.written < length c.args.sector.now =
    omega (arith, c.in_err-put_all.ensures.err.0, c.decrypt_unit.auto.unit, sized) in
    rw (given_error _ _ c.from_residual-in_err-put_all.ensures.1) (record {
      known = λ known is.
          let next = filled known is in
          let unit = unit_filled c.args.cipher.now c.args.number (length c.args.sector.now) c.in_ok-got.got
          (c.args.prefix.now ++ known) c.fill_sector.new.sector c.decrypt_unit.new.unit sized full next.bytes
          c.decrypt_unit.ensures.value in (
            rw full at next.consumption,
            (c.in_err-put_all.field-0.0.written, few, rw (← unit) failed),
          );
      unread = λ is. absurd cc;
      only = inr refl;
    })

pub returns-clause-forwards : goal.returns-clause-forwards
returns-clause-forwards g c =
    let source : c.if-is_empty.source ≡ c.args.source.now = search rules in
    let sink : c.if-is_empty.sink ≡ c.args.sink.now = search rules in
    let filled = rw source at c.in_ok-got.ensures.filled_sector in
    let written = rw sink at c.in_ok-put_all.ensures.ok in
    let sized = c.fill_sector.auto.sector in
    record {
      most = c.in_ok-got.ensures.most;
      consumed = λ known is.
          let next = filled known is in (next.all, next.consumption);
      written = λ whole known is.
          let next = filled known is in
          let unit = unit_filled c.args.cipher.now c.args.number (length c.args.sector.now) c.in_ok-got.got
          (c.args.prefix.now ++ known) c.fill_sector.new.sector c.decrypt_unit.new.unit sized whole next.bytes
          c.decrypt_unit.ensures.value in
          rw (whole, ← unit) written;
      whole = λ whole.
          let unit = unit_is c.args.cipher.now c.args.number c.fill_sector.new.sector c.decrypt_unit.new.unit
          c.decrypt_unit.ensures.value in
          (c.fill_sector.new.sector, sized, c.in_ok-got.ensures.begins, rw (← unit) written);
      torn = λ few. absurd (omega (arith, sized));
    }
