use Rattle.std.proofs.Common.{◌-◌, ◌<◌, length, refl, arith}
use Rattle.std.proofs.lemmas.Result.{err_from_is_err_and}
use Rattle.luks_payload.proofs.ForwardingLemmas.{begins, filled_sector, is_filled}
use Rattle.luks_payload.proofs.forwarding.fill_sector.Goals as goal

pub returns-in_err-got-clause-err : goal.returns-in_err-got-clause-err
returns-in_err-got-clause-err g c =
    let p = err_from_is_err_and c.from_residual.result c.from_residual.ensures.1 in
    let prefix = c.args.prefix.now in
    let old = c.args.sector.now in
    let filled = is_filled c.min-loaded.result (length old) prefix c.copy_from_slice.new.self old c.fill.new.buf
    c.min-loaded.ensures refl c.copy_from_slice.ensures.after c.fill.auto.buf in
    let few : c.in_err-got.field-0.0.got < length old - length prefix =
    omega (arith, c.in_err-got.ensures.bound, filled.1) in
    rw p.1 (λ known is. (c.in_err-got.field-0.0.got, few, (c.in_err-got.ensures.bytes known is).0))

pub returns-clause-filled_sector : goal.returns-clause-filled_sector
returns-clause-filled_sector g c known is =
    let prefix = c.args.prefix.now in
    let old = c.args.sector.now in
    let filled = is_filled c.min-loaded.result (length old) prefix c.copy_from_slice.new.self old c.fill.new.buf
    c.min-loaded.ensures refl c.copy_from_slice.ensures.after c.fill.auto.buf in
    let next = c.in_ok-got.ensures.bytes known is in
    filled_sector (length old) prefix c.fill.new.buf _ filled.0 filled.1 known _ c.in_ok-got.got
    (c.in_ok-got.ensures.end known is) next.1 next.0 c.min-loaded.result c.min-loaded.ensures

pub returns-clause-begins : goal.returns-clause-begins
returns-clause-begins g c =
    let prefix = c.args.prefix.now in
    let old = c.args.sector.now in
    let filled = is_filled c.min-loaded.result (length old) prefix c.copy_from_slice.new.self old c.fill.new.buf
    c.min-loaded.ensures refl c.copy_from_slice.ensures.after c.fill.auto.buf in
    begins (length old) prefix c.fill.new.buf _ filled.0 filled.1
