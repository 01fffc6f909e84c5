use Rattle.std.proofs.Common.{◌≡◌, ◌-◌, ◌<◌, ◌∙◌, ap, sym, length, vec_len, arith}
use Rattle.std.proofs.lemmas.Grind.{common_steps}
use Rattle.luks_format.proofs.AreaLemmas.{length-capacity, none_left, start_filled}
use Rattle.luks_format.proofs.area.extend.Goals as goal

pub returns-in-Ok-clause-start : goal.returns-in-Ok-clause-start
returns-in-Ok-clause-start g c image start =
    let n = c.args.end - vec_len c.args.bytes.now in
    let is-whole = c.deref_mut.ensures.value ∙ c.in_ok-append_zeros.ensures.ok in
    let is-loaded = c.len-loaded.ensures ∙ c.args.bytes.now.ok.0 in
    let is-len = c.append_zeros.new.bytes.ok.0 ∙ ap length (sym c.deref_mut.ensures.value) in
    start_filled c.args.bytes.now.items c.deref_mut.result.now c.fill.new.buf c.len-loaded.result n is-whole is-loaded
    c.fill.auto.buf _ _ c.truncate.new.self.items c.append_zeros.new.bytes.len c.in-Ok.count is-len
    c.in-Ok.ensures.bound c.truncate.ensures.items start.rest _ (c.in-Ok.ensures.bytes start.rest start.behind) image
    start.is

pub returns-in-Err-clause-start : goal.returns-in-Err-clause-start
returns-in-Err-clause-start g c image start =
    let n = c.args.end - vec_len c.args.bytes.now in
    let is-whole = c.deref_mut.ensures.value ∙ c.in_ok-append_zeros.ensures.ok in
    let is-loaded = c.len-loaded.ensures ∙ c.args.bytes.now.ok.0 in
    let is-len = c.append_zeros.new.bytes.ok.0 ∙ ap length (sym c.deref_mut.ensures.value) in
    let stops = c.in-Err.ensures.bound in
    start_filled c.args.bytes.now.items c.deref_mut.result.now c.fill.new.buf c.len-loaded.result n is-whole is-loaded
    c.fill.auto.buf _ _ c.truncate-in-Err.new.self.items c.append_zeros.new.bytes.len c.in-Err.field-0.got is-len
    (omega (arith, stops)) c.truncate-in-Err.ensures.items start.rest _
    (c.in-Err.ensures.bytes start.rest start.behind) image start.is

pub returns-in-Ok-clause-whole : goal.returns-in-Ok-clause-whole
returns-in-Ok-clause-whole g c hits known knows =
    let n = c.args.end - vec_len c.args.bytes.now in
    let is-whole = c.deref_mut.ensures.value ∙ c.in_ok-append_zeros.ensures.ok in
    let is-loaded = c.len-loaded.ensures ∙ c.args.bytes.now.ok.0 in
    let capacity : length c.fill.new.buf ≡ n = grind (arith, common_steps, length-capacity) in
    let few : c.in-Ok.count < length c.fill.new.buf = grind (arith, hits, capacity, common_steps) in
    none_left known c.fill.new.buf _ c.in-Ok.count (c.in-Ok.ensures.bytes known knows) (c.in-Ok.ensures.end known knows)
    few
