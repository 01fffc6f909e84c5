use Rattle.std.proofs.Common.{◌∙◌, length, sym}
use Rattle.std.proofs.lemmas.List.Elements.{recursion_from_All}
use Rattle.luks_open.proofs.CallerLemmas.{All-IsTriable, All-volume_key, opened_key_length}
use Rattle.luks_open.proofs.opening.open_by.Goals as goal

pub first_opening-requires-clause-triable : goal.first_opening-requires-clause-triable
first_opening-requires-clause-triable g c =
    let order = c.requires.order in
    let segment = c.requires.segment in
    rw (c.entries.ensures, c.as_slice.ensures.value)
    (All-IsTriable c.args.header.now order.0 order.1 c.args.order.now order.2 segment.0 segment.1
    (length c.args.area.now.bytes) c.requires.loaded)

pub returns-in-Some-clause-key_length : goal.returns-in-Some-clause-key_length
returns-in-Some-clause-key_length g c = λ segment is_segment.
    let order = c.requires.order in
    opened_key_length segment.mode c.args.order.now.entries c.args.area.now.bytes c.args.pass.now c.in-Some.opened
    (recursion_from_All _ c.args.order.now.entries (All-IsTriable c.args.header.now order.0 order.1
    c.args.order.now order.2 segment is_segment (length c.args.area.now.bytes) c.requires.loaded))
    (recursion_from_All _ c.args.order.now.entries (All-volume_key c.args.header.now order.0 order.1
    c.args.order.now order.2 segment is_segment))
    (rw (c.entries.ensures, c.as_slice.ensures.value) at (sym c.in_ok-opened.ensures.value ∙ c.in-Some.is))
