use Rattle.std.proofs.Common.{◌%◌, ◌*◌, ◌∙◌, ap, slice_index}
use Rattle.std.proofs.lemmas.List.{map-set}
use Rattle.sha1.specs.Sha1.{round_fn}
use Rattle.sha1.proofs.Schedule.{rounds_window}
use Rattle.luks_kdf.specs.LaneWords.{lane, word}
use Rattle.luks_kdf.proofs.LaneLemmas.{of_three, round_constant_of_kind, round_fn_of_kind}
use Rattle.luks_kdf.proofs.sha1_block.step.Goals as goal

pub returns : goal.returns
returns g c = λ j b h in_lane held.
    let t = c.args.t in
    let v = lane j c.args.v in
    let next = c.next_word-next in
    rounds_window b h (lane j c.args.w.now) v t _ _ _ _ _ c.requires.low c.requires.high held.0 held.1
    (next.ensures.value j in_lane)
    (ap (lane j) next.ensures.window ∙ map-set (word j) c.args.w.now (t % 16) next.result)
    (of_three (round_fn (20 * g.row.KIND)) j c.args.v _ (c.round_function-f.ensures j in_lane)
    ∙ round_fn_of_kind t g.row.KIND (slice_index v 1) (slice_index v 2) (slice_index v 3) c.requires.kind)
    (c.round_constant.ensures ∙ round_constant_of_kind t g.row.KIND c.requires.kind)
    (c.round.ensures j in_lane)
