use Rattle.std.proofs.Common.{◌≡◌, ◌+◌, ◌-◌, ◌*◌, drop, arith, ap, ◌∙◌, get_or-drop}
use Rattle.std.specs.Prelude.{slice_index}
use Rattle.std.proofs.lemmas.List.{get_or-take}
use Rattle.luks_aes.proofs.aes.round_key.Goals as goal

pub returns : goal.returns
returns c = λ r k low small.
    let s = c.args.schedule.now in
    let n = c.args.n in
    let i = r + 4 * k in
    let index : 16 * n + i ≡ r + 4 * (4 * n + k) = omega arith in
    ap (λ l. slice_index l i) c.copy_from_slice.ensures.after
    ∙ get_or-take (16 * n + 16 - 16 * n) (drop (16 * n) s) i 0 (omega arith)
    ∙ get_or-drop (16 * n) s i 0
    ∙ ap (slice_index s) index
