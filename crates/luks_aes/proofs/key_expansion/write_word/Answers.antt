use Rattle.std.proofs.Common.{◌≡◌, ◌+◌, ◌-◌, ◌*◌, ◌/◌, length, take, drop, ap, arith, ◌∙◌, ◌++◌, length-take}
use Rattle.std.proofs.Common.{length-drop}
use Rattle.std.proofs.lemmas.List.{length-take-le}
use Rattle.std.proofs.lemmas.Slice.{take-put_mid}
use Rattle.luks_aes.specs.Aes.{with_next_word}
use Rattle.luks_aes.proofs.key_expansion.write_word.Goals as goal

pub returns : goal.returns
unfolding with_next_word
returns c =
    let at = 4 * c.args.i in
    let old = c.args.schedule.now in
    let word = c.copy_from_slice.new.self in
    let four : length word
    ≡ 4 = omega (
      arith,
      c.copy_from_slice.ensures.len,
      length-take (at + 4 - at) (drop at old),
      length-drop at old,
    ) in
    let index : length (take at old) / 4 ≡ c.args.i = rw (length-take-le at old (omega arith)) (omega arith) in
    take-put_mid at (at + 4 - at) old word (at + 4) (omega arith) (omega arith)
    ∙ rw index (ap (λ w. take at old ++ w) (c.copy_from_slice.ensures.after ∙ c.next_word-word.ensures))
