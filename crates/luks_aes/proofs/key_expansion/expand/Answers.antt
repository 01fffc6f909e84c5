use Rattle.std.proofs.Common.{◌≡◌, ◌+◌, ◌-◌, ◌*◌, ◌/◌, length, take, drop, refl, arith, ◌∙◌}
use Rattle.std.proofs.lemmas.List.{take_at}
use Rattle.luks_aes.specs.Aes.{words_after, key_expansion}
use Rattle.luks_aes.proofs.ScheduleLemmas.{key_length, words_more}
use Rattle.luks_aes.proofs.key_expansion.expand.Goals as goal

pub loop-i-init : goal.loop-i-init
unfolding words_after
loop-i-init c =
    let key = c.args.key.now in
    let nk = length key / 4 in
    let none : nk - nk ≡ 0 = omega arith in
    let whole = (key_length (length key) c.requires.key_length).whole in
    let copied = c.copy_from_slice.ensures.after in
    rw (none, whole, copied) (take_at key (drop (length key) c.args.schedule.now) (length key) refl)

pub loop-i-preserved : goal.loop-i-preserved
loop-i-preserved c =
    let key = c.args.key.now in
    let i = c.loop-i.i in
    let more : 4 * (i + 1) ≡ 4 * i + 4 = omega arith in
    rw more (c.write_word.ensures
    ∙ words_more (length key / 4) key (take (4 * i) c.loop-i.schedule) i c.loop-i.auto.i c.loop-i.invariant)

pub returns : goal.returns
unfolding key_expansion
returns c =
    let nk = length c.args.key.now / 4 in
    let i = c.loop-i.i in
    let most = (key_length (length c.args.key.now) c.requires.key_length).most in
    let last : i ≡ 4 * (nk + 7) = omega arith in
    let bytes : 16 * (nk + 6 + 1) ≡ 4 * i = omega arith in
    let words : 4 * (nk + 6 + 1) - nk ≡ i - nk = omega arith in
    rw (bytes, words) c.loop-i.invariant
