use Rattle.std.proofs.Common.{◌≡◌, ◌+◌, ◌*◌, arith}
use Rattle.sha2.specs.Sha512.{schedule}
use Rattle.sha2.proofs.Schedule512.{IsRoundsAt_at}
use Rattle.luks_kdf.proofs.PairLemmas.{next_pair_at}
use Rattle.luks_kdf.proofs.sha512_block.step.Goals as goal

pub returns : goal.returns
returns c = λ b h held.
    let t = 16 * c.args.group + 2 * c.args.index in
    let next = c.next_pair-next.ensures in
    let pair = next_pair_at b c.args.w.now c.next_pair-next.result c.args.group c.args.index (omega arith)
    c.requires.low c.requires.high c.requires.index held.0 next.words in
    let two : t + 1 + 1 ≡ t + 2 = omega arith in
    IsRoundsAt_at b h _ _ (t + 2) _ (omega arith)
    (rw next.window (rw two at pair.window), c.two_rounds.ensures h (schedule b 64) held.1 pair.scheduled)
