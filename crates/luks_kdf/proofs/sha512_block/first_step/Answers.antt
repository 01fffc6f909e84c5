use Rattle.std.proofs.Common.{◌≡◌, ◌+◌, ◌*◌, ◌∙◌, ap, arith, sym}
use Rattle.sha2.specs.Sha512.{rounds, schedule}
use Rattle.sha2.proofs.Schedule512.{slice_index-schedule_first}
use Rattle.luks_kdf.proofs.PairLemmas.{pair_word}
use Rattle.luks_kdf.proofs.sha512_block.first_step.Goals as goal

pub returns : goal.returns
returns c = λ b h block so_far.
    let i = c.args.index in
    let end : 2 * i + 2 ≡ 2 * (i + 1) = omega arith in
    c.two_rounds.ensures h (schedule b 64) so_far (λ j below.
    sym (pair_word c.args.w.now i c.requires j below) ∙ (block (2 * i + j) (omega arith)
    ∙ sym (slice_index-schedule_first b 64 (2 * i + j) (omega arith)))) ∙ ap (rounds h (schedule b 64)) end
