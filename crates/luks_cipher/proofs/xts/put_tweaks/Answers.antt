use Rattle.std.proofs.Common.{◌≡◌, ◌/◌, length, ap, arith, ◌∙◌, add-one, refl}
use Rattle.std.proofs.lemmas.Simd.{put_chunk_whole, length-put_chunk}
use Rattle.luks_cipher.specs.Xts.{doubled, tweak_after, block_at}
use Rattle.luks_cipher.proofs.UnitLemmas.{done_none, done_more, done_all, tweak_len, doubled_len}
use Rattle.luks_cipher.proofs.UnitsUndone.{joined_at}
use Rattle.luks_cipher.proofs.xts.put_tweaks.Goals as goal

pub loop-n-init : goal.loop-n-init
unfolding tweak_after
loop-n-init c = record { size = c.fits-tweak.0; next_tweak = refl; done = done_none _ _ _ }

pub loop-n-preserved : goal.loop-n-preserved
unfolding tweak_after
loop-n-preserved c =
    let n = c.loop-n.n in
    let before = c.loop-n.invariant in
    record {
      size = ap length c.doubled-next.ensures ∙ doubled_len c.loop-n.last;
      next_tweak = rw add-one (c.doubled-next.ensures ∙ ap doubled before.next_tweak);
      done = done_more 16 _ _ _ _ _ _ n _ refl refl (omega arith) before.done (omega arith)
          (length-put_chunk 0 _ c.loop-n.last ∙ (omega arith))
          (put_chunk_whole _ c.loop-n.last (omega arith) ∙ before.next_tweak);
    }

pub returns : goal.returns
returns c =
    let count = length c.args.tweaks.now / 16 in
    let last : c.loop-n.n ≡ count = omega arith in
    let all = done_all _ _ c.args.tweaks.now c.loop-n.tweaks c.loop-n.n count c.loop-n.invariant.done (omega arith)
    last in
    record {
      value = λ n low. ap (λ x. block_at x n) all
          ∙ joined_at (tweak_after c.args.tweak) count n (λ j below. tweak_len c.args.tweak j c.fits-tweak.0) low;
      next = c.loop-n.invariant.next_tweak ∙ ap (tweak_after c.args.tweak) last;
    }
