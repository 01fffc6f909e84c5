use Rattle.std.proofs.Common.{◌≡◌, ◌+◌, ◌-◌, ◌*◌, ◌/◌, ℕ, length, take, drop, ap, arith, ◌∙◌, refl, rules}
use Rattle.luks_cipher.specs.Xts.{tweak_after}
use Rattle.luks_cipher.proofs.UnitLemmas.{done_none, done_all, progress_batch, tweak_more}
use Rattle.luks_cipher.proofs.xts.decrypt_batches.Goals as goal

pub batches-init : goal.batches-init
unfolding tweak_after
batches-init c = record {
  few = omega arith;
  whole = omega arith;
  next = refl;
  progress = λ key is. record { bytes = record { each = search rules }; next = refl; done = done_none _ _ _ };
}

pub batches-preserved : goal.batches-preserved
batches-preserved c =
    let first = c.args.first_tweak in
    let done = c.batches.done in
    let count = c.batch_size-count.result in
    let before = c.batches.invariant in
    let size : length (take (16 * done + 16 * count - 16 * done) (drop (16 * done) c.batches.batches)) / 16 ≡ count =
    omega arith in
    let more = λ (n : ℕ). ap (λ t. tweak_after t n) before.next ∙ tweak_more first done n in
    record {
      few = omega arith;
      whole = omega arith;
      next = c.decrypt_batch-next.ensures.next ∙ ap (tweak_after c.batches.tweak) size ∙ more count;
      progress = λ key is.
          progress_batch _ _ (tweak_after c.batches.tweak) _ _ c.decrypt_batch-next.new.batch _ _ done count _
          (before.progress key is) (omega arith) (omega arith) (omega arith)
          (c.decrypt_batch-next.ensures.value key is) c.decrypt_batch-next.ensures.next (λ n few. more n);
    }

pub returns : goal.returns
returns c =
    let done = c.batches.done in
    let unit = c.args.batches.now in
    let all : done ≡ length unit / 16 = omega arith in
    record {
      value = λ key is.
          done_all _ _ unit c.batches.batches done (length unit / 16) (c.batches.invariant.progress key is).done
          (omega arith) all;
      next = c.batches.invariant.next ∙ ap (tweak_after c.args.first_tweak) all;
    }
