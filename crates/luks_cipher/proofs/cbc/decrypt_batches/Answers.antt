use Rattle.std.proofs.Common.{◌≡◌, ◌+◌, ◌-◌, ◌*◌, ◌/◌, ◌≤◌, ℕ, length, take, drop, ap, arith, ◌∙◌, refl, rules}
use Rattle.luks_cipher.specs.Cbc.{block_before, cbc_decrypted}
use Rattle.luks_cipher.proofs.UnitLemmas.{batch_block, before_same, done_all, done_none, left_more, progress_batch}
use Rattle.luks_cipher.proofs.cbc.decrypt_batches.Goals as goal

pub batches-init : goal.batches-init
unfolding block_before
batches-init c = record {
  few = omega arith;
  whole = omega arith;
  left = refl;
  next = refl;
  progress = λ key is. record { bytes = record { each = search rules }; next = refl; done = done_none _ _ _ };
}

pub batches-preserved : goal.batches-preserved
unfolding cbc_decrypted
batches-preserved c =
    let done = c.batches.done in
    let count = c.batch_size-count.result in
    let unit = c.args.unit.now in
    let before = c.batches.invariant in
    let size : length (take (16 * done + 16 * count - 16 * done) (drop (16 * done) c.batches.unit)) / 16 ≡ count =
    omega arith in
    let same = batch_block unit c.batches.unit done count before.left in
    let more = λ (n : ℕ) (few : n ≤ count).
    before_same c.args.iv c.batches.before unit _ done count n before.next same few in
    record {
      few = omega arith;
      whole = omega arith;
      left = left_more 16 unit c.batches.unit c.decrypt_batch-next.new.batch _ _ done count refl (omega arith)
          before.left (omega arith) (omega arith);
      next = c.decrypt_batch-next.ensures.next ∙ ap (block_before c.batches.before _) size ∙ more count (omega arith);
      progress = λ key is.
          progress_batch _ _ (block_before c.batches.before _) _ _ c.decrypt_batch-next.new.batch _ _ done count _
          (before.progress key is) (omega arith) (omega arith) (omega arith)
          (c.decrypt_batch-next.ensures.value key is) c.decrypt_batch-next.ensures.next more;
    }

pub returns : goal.returns
unfolding cbc_decrypted
returns c =
    let done = c.batches.done in
    let unit = c.args.unit.now in
    let all : done ≡ length unit / 16 = omega arith in
    record {
      value = λ key is.
          done_all _ _ unit c.batches.unit done (length unit / 16) (c.batches.invariant.progress key is).done
          (omega arith) all;
      next = c.batches.invariant.next ∙ ap (block_before c.args.iv unit) all;
    }
