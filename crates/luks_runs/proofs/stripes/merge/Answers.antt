use Rattle.std.proofs.Common.{◌≡◌, ◌+◌, ◌∙◌, length-take-le, refl, arith, rules, zero-mul}
use Rattle.std.proofs.Math.Nat.{mul-le-mul_right}
use Rattle.luks_io.proofs.EffectLemmas.{consumed-none, no_reads}
use Rattle.luks_io.proofs.ErrorLemmas.{given_error}
use Rattle.luks_kdf.proofs.StripesLemmas.{splitter_more, splitter_start}
use Rattle.luks_report.specs.declared.message.Message.TheVariants.{Done, WriteFailed}
use Rattle.luks_runs.proofs.StripeLemmas.{merges_without_read, merges_without_stripe, runs_with_key}
use Rattle.luks_runs.proofs.StripeLemmas.{stripe_consumed, stripe_is}
use Rattle.luks_runs.proofs.stripes.merge.Goals as goal

pub stripes-init : goal.stripes-init
stripes-init g c =
    let size = c.get-len.ensures in
    record {
      reads = no_reads _;
      stripe = length-take-le _ _ (omega arith) ∙ size;
      len = c.new-splitter.ensures.len ∙ size;
      consumed = λ bytes is. (
        splitter_start _ _ bytes _ (rw size at c.new-splitter.ensures.start),
        rw zero-mul (consumed-none bytes _ is),
      );
    }

pub returns-in_err-fill-clause-run : goal.returns-in_err-fill-clause-run
returns-in_err-fill-clause-run g c =
    let long = c.fill.auto.buf ∙ c.stripes.invariant.stripe in
    rw (given_error _ _ c.from_residual.ensures.1) (λ bytes is.
    merges_without_read _ _ _ bytes _ (mul-le-mul_right _ (omega arith)) _ _ _ _ _
    (c.stripes.invariant.consumed bytes is).1 c.in_err-fill.ensures.bytes
    (omega (arith, long, c.in_err-fill.ensures.bound)))

pub returns-then-branch-len-clause-run : goal.returns-then-branch-len-clause-run
returns-then-branch-len-clause-run g c bytes is =
    let long = c.fill.auto.buf ∙ c.stripes.invariant.stripe in
    merges_without_stripe _ _ _ bytes _ (mul-le-mul_right _ (omega arith)) _ _ _ _ _
    (c.stripes.invariant.consumed bytes is).1 c.in_ok-fill.ensures.bytes
    (omega (arith, c.get-len.ensures)) (rw long at c.in_ok-fill.ensures.end)

pub stripes-preserved : goal.stripes-preserved
stripes-preserved g c =
    let long = c.fill.auto.buf ∙ c.stripes.invariant.stripe in
    let next = c.in_ok-fill.ensures.bytes in
    let whole : c.in_ok-fill.field-0 ≡ c.args.merge_args.now.key_bytes.bytes =
    omega (arith, long, c.in_ok-fill.ensures.bound, c.get-len.ensures) in
    record {
      reads = search rules;
      stripe = long;
      len = c.stripe.ensures.len ∙ c.stripes.invariant.len;
      consumed = λ bytes is.
          let before = c.stripes.invariant.consumed bytes is in
          let stripe = stripe_is bytes _ _ _ _ _ _ before.1 next whole long in (
            c.stripe.ensures.next ∙ splitter_more _ _ bytes _ _ c.fill.new.buf before.0 stripe,
            stripe_consumed bytes _ _ _ _ _ _ before.1 next whole,
          );
    }

pub returns-in_err-fill-2-clause-run : goal.returns-in_err-fill-2-clause-run
returns-in_err-fill-2-clause-run g c =
    let long = c.fill-2.auto.buf ∙ c.stripes.invariant.stripe in
    rw (given_error _ _ c.from_residual-in_err-fill-2.ensures.1) (λ bytes is.
    merges_without_read _ _ _ bytes _ (mul-le-mul_right _ (omega arith)) _ _ _ _ _
    (c.stripes.invariant.consumed bytes is).1 c.in_err-fill-2.ensures.bytes
    (omega (arith, long, c.in_err-fill-2.ensures.bound)))

pub returns-then-branch-len-2-clause-run : goal.returns-then-branch-len-2-clause-run
returns-then-branch-len-2-clause-run g c bytes is =
    let long = c.fill-2.auto.buf ∙ c.stripes.invariant.stripe in
    merges_without_stripe _ _ _ bytes _ (mul-le-mul_right _ (omega arith)) _ _ _ _ _
    (c.stripes.invariant.consumed bytes is).1 c.in_ok-fill-2.ensures.bytes
    (omega (arith, c.get-len.ensures)) (rw long at c.in_ok-fill-2.ensures.end)

pub returns-in_err-put_all-clause-run : goal.returns-in_err-put_all-clause-run
returns-in_err-put_all-clause-run g c =
    let m = c.args.merge_args.now in
    let long = c.fill-2.auto.buf ∙ c.stripes.invariant.stripe in
    let all : c.stripes.counter + 1 ≡ m.stripes.count = omega (arith, m.stripes.in_range) in
    let failed = c.in_err-put_all.ensures.err in
    rw (given_error _ _ c.from_residual-in_err-put_all.ensures.1) (λ bytes is.
    let before = c.stripes.invariant.consumed bytes is in
    runs_with_key _ _ _ bytes m.key_bytes.in_range.0 _ all _ _ _ _ _ _ before.1 c.in_ok-fill-2.ensures.bytes
    (omega (arith, long, c.in_ok-fill-2.ensures.bound, c.get-len.ensures)) long _ _ before.0 c.last.ensures WriteFailed
    (c.in_err-put_all.field-0.0.written, failed.0, failed.1))

pub returns-clause-run : goal.returns-clause-run
returns-clause-run g c bytes is =
    let m = c.args.merge_args.now in
    let long = c.fill-2.auto.buf ∙ c.stripes.invariant.stripe in
    let all : c.stripes.counter + 1 ≡ m.stripes.count = omega (arith, m.stripes.in_range) in
    let before = c.stripes.invariant.consumed bytes is in
    runs_with_key _ _ _ bytes m.key_bytes.in_range.0 _ all _ _ _ _ _ _ before.1 c.in_ok-fill-2.ensures.bytes
    (omega (arith, long, c.in_ok-fill-2.ensures.bound, c.get-len.ensures)) long _ _ before.0 c.last.ensures Done
    (refl, c.in_ok-put_all.ensures.ok)
