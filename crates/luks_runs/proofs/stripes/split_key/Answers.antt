use Rattle.std.proofs.Common.{◌≡◌, ◌-◌, ◌∙◌, length, length-take-le, arith, rules, zero-mul}
use Rattle.std.proofs.Math.Nat.{mul-le-mul_right}
use Rattle.luks_io.proofs.ErrorLemmas.{given_error}
use Rattle.luks_io.proofs.EffectLemmas.{appended-none, consumed-none, no_reads, no_writes}
use Rattle.luks_kdf.proofs.StripesLemmas.{splitter_more, splitter_start}
use Rattle.luks_runs.proofs.StripeLemmas.{forwarded_one_more, runs_to_end, runs_without_last, runs_without_read}
use Rattle.luks_runs.proofs.StripeLemmas.{runs_without_stripe, runs_without_write, stripe_is}
use Rattle.luks_runs.proofs.stripes.split_key.Goals as goal

pub stripes-init : goal.stripes-init
stripes-init g c = record {
  reads = no_reads _;
  writes = no_writes _;
  block = length-take-le _ _ (omega arith);
  len = c.new-splitter.ensures.len;
  forwarded = λ bytes is. (
    splitter_start _ _ bytes _ c.new-splitter.ensures.start,
    rw zero-mul (record { consumption = consumed-none bytes _ is; appended = appended-none _ }),
  );
}

pub returns-in_err-fill-clause-run : goal.returns-in_err-fill-clause-run
returns-in_err-fill-clause-run g c =
    let long = c.fill.auto.buf ∙ c.stripes.invariant.block in
    rw (given_error _ _ c.from_residual.ensures.1) (λ left consumption bytes known.
    runs_without_read _ _ _ bytes c.requires.0 c.requires.1 left _ consumption _
    (mul-le-mul_right _ (omega arith)) _ _ _ _ _ (c.stripes.invariant.forwarded bytes known).1
    c.in_err-fill.ensures.bytes (omega (arith, long, c.in_err-fill.ensures.bound)))

pub returns-then-branch-key-clause-run : goal.returns-then-branch-key-clause-run
returns-then-branch-key-clause-run g c left consumption bytes known =
    let long = c.fill.auto.buf ∙ c.stripes.invariant.block in
    runs_without_stripe _ _ _ bytes c.requires.0 c.requires.1 left _ consumption _
    (mul-le-mul_right _ (omega arith)) _ _ _ _ _ (c.stripes.invariant.forwarded bytes known).1
    c.in_ok-fill.ensures.bytes (omega arith) (rw long at c.in_ok-fill.ensures.end)

pub returns-in_err-put_all-clause-run : goal.returns-in_err-put_all-clause-run
returns-in_err-put_all-clause-run g c =
    let long = c.fill.auto.buf ∙ c.stripes.invariant.block in
    let failed = c.in_err-put_all.ensures.err in
    rw (given_error _ _ c.from_residual-in_err-put_all.ensures.1) (λ left consumption bytes known.
    runs_without_write _ _ _ bytes c.requires.0 c.requires.1 left _ consumption _
    (mul-le-mul_right _ (omega arith)) _ _ _ _ _ (c.stripes.invariant.forwarded bytes known).1
    c.in_ok-fill.ensures.bytes (omega (arith, long, c.in_ok-fill.ensures.bound)) _ _ (omega (arith, long, failed.0))
    failed.1)

pub stripes-preserved : goal.stripes-preserved
stripes-preserved g c =
    let long = c.fill.auto.buf ∙ c.stripes.invariant.block in
    let next = c.in_ok-fill.ensures.bytes in
    let whole : c.in_ok-fill.field-0 ≡ length c.args.key.now = omega (arith, long, c.in_ok-fill.ensures.bound) in
    record {
      reads = search rules;
      writes = search rules;
      block = long;
      len = c.stripe.ensures.len ∙ c.stripes.invariant.len;
      forwarded = λ bytes is.
          let before = c.stripes.invariant.forwarded bytes is in
          let stripe = stripe_is bytes _ _ _ _ _ _ before.1.consumption next whole long in (
            c.stripe.ensures.next ∙ splitter_more _ _ bytes _ _ c.fill.new.buf before.0 stripe,
            forwarded_one_more bytes _ _ _ _ _ _ before.1.consumption next whole long _ _ _ before.1.appended
                c.in_ok-put_all.ensures.ok,
          );
    }

pub returns-in_err-put_all-2-clause-run : goal.returns-in_err-put_all-2-clause-run
returns-in_err-put_all-2-clause-run g c =
    let all : c.stripes.counter ≡ c.args.split_args.now.stripes.count - 1 = omega arith in
    let failed = c.in_err-put_all-2.ensures.err in
    rw (given_error _ _ c.from_residual-in_err-put_all-2.ensures.1) (λ left consumption bytes known.
    let forwarded = rw all at (c.stripes.invariant.forwarded bytes known) in
    runs_without_last _ _ _ bytes c.requires.0 c.requires.1 left _ consumption _ _ _ forwarded.0 forwarded.1
    c.last.new.out c.last.ensures _ _ failed.0 (c.last.auto.out ∙ c.stripes.invariant.block) failed.1)

pub returns-clause-run : goal.returns-clause-run
returns-clause-run g c left consumption bytes known =
    let all : c.stripes.counter ≡ c.args.split_args.now.stripes.count - 1 = omega arith in
    let forwarded = rw all at (c.stripes.invariant.forwarded bytes known) in
    runs_to_end _ _ _ bytes c.requires.0 c.requires.1 left _ consumption _ _ _ forwarded.0 forwarded.1 c.last.new.out
    c.last.ensures _ c.in_ok-put_all-2.ensures.ok
