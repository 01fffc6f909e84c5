use Rattle.std.proofs.Common.{◌<◌, Err, Ok, Some, ap, arith, drop, length, refl, ◌+◌}
use Rattle.luks_io.proofs.ErrorLemmas.{given_error}
use Rattle.luks_open.specs.declared.fault.PassphraseFault.TheVariants.{TooLong}
use Rattle.luks_open.specs.declared.fault.VolumeFault.TheVariants.{Passphrase}
use Rattle.luks_access.proofs.OpeningLemmas.{ends_opening}
use Rattle.luks_open.proofs.CostLemmas.{costs_found, costs_of_trials, costs_unfound, costs_unread}
use Rattle.luks_open.proofs.OpeningLemmas.{is_volume, loaded_as, opens_as, opens_unfound, opens_unread}
use Rattle.luks_open.proofs.VolumeLemmas.{reads_on}
use Rattle.luks_open.specs.KeyFile.{max_key_file_len}
use Rattle.luks_open.specs.Location.{reader_for}
use Rattle.luks_open.specs.Volume.{described, volume_by}
use Rattle.luks_open.proofs.DerivingLemmas.{All-CanDerive}
use Rattle.luks_open.proofs.StopLemmas.{needs_limits}
use Rattle.luks_access.specs.Opens.{allowed_by}
use Rattle.luks_access.proofs.volume.Volume.open_counted.Goals as goal

-- the key of each key slot can be derived
pub try_slots-requires-clause-derives : goal.try_slots-requires-clause-derives
try_slots-requires-clause-derives g c =
    let slots = rw c.allowed_by.ensures at c.in_ok-found.ensures.found.slots in
    let allowed = allowed_by c.args.options.now in
    All-CanDerive c.in_ok-found.found.header allowed.named allowed.limits c.in_ok-found.found.order slots.order
    c.in_ok-found.found.segment slots.segment c.args.pass.now (omega arith)

-- no volume was found
pub returns-in_err-found-clause-answers : goal.returns-in_err-found-clause-answers
returns-in_err-found-clause-answers g c =
    rw (given_error _ _ c.from_residual.ensures.1) (λ known is.
    ends_opening c.args.options.now known c.args.pass.now (Err c.in_err-found.field-0.0) _
    (opens_unfound _ _ known c.args.pass.now _ _ (rw c.allowed_by.ensures at (c.in_err-found.ensures.err known is)))
    (λ passphrase same. absurd (c.in_err-found.ensures.only passphrase (ap Err same)))
    (λ slot kib same. absurd ((c.in_err-found.ensures.err known is).no_argon2 slot kib same)))

-- the passphrase is too long
pub returns-then-pass-gt-MAX_PASSPHRASE_LEN-clause-answers : goal.returns-then-pass-gt-MAX_PASSPHRASE_LEN-clause-answers
returns-then-pass-gt-MAX_PASSPHRASE_LEN-clause-answers g c known is =
    let found = rw c.allowed_by.ensures at (c.in_ok-found.ensures.found.found known is) in
    let long : max_key_file_len < length c.args.pass.now = omega arith in
    let unread = opens_unread _ _ known c.args.pass.now _ _ found _ TooLong (
      long,
      record {
        within = omega (arith, long);
        left = refl {a = Some (drop (max_key_file_len + 1) c.args.pass.now)};
      },
    ) in
    ends_opening c.args.options.now known c.args.pass.now (Err (Passphrase TooLong)) _ unread.0 (λ passphrase same. cc)
    (λ slot kib same. absurd cc)

-- the key slots were tried
pub returns-clause-answers : goal.returns-clause-answers
returns-clause-answers g c known is =
    let found = rw c.allowed_by.ensures at (c.in_ok-found.ensures.found.found known is) in
    let then = c.in_ok-unlocked.ensures in
    ends_opening c.args.options.now known c.args.pass.now (Ok c.in_ok-unlocked.unlocked) _
    (opens_as _ _ known c.args.pass.now _ _ found _ _ _ then.run then.tries (omega arith)) tt tt

pub returns-in_err-unlocked-clause-answers : goal.returns-in_err-unlocked-clause-answers
returns-in_err-unlocked-clause-answers g c =
    let then = c.in_err-unlocked.ensures in
    rw (given_error _ _ c.from_residual-in_err-unlocked.ensures.1) (λ known is.
    let found = rw c.allowed_by.ensures at (c.in_ok-found.ensures.found.found known is) in
    ends_opening c.args.options.now known c.args.pass.now (Err c.in_err-unlocked.field-0.0) _
    (opens_as _ _ known c.args.pass.now _ _ found _ _ _ then.run then.tries (omega arith))
    (λ passphrase same. absurd (rw same at then.tries))
    (λ slot kib same.
    let slots = rw c.allowed_by.ensures at c.in_ok-found.ensures.found.slots in
    let allowed = allowed_by c.args.options.now in
    let refused = rw same at then.refused in
    needs_limits c.in_ok-found.found.header allowed.named allowed.limits c.in_ok-found.found.order slots.order
    c.in_ok-found.found.segment slots.segment _ _ _ slot kib refused.stops))

pub returns-in_err-unlocked-clause-reads : goal.returns-in_err-unlocked-clause-reads
returns-in_err-unlocked-clause-reads g c =
    let then = c.in_err-unlocked.ensures in
    rw (given_error _ _ c.from_residual-in_err-unlocked.ensures.1)
    (reads_on _ _ then.reads.0 _ _ _ c.in_ok-found.ensures.found.loaded.reads
    (λ ended. ap g.S.Source.counts (then.ended ended)) then.reads.1)

-- ---- what that costs

pub returns-in_err-found-clause-costs : goal.returns-in_err-found-clause-costs
returns-in_err-found-clause-costs g c =
    rw (given_error _ _ c.from_residual.ensures.1) (λ known is.
    let none = rw c.allowed_by.ensures at (c.in_err-found.ensures.err known is) in
    costs_unfound (volume_by (reader_for c.args.options.now.location) (allowed_by c.args.options.now) known) known
    c.args.pass.now c.in_err-found.field-0.0 (record { work = c.args.work.now; blocks = c.args.derive.now }) none.none
    none.no_argon2)

pub returns-then-pass-gt-MAX_PASSPHRASE_LEN-clause-costs : goal.returns-then-pass-gt-MAX_PASSPHRASE_LEN-clause-costs
returns-then-pass-gt-MAX_PASSPHRASE_LEN-clause-costs g c known is =
    costs_unread (volume_by (reader_for c.args.options.now.location) (allowed_by c.args.options.now) known)
    (record { work = c.args.work.now; blocks = c.args.derive.now })

pub returns-clause-costs : goal.returns-clause-costs
returns-clause-costs g c known is =
    let found = rw c.allowed_by.ensures at (c.in_ok-found.ensures.found.found known is) in
    let then = c.in_ok-unlocked.ensures in
    costs_found _ _ (is_volume _ _ known c.args.pass.now _ _ found) known c.args.pass.now
    (Ok c.in_ok-unlocked.unlocked) _ _
    (costs_of_trials (described c.in_ok-found.found) known _ c.args.pass.now (λ enough.
    let whole = loaded_as _ _ known c.args.pass.now _ _ found _ _ _ then.run enough (omega arith) in
    (_, whole.1, omega (arith, enough, whole.0))) _ _ (Ok c.in_ok-unlocked.unlocked) then.tries then.work then.filled
    then.refused)

pub returns-in_err-unlocked-clause-costs : goal.returns-in_err-unlocked-clause-costs
returns-in_err-unlocked-clause-costs g c =
    let then = c.in_err-unlocked.ensures in
    rw (given_error _ _ c.from_residual-in_err-unlocked.ensures.1) (λ known is.
    let found = rw c.allowed_by.ensures at (c.in_ok-found.ensures.found.found known is) in
    costs_found _ _ (is_volume _ _ known c.args.pass.now _ _ found) known c.args.pass.now
    (Err c.in_err-unlocked.field-0.0)
    _ _ (costs_of_trials (described c.in_ok-found.found) known _ c.args.pass.now (λ enough.
    let whole = loaded_as _ _ known c.args.pass.now _ _ found _ _ _ then.run enough (omega arith) in
    (_, whole.1, omega (arith, enough, whole.0))) _ _ (Err c.in_err-unlocked.field-0.0) then.tries then.work then.filled
    then.refused))
