use Rattle.luks_io.proofs.ErrorLemmas.{given_error}
use Rattle.std.proofs.Common.{◌∙◌, Some, ap, arith, inl, inr, refl, rules, sym}
use Rattle.std.specs.Prelude.{not}
use Rattle.std.proofs.Math.Seq.{take-length}
use Rattle.luks_header.proofs.KnownLemmas.{short_from_not_whole}
use Rattle.luks_open.proofs.trying.try_slots.Goals as goal

-- the key areas were not read, or memory for them ran out
pub returns-in_err-extend_to-clause-tries : goal.returns-in_err-extend_to-clause-tries
returns-in_err-extend_to-clause-tries g c =
    let loads = c.in_err-extend_to.ensures.loads in
    rw (given_error _ _ c.from_residual.ensures.1)
    (rw c.key_material_end-end.ensures.value at loads.fewer, loads.only)

pub returns-in_err-extend_to-clause-run : goal.returns-in_err-extend_to-clause-run
returns-in_err-extend_to-clause-run g c =
    let call = c.in_err-extend_to.ensures in
    rw (given_error _ _ c.from_residual.ensures.1) (record {
      start = call.start;
      kept = call.loads.kept;
      within = rw c.key_material_end-end.ensures.value at call.loads.within;
      cut = λ cut. absurd cc;
    })

pub returns-in_err-extend_to-clause-work : goal.returns-in_err-extend_to-clause-work
returns-in_err-extend_to-clause-work g c =
    rw (given_error _ _ c.from_residual.ensures.1)
    (inr (rw c.key_material_end-end.ensures.value at c.in_err-extend_to.ensures.loads.fewer, refl, refl))

-- the image ends within them
pub returns-then-not-branch-clause-tries : goal.returns-then-not-branch-clause-tries
returns-then-not-branch-clause-tries g c =
    rw c.key_material_end-end.ensures.value at
    (short_from_not_whole c.in_ok-extend_to.field-0 _ _ c.in_ok-extend_to.ensures.loads.whole c.if-not-branch.true)

pub returns-then-not-branch-clause-run : goal.returns-then-not-branch-clause-run
returns-then-not-branch-clause-run g c =
    let call = c.in_ok-extend_to.ensures in
    record {
      start = call.start;
      kept = call.loads.kept;
      within = rw c.key_material_end-end.ensures.value at call.loads.within;
      cut = λ cut known there nothing. call.whole (ap not c.if-not-branch.true) known there;
    }

pub returns-then-not-branch-clause-work : goal.returns-then-not-branch-clause-work
returns-then-not-branch-clause-work g c = inr (
  rw c.key_material_end-end.ensures.value at
      (short_from_not_whole c.in_ok-extend_to.field-0 _ _ c.in_ok-extend_to.ensures.loads.whole c.if-not-branch.true),
  refl,
  refl,
)

-- the same, and EOF was hit on the image before
pub returns-then-is_cut-clause-tries : goal.returns-then-is_cut-clause-tries
returns-then-is_cut-clause-tries g c =
    rw c.key_material_end-end.ensures.value at (c.is_cut.ensures.cut c.if-is_cut.true).1

pub returns-then-is_cut-clause-run : goal.returns-then-is_cut-clause-run
returns-then-is_cut-clause-run g c = record {
  start = λ image start. start;
  kept = take-length c.args.volume.now.area.bytes;
  within = omega arith;
  cut = λ cut known there nothing. there ∙ ap Some (nothing (c.is_cut.ensures.cut c.if-is_cut.true).0);
}

pub returns-then-is_cut-clause-work : goal.returns-then-is_cut-clause-work
returns-then-is_cut-clause-work g c =
    inr (rw c.key_material_end-end.ensures.value at (c.is_cut.ensures.cut c.if-is_cut.true).1, refl, refl)

pub returns-in_err-extend_to-clause-filled : goal.returns-in_err-extend_to-clause-filled
returns-in_err-extend_to-clause-filled g c =
    rw (given_error _ _ c.from_residual.ensures.1)
    (inr (rw c.key_material_end-end.ensures.value at c.in_err-extend_to.ensures.loads.fewer, refl))

pub returns-in_err-extend_to-clause-refused : goal.returns-in_err-extend_to-clause-refused
returns-in_err-extend_to-clause-refused g c = rw (given_error _ _ c.from_residual.ensures.1) tt

pub returns-then-not-branch-clause-filled : goal.returns-then-not-branch-clause-filled
returns-then-not-branch-clause-filled g c = inr (
  rw c.key_material_end-end.ensures.value at
      (short_from_not_whole c.in_ok-extend_to.field-0 _ _ c.in_ok-extend_to.ensures.loads.whole c.if-not-branch.true),
  refl,
)

pub returns-then-is_cut-clause-filled : goal.returns-then-is_cut-clause-filled
returns-then-is_cut-clause-filled g c =
    inr (rw c.key_material_end-end.ensures.value at (c.is_cut.ensures.cut c.if-is_cut.true).1, refl)

-- the key slots were tried
pub open_by-requires-clause-loaded : goal.open_by-requires-clause-loaded
open_by-requires-clause-loaded g c =
    rw c.key_material_end-end.ensures.value at (c.in_ok-extend_to.ensures.loads.whole.0 c.if-not-branch.false)

pub new-requires : goal.new-requires
new-requires g c =
    let segment = c.requires.found.1.segment in
    rw c.in-Ok-opening.is at (c.in-Ok.ensures.key_length _ segment)

pub returns-in-Ok-opening-clause-tries : goal.returns-in-Ok-opening-clause-tries
returns-in-Ok-opening-clause-tries g c = (
  rw c.key_material_end-end.ensures.value at (c.in_ok-extend_to.ensures.loads.whole.0 c.if-not-branch.false),
  c.new.ensures.segment,
  rw (c.new.ensures.slot, c.new.ensures.key) (sym c.in-Ok.ensures.value ∙ c.in-Ok-opening.is),
)

pub returns-in-Ok-opening-clause-run : goal.returns-in-Ok-opening-clause-run
returns-in-Ok-opening-clause-run g c =
    let call = c.in_ok-extend_to.ensures in
    record {
      start = call.start;
      kept = call.loads.kept;
      within = rw c.key_material_end-end.ensures.value at call.loads.within;
      cut = λ cut. absurd cc;
    }

pub returns-in-Ok-opening-clause-work : goal.returns-in-Ok-opening-clause-work
returns-in-Ok-opening-clause-work g c = inl (
  rw c.key_material_end-end.ensures.value at (c.in_ok-extend_to.ensures.loads.whole.0 c.if-not-branch.false),
  c.in-Ok.ensures.work,
)

pub returns-in-Ok-opening-clause-filled : goal.returns-in-Ok-opening-clause-filled
returns-in-Ok-opening-clause-filled g c = inl (
  rw c.key_material_end-end.ensures.value at (c.in_ok-extend_to.ensures.loads.whole.0 c.if-not-branch.false),
  c.in-Ok.ensures.filled,
)

pub returns-in-Err-opening-clause-tries : goal.returns-in-Err-opening-clause-tries
returns-in-Err-opening-clause-tries g c = (
  rw c.key_material_end-end.ensures.value at (c.in_ok-extend_to.ensures.loads.whole.0 c.if-not-branch.false),
  sym c.in-Ok.ensures.value ∙ c.in-Err-opening.is,
)

pub returns-in-Err-opening-clause-run : goal.returns-in-Err-opening-clause-run
returns-in-Err-opening-clause-run g c =
    let call = c.in_ok-extend_to.ensures in
    (record {
      start = call.start;
      kept = call.loads.kept;
      within = rw c.key_material_end-end.ensures.value at call.loads.within;
      cut = λ cut. absurd cc;
    })

pub returns-in-Err-opening-clause-work : goal.returns-in-Err-opening-clause-work
returns-in-Err-opening-clause-work g c = (inl (
  rw c.key_material_end-end.ensures.value at (c.in_ok-extend_to.ensures.loads.whole.0 c.if-not-branch.false),
  c.in-Ok.ensures.work,
))

pub returns-in-Err-opening-clause-filled : goal.returns-in-Err-opening-clause-filled
returns-in-Err-opening-clause-filled g c = (inl (
  rw c.key_material_end-end.ensures.value at (c.in_ok-extend_to.ensures.loads.whole.0 c.if-not-branch.false),
  c.in-Ok.ensures.filled,
))

pub returns-in-Err-opening-clause-refused : goal.returns-in-Err-opening-clause-refused
returns-in-Err-opening-clause-refused g c = tt

-- memory that Argon2 needs for one of them was refused
pub returns-in-Err-clause-tries : goal.returns-in-Err-clause-tries
returns-in-Err-clause-tries g c =
    rw c.key_material_end-end.ensures.value at (c.in_ok-extend_to.ensures.loads.whole.0 c.if-not-branch.false)

pub returns-in-Err-clause-run : goal.returns-in-Err-clause-run
returns-in-Err-clause-run g c =
    let call = c.in_ok-extend_to.ensures in
    record {
      start = call.start;
      kept = call.loads.kept;
      within = rw c.key_material_end-end.ensures.value at call.loads.within;
      cut = λ cut. absurd cc;
    }

pub returns-in-Err-clause-refused : goal.returns-in-Err-clause-refused
returns-in-Err-clause-refused g c =
    let stopped = c.in-Err.ensures.stopped in
    record { tried = stopped.0; stops = stopped.1; counted = stopped.2; filled = stopped.3 }

-- EOF was hit on the image before, and all key areas are loaded
pub returns-in_err-extend_to-clause-ended : goal.returns-in_err-extend_to-clause-ended
returns-in_err-extend_to-clause-ended g c ended =
    (c.extend_to.ensures.already (c.is_cut.ensures.whole c.if-is_cut.false ended)).2

pub returns-then-not-branch-clause-ended : goal.returns-then-not-branch-clause-ended
returns-then-not-branch-clause-ended g c ended =
    (c.extend_to.ensures.already (c.is_cut.ensures.whole c.if-is_cut.false ended)).2

pub returns-in-Ok-opening-clause-ended : goal.returns-in-Ok-opening-clause-ended
returns-in-Ok-opening-clause-ended g c ended = (c.extend_to.ensures.already
    (c.is_cut.ensures.whole c.if-is_cut.false ended)).2

pub returns-in-Err-opening-clause-ended : goal.returns-in-Err-opening-clause-ended
returns-in-Err-opening-clause-ended g c ended =
    (c.extend_to.ensures.already (c.is_cut.ensures.whole c.if-is_cut.false ended)).2

pub returns-in-Err-clause-ended : goal.returns-in-Err-clause-ended
returns-in-Err-clause-ended g c ended =
    (c.extend_to.ensures.already (c.is_cut.ensures.whole c.if-is_cut.false ended)).2
