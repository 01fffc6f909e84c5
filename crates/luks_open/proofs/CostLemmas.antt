-- What opening a volume adds to the counts of work and of blocks.
use Rattle.std.proofs.Common.{◌≡◌, ◌∙◌, inl, inr, ℕ, ◌+◌, ◌<◌, ◌≤◌, false, List, Option, Some, None, Ok, Err, refl}
use Rattle.std.proofs.Common.{ap, arith, length, subst, take}
use Rattle.std.specs.Prelude.{MatchResult, Result, ok_or, sum_by}
use Rattle.luks_kdf.specs.Pbkdf2.{capped}
use Rattle.luks_open.specs.Costs.{AddsCosts, Costs, CountsCosts, KeepsCosts}
use Rattle.luks_open.specs.Fault.{aborts_opening}
use Rattle.luks_open.specs.Opening.{OrderModel, StopsAfter, blocks_of, evaluations_of, first_opening, key_material_end}
use Rattle.luks_open.specs.Opening.{opening_of, tried_of, work_of}
use Rattle.luks_open.specs.Volume.{CountsBlocks, CountsRefused, CountsTrials, IfRefused, TriesSlots, UnlessRefused}
use Rattle.luks_open.specs.Volume.{Volume}
use Rattle.luks_open.specs.declared.entry.Entry.{Entry}
use Rattle.luks_open.specs.declared.fault.OpenFault.{OpenFault}
use Rattle.luks_open.specs.declared.fault.OpenFault.TheVariants.{NoKey}
use Rattle.luks_open.specs.declared.fault.VolumeFault.{VolumeFault}
use Rattle.luks_open.specs.declared.fault.VolumeFault.TheVariants.{Argon2Memory, Header, KeyAreaCut, Slots}
use Rattle.luks_open.specs.declared.opening.Opened.{Opened}
use Rattle.luks_open.specs.declared.unlocked.UnlockedVolume.{UnlockedVolume}
use Rattle.luks_open.proofs.LoadedLemmas.{stops_prefix, tried_prefix}

keeps : (costs : Costs) → KeepsCosts costs costs
keeps costs = record { work = refl; blocks = refl }

-- the passphrase was not read, or no volume was found: either the image has none, or a read failed or memory ran out
pub costs_unread : {F : Type 0} (found : Result Volume F) (costs : Costs)
    → MatchResult found (λ _. KeepsCosts costs costs) (λ _. KeepsCosts costs costs)
costs_unread (Ok volume) costs = keeps costs
costs_unread (Err fault) costs = keeps costs

pub costs_unfound : (found : Result Volume VolumeFault) (image pass : List ℕ) (fault : VolumeFault) (costs : Costs)
    → (aborts_opening fault ≡ false → found ≡ Err fault)
    → ((slot memory : ℕ) → fault ≡ Argon2Memory slot memory → ⊥)
    → MatchResult found (λ volume. CountsCosts volume image pass (Err fault) costs costs) (λ _. KeepsCosts costs costs)
costs_unfound (Err _) image pass fault costs none no_argon2 = keeps costs
costs_unfound (Ok volume) image pass (Slots (NoKey skipped)) costs none no_argon2 =
    absurd (let wrong : Ok volume ≡ Err (Slots (NoKey skipped)) = none refl in cc)
costs_unfound (Ok volume) image pass (Argon2Memory slot memory) costs none no_argon2 =
    absurd (no_argon2 slot memory refl)
costs_unfound (Ok volume) image pass _ costs none no_argon2 = keeps costs

pub costs_found : (found : Result Volume VolumeFault) (volume : Volume) → found ≡ Ok volume → (image pass : List ℕ)
    (result : Result UnlockedVolume VolumeFault) (before after : Costs)
    → CountsCosts volume image pass result before after
    → MatchResult found (λ volume. CountsCosts volume image pass result before after) (λ _. KeepsCosts before after)
costs_found found volume is image pass result before after costs = rw is costs

-- a fault of trying the key slots is that none opens
opening_fault : (order : OrderModel) (image pass : List ℕ) (fault : OpenFault) → opening_of order image pass ≡ Err fault
    → fault ≡ NoKey order.skipped
unfolding opening_of
opening_fault order image pass fault is = by (first_opening order.entries image pass) is
  where
    by : (first : Option Opened) → ok_or first (NoKey order.skipped) ≡ Err fault → fault ≡ NoKey order.skipped
    by (Some opened) h = absurd cc
    by None h = cc

-- the key slots of a volume were tried, with the first bytes of its image loaded: they contain the key material, or end
-- before it does
module _ (volume : Volume) (image area pass : List ℕ)
    (loads : key_material_end volume.order.entries ≤ length area
    → (n : ℕ) × (area ≡ take n image) × (key_material_end volume.order.entries ≤ n)) (before after : Costs) where
  abbrev order : OrderModel
  order = volume.order

  tried_costs : (result : Result UnlockedVolume VolumeFault) → key_material_end order.entries ≤ length area
      → CountsTrials order area pass result before.work after.work
      → CountsBlocks order area pass before.blocks after.blocks
      → AddsCosts (tried_of order.entries image pass) before after
  unfolding work_of
  tried_costs result enough (inl work) (inl blocks) =
      let n = loads enough in
      let same : tried_of order.entries area pass ≡ tried_of order.entries image pass =
      ap (λ (bytes : List ℕ). tried_of order.entries bytes pass) n.1 ∙ tried_prefix order n.0 image pass n.2 in
      record {
        work = work.1 ∙ ap (λ (tried : List Entry). capped (before.work + sum_by evaluations_of tried)) same;
        blocks = blocks.1 ∙ ap (λ (tried : List Entry). capped (before.blocks + sum_by blocks_of tried)) same;
      }
  tried_costs result enough (inl work) (inr few) = absurd (omega (arith, few.0))
  tried_costs result enough (inr few) blocks = absurd (omega (arith, few.0))

  untried_costs : (result : Result UnlockedVolume VolumeFault) → length area < key_material_end order.entries
      → CountsTrials order area pass result before.work after.work
      → CountsBlocks order area pass before.blocks after.blocks → KeepsCosts before after
  untried_costs result few (inr work) (inr blocks) = record { work = work.2; blocks = blocks.1 }
  untried_costs result few (inr work) (inl all) = absurd (omega (arith, all.0))
  untried_costs result few (inl all) blocks = absurd (omega (arith, all.0))

  refused_costs : (slot memory : ℕ) → key_material_end order.entries ≤ length area
      → CountsRefused order area pass slot memory before.work after.work before.blocks after.blocks
      → CountsCosts volume image pass (Err (Argon2Memory slot memory)) before after
  refused_costs slot memory enough refused =
      let n = loads enough in
      let stops : StopsAfter order.entries (take n.0 image) pass refused.tried slot memory =
      subst (λ (bytes : List ℕ). StopsAfter order.entries bytes pass refused.tried slot memory) n.1 refused.stops in (
        refused.tried,
        stops_prefix order n.0 image pass n.2 refused.tried slot memory stops,
        record { work = refused.counted; blocks = refused.filled },
      )

  of_slots : (fault : OpenFault) → fault ≡ NoKey order.skipped
      → AddsCosts (tried_of order.entries image pass) before after
      → CountsCosts volume image pass (Err (Slots fault)) before after
  of_slots (NoKey _) is adds = adds
  of_slots _ is adds = absurd cc

  pub costs_of_trials : (result : Result UnlockedVolume VolumeFault) → TriesSlots volume area pass result
      → UnlessRefused result (CountsTrials order area pass result before.work after.work)
      → UnlessRefused result (CountsBlocks order area pass before.blocks after.blocks)
      → IfRefused result (λ slot memory.
      CountsRefused order area pass slot memory before.work after.work before.blocks after.blocks)
      → CountsCosts volume image pass result before after
  costs_of_trials (Ok opened) tries work blocks refused = tried_costs (Ok opened) tries.0 work blocks
  costs_of_trials (Err (Slots fault)) tries work blocks refused =
      of_slots fault (opening_fault order area pass fault tries.1)
      (tried_costs (Err (Slots fault)) tries.0 work blocks)
  costs_of_trials (Err (Argon2Memory slot memory)) enough work blocks refused =
      refused_costs slot memory enough refused
  costs_of_trials (Err KeyAreaCut) few work blocks refused =
      untried_costs (Err KeyAreaCut) few work blocks
  costs_of_trials (Err (Header fault)) tries work blocks refused =
      untried_costs (Err (Header fault)) tries.0 work blocks
  costs_of_trials (Err _) never work blocks refused = absurd never
