use Rattle.std.proofs.Common.{◌≡◌, ◌∙◌, ◌++◌, ◌∷◌, [], List, ℕ, ap, arith, inl, inr}
use Rattle.luks_audit_run.proofs.PlaceLemmas.{behind_all, on_fault}
use Rattle.luks_audit_run.specs.Places.{places_below}
use Rattle.luks_audit_run.specs.Search.{SearchModel}
use Rattle.luks_audit_run.proofs.search.Search.next.Goals as goal

pub returns-in-Found-clause-found : goal.returns-in-Found-clause-found
returns-in-Found-clause-found g c image is =
    let before = c.loop-self.invariant.held image is in
    let here = rw c.in-Found.is at (c.in_ok-step.ensures.held image before.0) in
    let place = c.in-Found.place in
    (here.0, (here.1.0, here.1.1 ∙ ap (λ (places : List ℕ). places ++ place.offset ∷ []) before.1))

pub returns-in-Found-clause-on : goal.returns-in-Found-clause-on
returns-in-Found-clause-on g c =
    let on = rw c.in-Found.is at c.in_ok-step.ensures.on in
    let from = c.loop-self.invariant.onwards in
    elim on [ inl end ↦ absurd end | inr next ↦ omega (arith, from, next) ]

pub returns-clause-found : goal.returns-clause-found
returns-clause-found g c image is =
    let before = c.loop-self.invariant.held image is in
    let sector = ap (λ (s : SearchModel). s.sector) c.self-in-loop-self.view_is in
    let end : 18014398509481984 ≡ c.loop-self.self.sector = omega (arith, c.loop-self-test.false, sector) in
    (before.0, behind_all image ∙ ap (places_below image) end ∙ before.1)

pub returns-in_err-step-clause-behind : goal.returns-in_err-step-clause-behind
returns-in_err-step-clause-behind g c image is =
    on_fault _ _ (c.in_err-step.ensures.behind image (c.loop-self.invariant.held image is).0)
