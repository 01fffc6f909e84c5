use Rattle.std.proofs.Common.{◌∙◌, ◌+◌, ◌*◌, ◌≤◌, ap, arith, drop, inr, length, subst, sym}
use Rattle.luks_audit_run.proofs.PlaceLemmas.{advanced_in, skipped_none}
use Rattle.luks_audit_run.proofs.search.Search.load_if_needed.Given.{Over}
use Rattle.luks_audit_run.proofs.search.Search.load_if_needed.Goals.{After-advance}
use Rattle.luks_audit_run.specs.Magic.{begins_magic}
use Rattle.luks_audit_run.specs.Places.{places_below}
use Rattle.luks_audit_run.specs.Search.{IsIn, SearchModel}
use Rattle.luks_audit_run.proofs.search.Search.load_if_needed.Goals as goal

-- the last secondary header that a sector may have begins among the loaded bytes
reach : (g : Over) (c : After-advance g) → 512 * c.min-count.result + 4194304 ≤ length c.load.new.self.bytes
reach g c = omega (
  arith,
  c.min-count.ensures,
  c.in_ok-load.ensures.enough (sym (ap (λ (s : SearchModel). s.ended) c.self-2.view_is) ∙ c.if-self-2.false),
)

pub returns-clause-none : goal.returns-clause-none
returns-clause-none g c image is =
    ap (λ (s : SearchModel). places_below image s.sector) c.advance.ensures
    ∙ skipped_none image c.load.new.self _ (c.in_ok-load.ensures.held image is) (λ k.
    ap (λ bytes. begins_magic (drop (512 * k) bytes)) (sym c.bytes-else-self-2.ensures.value)
    ∙ c.is_quiet.ensures c.if-not-is_quiet.false k) c.min-count.result (reach g c)
    ∙ ap (places_below image) c.in_ok-load.ensures.sector

pub returns-clause-held : goal.returns-clause-held
returns-clause-held g c image is =
    subst (λ (s : SearchModel). IsIn image s (g.S.Source.to_come c.load.new.source)) (sym c.advance.ensures)
    (advanced_in image c.load.new.self _ (c.in_ok-load.ensures.held image is) c.min-count.result
    (inr (omega (arith, reach g c))))
