use Rattle.std.proofs.Common.{◌∙◌, ◌*◌, ◌++◌, ◌∷◌, [], ap, arith, length, subst, sym}
use Rattle.std.proofs.lemmas.Bool.{eqb-true}
use Rattle.luks_header.specs.Header.{header_of}
use Rattle.luks_audit_run.proofs.PlaceLemmas.{in_near, none_left, on_fault, tried_in, tried_none, tried_some}
use Rattle.luks_audit_run.specs.Places.{found_in, header_at, places_below}
use Rattle.luks_audit_run.specs.Search.{IsIn, SearchModel}
use Rattle.luks_audit_run.proofs.search.Search.try_sector.Goals as goal

pub returns-then-is_empty-clause-found : goal.returns-then-is_empty-clause-found
returns-then-is_empty-clause-found c image left is =
    let none = sym (ap length c.bytes.ensures.value) ∙ eqb-true _ 0 (sym c.is_empty.ensures ∙ c.if-is_empty.true) in
    (is, none_left image c.args.self.now left is (omega arith) c.requires.enough none)

pub returns-in-Some-clause-found : goal.returns-in-Some-clause-found
returns-in-Some-clause-found c image left is =
    let search = c.args.self.now in
    let found = ap (λ bytes. found_in (header_of bytes)) (sym c.bytes-2.ensures.value) ∙ sym c.in_ok-found.ensures.found
    ∙ c.in-Some.is in
    let some = tried_some image search left is c.requires.enough c.in-Some.header found in
    let sector = ap (λ (s : SearchModel). s.sector) c.self.view_is in (
      subst (λ (s : SearchModel). IsIn image s left) (sym c.advance.ensures)
          (tried_in image search left is c.requires.enough),
      (
        ap (λ n. header_at image (512 * n)) sector ∙ some.0,
        ap (λ (s : SearchModel). places_below image s.sector) c.advance.ensures ∙ some.1
            ∙ ap (λ n. places_below image search.sector ++ (512 * n) ∷ []) (sym sector),
      ),
    )

pub returns-in-None-clause-found : goal.returns-in-None-clause-found
returns-in-None-clause-found c image left is =
    let search = c.args.self.now in
    let found = ap (λ bytes. found_in (header_of bytes)) (sym c.bytes-2.ensures.value) ∙ sym c.in_ok-found.ensures.found
    ∙ c.in-None.is in (
      subst (λ (s : SearchModel). IsIn image s left) (sym c.advance.ensures)
          (tried_in image search left is c.requires.enough),
      ap (λ (s : SearchModel). places_below image s.sector) c.advance.ensures
          ∙ tried_none image search left is c.requires.enough found,
    )

pub returns-in_err-found-clause-behind : goal.returns-in_err-found-clause-behind
returns-in_err-found-clause-behind c image left is =
    on_fault _ _
    (in_near image c.args.self.now left is (omega (arith, ap length c.bytes-2.ensures.value, c.bytes-2.ensures.within)))

pub advance-requires-clause-more : goal.advance-requires-clause-more
advance-requires-clause-more c = omega arith
