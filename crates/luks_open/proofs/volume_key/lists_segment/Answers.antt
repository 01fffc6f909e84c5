use Rattle.std.proofs.Common.{rules, tests, ◌∙◌, ◌≡◌, Bool, List, [], ◌∷◌, ℕ, ap, map, refl}
use Rattle.std.proofs.lemmas.Iterator.{YieldsList-from_slice}
use Rattle.std.proofs.lemmas.Iterator.Search.{any_from_yields_List}
use Rattle.std.specs.List.{list_any}
use Rattle.std.specs.Prelude.{◌||◌, String, bytes_eq, codes, string_bytes}
use Rattle.std.specs.declared.alloc.Global.{Global}
use Rattle.luks_open.proofs.volume_key.lists_segment.Goals as goal

-- a test of texts, of strings and of their bytes
of_bytes : (test : List ℕ → Bool) (names : List (String Global))
    → list_any (λ (name : String Global). test (string_bytes name)) names ≡ list_any test (map string_bytes names)
of_bytes test [] = refl
of_bytes test (name ∷ names) = ap (λ others. test (string_bytes name) || others) (of_bytes test names)

pub returns : goal.returns
returns c =
    any_from_yields_List (λ name. bytes_eq (codes "0") (string_bytes name)) _ _ _ c.any.ensures.ran
    (YieldsList-from_slice c.as_slice.result.now cc) (λ x b q k. search (rules, tests))
    ∙ (of_bytes (bytes_eq (codes "0")) c.as_slice.result.now ∙ ap (list_any (bytes_eq (codes "0"))) c.as_slice.ensures)
