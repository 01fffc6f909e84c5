use Rattle.std.proofs.Common.{◌∙◌, List, ℕ, ap, subst}
use Rattle.std.specs.Prelude.{MatchOption}
use Rattle.luks_kdf.specs.declared.hash.Hash.{Hash}
use Rattle.luks_kdf.specs.Hash.{Names, hash_named}
use Rattle.luks_kdf.proofs.hash.Hash.from_name.Goals as goal

pub returns : goal.returns
returns c =
    let IsNamed : List ℕ → Type 0 =
    λ text. MatchOption c.hash_of_name.result ((hash : Hash) → ¬ Names text hash) (Names text) in
    record {
      named = subst IsNamed c.as_bytes.ensures.value c.hash_of_name.ensures.named;
      value = c.hash_of_name.ensures.value ∙ ap hash_named c.as_bytes.ensures.value;
    }
