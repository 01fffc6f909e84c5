use Rattle.std.proofs.Common.{◌≡◌, ◌∙◌, ◌∷◌, ◌++◌, [], List, ℕ, ap, arith, length, sym}
use Rattle.std.proofs.lemmas.List.{length-set, replicate-append-replicate, take_all, take_more_set}
use Rattle.luks_argon2.specs.Block.{zero_block}
use Rattle.luks_argon2.proofs.memory.clear.Goals as goal

pub zeros-preserved : goal.zeros-preserved
unfolding zero_block
zeros-preserved c =
    let i = c.zeros.i in (
      length-set c.zeros.blocks i _ ∙ c.zeros.invariant.0,
      take_more_set c.zeros.blocks i _ (omega arith)
          ∙ (ap (λ (l : List (List (List ℕ))). l ++ zero_block ∷ []) c.zeros.invariant.1
          ∙ replicate-append-replicate i 1 zero_block),
    )

pub returns : goal.returns
returns c =
    let n = length c.args.blocks.now in
    let done : c.zeros.i ≡ n = omega arith in
    sym (take_all n c.zeros.blocks (omega arith)) ∙ rw done at c.zeros.invariant.1
