use Rattle.std.proofs.lemmas.Grind.{common_steps}
use Rattle.std.proofs.Common.{◌≡◌, ◌∙◌, ap, arith, sym}
use Rattle.luks_argon2.specs.Blake2b.{compress, folded, rounds}
use Rattle.luks_argon2.proofs.BlakeLemmas.{rounds_next, sigma_below}
use Rattle.luks_argon2.proofs.blake2b_compression.compress.Goals as goal

pub rounds-init : goal.rounds-init
unfolding rounds
rounds-init c = grind (arith, common_steps)

pub round-requires : goal.round-requires
round-requires c = sigma_below _ (omega arith)

pub rounds-preserved : goal.rounds-preserved
rounds-preserved c = c.round.ensures ∙ rw c.rounds.invariant (sym (rounds_next _ _ c.rounds.r))

pub returns : goal.returns
unfolding compress
returns c =
    let done : c.rounds.r ≡ 12 = omega arith in
    ap (folded c.args.h.now) (rw done at c.rounds.invariant)
