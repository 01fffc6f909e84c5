use Rattle.std.proofs.Common.{◌∙◌, ◌/◌, ◌%◌, List, ℕ, ap, sym, slice_index}
use Rattle.std.proofs.lemmas.Bool.{cond-false, cond-true}
use Rattle.luks_argon2.specs.Block.{block_row}
use Rattle.luks_argon2.specs.Addressing.{is_data_independent, pseudorandom}
use Rattle.luks_argon2.proofs.addressing.pseudorandom.Goals as goal

pub renew-requires-clause-words : goal.renew-requires-clause-words
renew-requires-clause-words c = λ some.
    c.requires.words (sym c.is_data_independent.ensures ∙ c.if-is_data_independent.true) some

pub returns-then-is_data_independent-clause-value : goal.returns-then-is_data_independent-clause-value
unfolding pseudorandom
returns-then-is_data_independent-clause-value c =
    let i = c.args.i in
    c.address_in.ensures
    ∙ (ap (λ (x : List (List ℕ)). slice_index (block_row x (i % 128 / 16)) (i % 16)) c.renew.ensures
    ∙ sym (cond-true (is_data_independent c.args.variant c.args.segment) _ _
    (sym c.is_data_independent.ensures ∙ c.if-is_data_independent.true)))

pub returns-else-is_data_independent-clause-value : goal.returns-else-is_data_independent-clause-value
unfolding pseudorandom
returns-else-is_data_independent-clause-value c =
    rw c.requires.index (sym (cond-false (is_data_independent c.args.variant c.args.segment) _ _
    (sym c.is_data_independent.ensures ∙ c.if-is_data_independent.false)))
