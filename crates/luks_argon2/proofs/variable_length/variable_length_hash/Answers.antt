use Rattle.std.proofs.Common.{◌∙◌, ap, arith, length, nat_le, sym}
use Rattle.std.proofs.lemmas.Bool.{cond-false, cond-true, le-leb, lt-leb}
use Rattle.luks_argon2.specs.VariableLength.{halves_and_last, variable_length_hash}
use Rattle.luks_argon2.proofs.variable_length.variable_length_hash.Goals as goal

pub returns-then-out-le64 : goal.returns-then-out-le64
unfolding variable_length_hash
returns-then-out-le64 c =
    let n = length c.args.out.now in
    c.hash_with_length.ensures ∙ sym (cond-true (nat_le n 64) _ _ (le-leb n 64 (omega arith)))

pub returns-else-out-le64 : goal.returns-else-out-le64
unfolding variable_length_hash
returns-else-out-le64 c =
    let n = length c.args.out.now in
    c.write_halves.ensures ∙ (ap (halves_and_last n) c.hash_with_length-else-out-le64.ensures
    ∙ sym (cond-false (nat_le n 64) _ _ (lt-leb n 64 (omega arith))))
