use Rattle.std.proofs.Common.{◌≡◌, ◌∙◌, false, sym, arith}
use Rattle.std.proofs.lemmas.Bool.Decides.{nat_tests}
use Rattle.luks_format.specs.Derivation.{memory_out_of_range, passes_out_of_range}
use Rattle.luks_format.proofs.derivation.argon2_refusal.Goals as goal

-- both numbers are in range
pub fill_kib-fill_kib-requires-clause-passes : goal.fill_kib-fill_kib-requires-clause-passes
unfolding passes_out_of_range
fill_kib-fill_kib-requires-clause-passes c =
    let is : passes_out_of_range c.args.parameters.passes ≡ false =
    sym c.passes_out_of_range.ensures ∙ c.if-passes_out_of_range.false in
    grind (arith, nat_tests)

pub fill_kib-fill_kib-requires-clause-memory : goal.fill_kib-fill_kib-requires-clause-memory
unfolding memory_out_of_range
fill_kib-fill_kib-requires-clause-memory c =
    let is : memory_out_of_range c.args.parameters.memory_kib c.args.parameters.lanes ≡ false =
    sym c.memory_out_of_range.ensures ∙ c.if-memory_out_of_range.false in
    grind (arith, nat_tests)
