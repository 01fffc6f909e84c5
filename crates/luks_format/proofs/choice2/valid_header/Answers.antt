use Rattle.std.proofs.lemmas.Grind.{common_steps}
use Rattle.std.proofs.Common.{◌≡◌, ◌∙◌, arith, sym, Some}
use Rattle.luks_format.specs.Choice2.{header2_at}
use Rattle.luks_format.specs.Header2.{checksum_hash_in}
use Rattle.luks_format.proofs.Valid2Lemmas.{valid_range}
use Rattle.luks_format.proofs.choice2.valid_header.Goals as goal

pub binary_at-binary-requires : goal.binary_at-binary-requires
binary_at-binary-requires c = (let range = valid_range c.args.bytes.now c.args.start c.requires.valid in range.0)

pub overflow_cast-result : goal.overflow_cast-result
overflow_cast-result c =
    let range = valid_range c.args.bytes.now c.args.start c.requires.valid in
    rw (c.size_in.ensures, c.binary_at-binary.ensures.value) (omega (arith, range.2))

pub returns-in_err-hash : goal.returns-in_err-hash
unfolding header2_at
returns-in_err-hash c = grind (arith, common_steps)

pub returns : goal.returns
unfolding header2_at
returns c =
    let some : checksum_hash_in c.binary_at-binary.result.now ≡ Some c.in_ok-hash.hash =
    sym c.checksum_hash_in.ensures ∙ c.in_ok-hash.was in
    grind (arith, common_steps)
