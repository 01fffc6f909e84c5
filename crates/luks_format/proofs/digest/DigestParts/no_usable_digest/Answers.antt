use Rattle.std.proofs.lemmas.Grind.{common_steps}
use Rattle.std.proofs.Common.{arith}
use Rattle.std.proofs.Common.{refl}
use Rattle.luks_format.proofs.MadeLemmas.{no_usable_digest-no, no_usable_digest-yes}
use Rattle.luks_format.proofs.digest.DigestParts.no_usable_digest.Goals as goal

pub returns-then-not-usable_digest : goal.returns-then-not-usable_digest
returns-then-not-usable_digest c parts iterations len =
    grind (arith, common_steps, no_usable_digest-no, c.from.ensures, c.usable_digest.ensures)

pub returns-else-not-usable_digest : goal.returns-else-not-usable_digest
returns-else-not-usable_digest c parts iterations len =
    rw (
      c.iterations_out_of_range.ensures,
      c.from-else-not-usable_digest.ensures,
      no_usable_digest-yes c.args.limit parts
          (rw (iterations, len, ← c.from.ensures, ← c.usable_digest.ensures) c.if-not-usable_digest.false),
      iterations,
    ) refl
