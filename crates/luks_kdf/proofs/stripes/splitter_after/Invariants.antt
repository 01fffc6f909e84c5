use Rattle.std.proofs.Common.{◌≡◌}
use Rattle.luks_kdf.specs.Stripes.{splitter_after}
use Rattle.luks_kdf.proofs.stripes.splitter_after.Given as goal

-- the splitter has absorbed the stripes before number i
abbrev pub invariant-stripes : goal.invariant-stripes
invariant-stripes l = l.splitter ≡ splitter_after l.fn.hash l.len l.stripes l.i
