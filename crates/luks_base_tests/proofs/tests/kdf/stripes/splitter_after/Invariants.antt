use Rattle.std.proofs.Common.{◌≡◌, length}
use Rattle.luks_base_tests.proofs.tests.kdf.stripes.splitter_after.Given as goal

abbrev pub invariant-loop-stripe : goal.invariant-loop-stripe
invariant-loop-stripe g l = length l.splitter.block ≡ 33
