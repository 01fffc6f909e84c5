use Rattle.std.proofs.Common.{arith}
use Rattle.luks_volume_tests.proofs.tests.payload.sealed.merge.Goals as goal

pub af_merge-requires-clause-stripes : goal.af_merge-requires-clause-stripes
af_merge-requires-clause-stripes c = (4, omega arith, omega arith, omega arith)
