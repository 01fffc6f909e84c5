use Rattle.std.proofs.Common.{arith, rules}
use Rattle.luks_format.proofs.RangeLemmas.{digest_range}
use Rattle.luks_open.specs.Candidate.{matches_digest}
use Rattle.luks_open.proofs.digest_match.key_matches_digest.Goals as goal

pub derived-derived-requires-clause-iterations : goal.derived-derived-requires-clause-iterations
derived-derived-requires-clause-iterations c = (digest_range c.args.digest.now).some_iterations

pub derived-derived-requires-clause-some : goal.derived-derived-requires-clause-some
derived-derived-requires-clause-some c =
    rw c.as_slice-value.ensures (omega (arith, (digest_range c.args.digest.now).enough))

pub derived-derived-requires-clause-capacity : goal.derived-derived-requires-clause-capacity
derived-derived-requires-clause-capacity c = rw c.as_slice-value.ensures (digest_range c.args.digest.now).few

pub returns : goal.returns
unfolding matches_digest
returns c = record { value = search rules; work = search rules }
