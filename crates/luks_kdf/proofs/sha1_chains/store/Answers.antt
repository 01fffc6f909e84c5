use Rattle.std.proofs.Common.{◌∙◌, ap, arith, length}
use Rattle.sha2.specs.Sha256.{digest_bytes}
use Rattle.luks_kdf.specs.LaneWords.{lane}
use Rattle.luks_kdf.proofs.WordLemmas.{length-digest_bytes, written_next}
use Rattle.luks_kdf.proofs.sha1_chains.store.Goals as goal

pub lanes-preserved : goal.lanes-preserved
lanes-preserved g c = λ k below.
    written_next 20 c.lanes.j k c.lanes.out c.store_lane.new.out _ (λ i. digest_bytes (lane i c.args.x.now) 5)
    (omega arith) (ap length c.store_lane.ensures ∙ length-digest_bytes _ 5) c.lanes.invariant
    c.store_lane.ensures below

pub returns : goal.returns
returns g c = λ k below. c.lanes.invariant k (omega arith)
