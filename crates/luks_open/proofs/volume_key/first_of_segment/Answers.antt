use Rattle.std.proofs.Common.{◌≡◌, ◌∙◌, ℕ, ◌+◌, ◌<◌, List, ◌∷◌, Option, ap, drop, get_or, length, sym}
use Rattle.std.proofs.lemmas.List.{drop_all, drop_more}
use Rattle.std.specs.Option.{option_or}
use Rattle.luks2_metadata.specs.declared.luks2_digest.Digest.{Digest}
use Rattle.luks_open.specs.VolumeKey.{first_of_segment}
use Rattle.luks_open.proofs.volume_key.first_of_segment.Goals as goal

-- from the next digest on
from_digest : (digests : List (ℕ × Option Digest)) (i : ℕ) (digest : ℕ × Option Digest) → i < length digests
    → digest ≡ get_or digests i digest
    → first_of_segment (drop i digests) ≡ first_of_segment (digest ∷ drop (i + 1) digests)
from_digest digests i digest there is =
    ap first_of_segment (drop_more digests i digest there ∙ ap (λ d. d ∷ drop (i + 1) digests) (sym is))

pub returns-in-Some : goal.returns-in-Some
unfolding first_of_segment
returns-in-Some c =
    sym c.digests.invariant
    ∙ (from_digest c.args.digests.now c.digests.entry-index c.entry-item.result c.digests-test.true c.entry-item.is
    ∙ ap (λ key. option_or key (first_of_segment (drop (c.digests.entry-index + 1) c.args.digests.now)))
    c.in-Some.ensures)

pub digests-preserved : goal.digests-preserved
unfolding first_of_segment
digests-preserved c =
    sym (sym c.digests.invariant
    ∙ (from_digest c.args.digests.now c.digests.entry-index c.entry-item.result c.digests-test.true c.entry-item.is
    ∙ ap (λ key. option_or key (first_of_segment (drop (c.digests.entry-index + 1) c.args.digests.now)))
    c.in_default.ensures))

pub returns : goal.returns
unfolding first_of_segment
returns c =
    sym c.digests.invariant
    ∙ ap first_of_segment (drop_all c.digests.entry-index c.args.digests.now c.digests-test.false)
