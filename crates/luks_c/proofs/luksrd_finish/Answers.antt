use Rattle.std.proofs.Common.{◌≡◌, ◌∙◌, ◌+◌, ◌*◌, drop, take, sym}
use Rattle.luks_access.specs.Sectors.{AreStored, IsRangeOf, plain_in}
use Rattle.luks_payload.specs.Plain.{plain_of, sector_len}
use Rattle.luks_c.specs.Stored.{cipher_in, key_in}
use Rattle.luks_c.proofs.StoredLemmas.{for_segment, for_volume}
use Rattle.luks_c.proofs.luksrd_finish.Goals as goal

pub returns-clause-value : goal.returns-clause-value
returns-clause-value c done prepared t there =
    let volume = c.args.cipher.now.volume in
    let segment = c.in-Some.segment in
    let step = c.args.step.now in
    c.clear_after.ensures.first ∙ for_segment (λ s. take step.count c.finish.new.bytes
    ≡ take step.count (drop step.skip (plain_in s (cipher_in volume s.mode) step.first_sector c.args.bytes.now)))
    volume segment t c.in-Some.ensures there
    ((rw c.stored.ensures at c.finish.ensures.value) (key_in volume) (prepared.keys segment (sym c.in-Some.ensures)))

pub returns-clause-stored : goal.returns-clause-stored
returns-clause-stored c done prepared v image stored =
    let volume = c.args.cipher.now.volume in
    let segment = c.in-Some.segment in
    let step = c.args.step.now in
    rw c.clear_after.ensures.first (for_volume volume v stored
    (λ s cipher. AreStored s image step.first_sector c.args.bytes.now
    → IsRangeOf (plain_of s cipher image) (step.first_sector * sector_len s + step.skip)
    (take step.count c.finish.new.bytes)) segment
    c.in-Some.ensures
    ((rw c.stored.ensures at c.finish.ensures.plain) (key_in volume) image
    (prepared.keys segment (sym c.in-Some.ensures))))
