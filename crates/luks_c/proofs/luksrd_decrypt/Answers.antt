use Rattle.std.proofs.Common.{◌≡◌, ◌*◌, length, sym}
use Rattle.luks_access.specs.Sectors.{AreStored, plain_at, plain_in}
use Rattle.luks_payload.specs.Plain.{sector_len}
use Rattle.luks_c.specs.Stored.{cipher_in, key_in}
use Rattle.luks_c.proofs.StoredLemmas.{for_segment, for_volume}
use Rattle.luks_c.proofs.luksrd_decrypt.Goals as goal

pub returns-clause-value : goal.returns-clause-value
returns-clause-value c done prepared t there =
    let volume = c.args.cipher.now.volume in
    let segment = c.in-Some.segment in
    for_segment (λ s. c.decrypt_sectors.new.bytes ≡ plain_in s (cipher_in volume s.mode) c.args.first_sector
    c.args.bytes.now) volume segment t c.in-Some.ensures there
    (c.decrypt_sectors.ensures.value (key_in volume) (prepared.keys segment (sym c.in-Some.ensures)))

pub returns-clause-stored : goal.returns-clause-stored
returns-clause-stored c done prepared v image stored =
    let volume = c.args.cipher.now.volume in
    let segment = c.in-Some.segment in
    let first = c.args.first_sector in
    let old = c.args.bytes.now in
    for_volume volume v stored (λ s cipher. AreStored s image first old
    → c.decrypt_sectors.new.bytes ≡ plain_at s cipher image (first * sector_len s) (length old)) segment
    c.in-Some.ensures
    (c.decrypt_sectors.ensures.plain (key_in volume) image (prepared.keys segment (sym c.in-Some.ensures)))
