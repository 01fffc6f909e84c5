use Rattle.std.proofs.Common.{◌*◌, ◌∙◌, take, drop, ap, sym, arith}
use Rattle.luks_payload.specs.Plain.{plain_of, sector_len}
use Rattle.luks_access.proofs.RangeLemmas.{front_read}
use Rattle.luks_access.proofs.step.finish.Goals as goal

pub returns-clause-plain : goal.returns-clause-plain
returns-clause-plain c key image are stored =
    let s = c.args.segment.now in
    let step = c.args.step.now in
    front_read (plain_of s (s.mode, key) image) c.decrypt_sectors.new.bytes c.move_to_front.new.bytes
    (step.first_sector * sector_len s) step.skip step.count
    (c.decrypt_sectors.ensures.plain key image are stored
    ∙ ap (λ n. take n (drop (step.first_sector * sector_len s) (plain_of s (s.mode, key) image)))
    (sym c.decrypt_sectors.auto.bytes)) (omega (arith, c.requires.part, c.decrypt_sectors.auto.bytes))
    c.move_to_front.ensures
