use Rattle.luks_access.specs.Opens.{cipher_of}
use Rattle.luks_access.proofs.RangeLemmas.{range_ends}
use Rattle.luks_access.proofs.volume.Volume.read_at.Goals as goal

pub returns-then-is_err-clause-whole : goal.returns-then-is_err-clause-whole
returns-then-is_err-clause-whole g c =
    let volume = c.args.self.now in
    (range_ends volume.segment (cipher_of volume) c.len-len.result (g.I.ReadAt.image c.args.image.now)
    (g.I.ReadAt.fails c.args.image.now) c.args.offset c.read_range-answer.new.buf c.len.result c.len.ensures
    c.len-len.ensures.value c.read_range-answer.result c.read_range-answer.ensures).1

pub returns-else-is_err-clause-plain : goal.returns-else-is_err-clause-plain
returns-else-is_err-clause-plain g c =
    let volume = c.args.self.now in
    (range_ends volume.segment (cipher_of volume) c.len-len.result (g.I.ReadAt.image c.args.image.now)
    (g.I.ReadAt.fails c.args.image.now) c.args.offset c.read_range-answer.new.buf c.len.result c.len.ensures
    c.len-len.ensures.value c.read_range-answer.result c.read_range-answer.ensures).0

pub returns-then-is_err-clause-failed : goal.returns-then-is_err-clause-failed
returns-then-is_err-clause-failed g c =
    let volume = c.args.self.now in
    rw (← c.read_range-answer.auto.buf)
    ((range_ends volume.segment (cipher_of volume) c.len-len.result (g.I.ReadAt.image c.args.image.now)
    (g.I.ReadAt.fails c.args.image.now) c.args.offset c.read_range-answer.new.buf c.len.result c.len.ensures
    c.len-len.ensures.value c.read_range-answer.result c.read_range-answer.ensures).2)
