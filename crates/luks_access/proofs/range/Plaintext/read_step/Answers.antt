use Rattle.std.proofs.Common.{◌∙◌, length-take-le, take, arith}
use Rattle.luks_access.specs.Opens.{cipher_of}
use Rattle.luks_access.proofs.RangeLemmas.{step_reads, step_stops, step_stored}
use Rattle.luks_access.proofs.range.Plaintext.read_step.Goals as goal

pub returns-in-Err : goal.returns-in-Err
returns-in-Err g c = λ offset count is.
    let plain = c.args.self.now in
    let step = c.args.step.now in
    let long = c.read_at.auto.buf ∙ c.requires.long in
    rw c.from.ensures
    (step_stops plain.volume.now.segment (cipher_of plain.volume.now) plain.len (g.I.ReadAt.image plain.image.now)
    (g.I.ReadAt.fails plain.image.now) offset count step is c.in-Err.fault c.read_at.new.buf
    (take step.count c.read_at.new.buf) long
    (length-take-le step.count c.read_at.new.buf (omega (arith, long, is.within)))
    c.in-Err.ensures.failed c.in-Err.ensures.ended)

pub returns-in-Ok : goal.returns-in-Ok
returns-in-Ok g c = λ offset count is known there all.
    let plain = c.args.self.now in
    let step = c.args.step.now in
    let volume = plain.volume.now in
    let image = g.I.ReadAt.image plain.image.now in
    let fails = g.I.ReadAt.fails plain.image.now in
    let long = c.read_at.auto.buf ∙ c.requires.long in
    let read = rw c.segment.ensures at c.finish.ensures.plain in
    step_reads volume.segment (cipher_of volume) plain.len image fails offset count step is known
    (take step.count c.finish.new.bytes)
    (read volume.key known c.keys.ensures
    (step_stored volume.segment (cipher_of volume) plain.len image fails offset count step is known c.read_at.new.buf
    all long (c.in-Ok.ensures.bytes known there)))
