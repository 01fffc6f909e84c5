use Rattle.std.proofs.Common.{◌∙◌, ◌++◌, drop, length, length-append, arith, sym, subst}
use Rattle.std.proofs.lemmas.List.{length-take-le, take_at}
use Rattle.luks_payload.specs.Plain.{plain_of}
use Rattle.luks_access.specs.Opens.{cipher_of}
use Rattle.luks_access.specs.Sectors.{IsRangeOf}
use Rattle.luks_access.proofs.RangeLemmas.{reads_more}
use Rattle.luks_access.proofs.range.Plaintext.read_next.Goals as goal

pub returns-in-Ok-clause-ok : goal.returns-in-Ok-clause-ok
returns-in-Ok-clause-ok g c = λ known there all.
    let volume = c.args.self.now.volume.now in
    let step = c.in-Some.step in
    let buf = c.args.buf.now in
    let is = (rw c.segment.ensures at c.in-Some.ensures).1.next c.requires.some in
    let long = c.read_given.auto.buf ∙ length-take-le step.count buf is.few in
    subst (IsRangeOf (plain_of volume.segment (cipher_of volume) known) c.args.offset)
    (sym (take_at c.read_given.new.buf (drop step.count buf) step.count long))
    (c.in-Ok.ensures c.args.offset (length buf) is known there all)

pub returns-in-Err-clause-err : goal.returns-in-Err-clause-err
returns-in-Err-clause-err g c =
    let plain = c.args.self.now in
    let step = c.in-Some.step in
    let buf = c.args.buf.now in
    let is = (rw c.segment.ensures at c.in-Some.ensures).1.next c.requires.some in
    let given = c.read_given.new.buf in
    reads_more plain.volume.now.segment (cipher_of plain.volume.now) plain.len (g.I.ReadAt.image plain.image.now)
    (g.I.ReadAt.fails plain.image.now) c.args.offset c.args.offset c.in-Err.fault given
    (given ++ drop step.count buf) (omega arith) (omega (arith, length-append given (drop step.count buf)))
    (c.in-Err.ensures c.args.offset (length buf) is)
