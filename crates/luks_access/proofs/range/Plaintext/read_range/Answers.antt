use Rattle.std.proofs.Common.{◌≡◌, ◌+◌, ◌-◌, ◌≤◌, length, length-drop, take, drop, Ok, arith, refl, subst, sym}
use Rattle.std.proofs.lemmas.List.{length-take, length-take-le, take_all}
use borrow.Rule.Slice.PartMut.{put_mid, same_len_mid}
use Rattle.luks_access.specs.Opens.{cipher_of}
use Rattle.luks_access.specs.Sectors.{ReadsRange}
use Rattle.luks_access.proofs.RangeLemmas.{read_on, reads_more, reads_next}
use Rattle.luks_access.proofs.range.Plaintext.read_range.Goals as goal

pub steps-init : goal.steps-init
steps-init g c = record { few = omega arith; reads = λ known there all. refl }

pub steps-preserved : goal.steps-preserved
steps-preserved g c =
    let plain = c.args.self.now in
    let before = c.steps.invariant in
    let done = c.steps.done in
    let buf = c.steps.buf in
    let new = c.read_next.new.buf in
    let left = length buf - done in
    let long : length new ≡ left =
    omega (arith, c.read_next.auto.buf, length-take left (drop done buf), length-drop done buf)
    in
    let most : c.in-Ok.count ≤ length new = omega (arith, c.in-Ok.ensures.most, c.read_next.auto.buf) in
    record {
      few = omega (arith, same_len_mid done left buf new c.read_next.auto.buf, long, most);
      reads = subst (ReadsRange plain.volume.now.segment (cipher_of plain.volume.now) plain.len
          (g.I.ReadAt.image plain.image.now) (g.I.ReadAt.fails plain.image.now) c.args.offset (Ok tt))
          (sym (read_on buf new done c.in-Ok.count before.few long most))
          (reads_next plain.volume.now.segment (cipher_of plain.volume.now) plain.len
          (g.I.ReadAt.image plain.image.now) (g.I.ReadAt.fails plain.image.now) c.args.offset (take done buf) new done
          c.in-Ok.count (length-take-le done buf before.few) (length-take-le c.in-Ok.count new most) before.reads
          c.in-Ok.ensures.ok);
    }

pub returns-in-Err : goal.returns-in-Err
returns-in-Err g c =
    let plain = c.args.self.now in
    let done = c.steps.done in
    let buf = c.steps.buf in
    let new = c.read_next.new.buf in
    let left = length buf - done in
    reads_more plain.volume.now.segment (cipher_of plain.volume.now) plain.len (g.I.ReadAt.image plain.image.now)
    (g.I.ReadAt.fails plain.image.now) (c.args.offset + done) c.args.offset c.in-Err.fault new
    (put_mid done left buf new) (omega arith)
    (omega (
      arith,
      same_len_mid done left buf new c.read_next.auto.buf,
      c.read_next.auto.buf,
      length-take left (drop done buf),
      length-drop done buf,
    ))
    c.in-Err.ensures.err

pub returns : goal.returns
returns g c =
    let plain = c.args.self.now in
    subst (ReadsRange plain.volume.now.segment (cipher_of plain.volume.now) plain.len
    (g.I.ReadAt.image plain.image.now) (g.I.ReadAt.fails plain.image.now) c.args.offset (Ok tt))
    (take_all c.steps.done c.steps.buf (omega arith)) c.steps.invariant.reads
