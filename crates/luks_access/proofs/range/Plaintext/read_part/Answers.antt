use Rattle.std.proofs.Common.{sym, subst}
use Rattle.luks_access.specs.Opens.{cipher_of}
use Rattle.luks_access.specs.Sectors.{ReadsRange}
use Rattle.luks_access.proofs.range.Plaintext.read_part.Goals as goal

pub returns : goal.returns
returns g c = λ offset count is.
    let plain = c.args.self.now in
    subst (ReadsRange plain.volume.now.segment (cipher_of plain.volume.now) plain.len
    (g.I.ReadAt.image plain.image.now) (g.I.ReadAt.fails plain.image.now) offset c.read_step-answer.result)
    (sym c.copy_from_slice.ensures.after) (c.read_step-answer.ensures offset count is)
