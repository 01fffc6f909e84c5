use Rattle.std.proofs.Common.{arith, subst}
use Rattle.std.proofs.lemmas.List.{take_all}
use Rattle.luks_access.specs.Opens.{cipher_of}
use Rattle.luks_access.specs.Sectors.{ReadsRange}
use Rattle.luks_access.proofs.range.Plaintext.read_given.Goals as goal

pub returns-then-step : goal.returns-then-step
returns-then-step g c = λ offset count is.
    let plain = c.args.self.now in
    subst (ReadsRange plain.volume.now.segment (cipher_of plain.volume.now) plain.len
    (g.I.ReadAt.image plain.image.now) (g.I.ReadAt.fails plain.image.now) offset c.read_step.result)
    (take_all c.args.step.now.count c.read_step.new.bytes (omega (arith, c.requires.given, c.read_step.auto.bytes)))
    (c.read_step.ensures offset count is)
