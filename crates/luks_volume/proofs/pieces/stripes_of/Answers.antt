use Rattle.std.proofs.Common.{◌∙◌, ◌-◌, arith, refl}
use Rattle.luks_kdf.proofs.BytesLemmas.{take_prefix}
use Rattle.luks_kdf.proofs.StripesLemmas.{IsSplit-unique}
use Rattle.luks_volume.specs.Pieces.{stripes_of}
use Rattle.luks_volume.proofs.pieces.stripes_of.Goals as goal

pub af_split-requires-clause-out : goal.af_split-requires-clause-out
af_split-requires-clause-out c =
    (c.args.count, c.requires.least, c.requires.most, omega (arith, c.in_ok-stripes.ensures.len))

pub returns : goal.returns
unfolding stripes_of
returns c =
    let key = c.args.key.now in
    let random = c.args.random.now in
    take_prefix _ _ _ (omega arith)
    ∙ IsSplit-unique c.args.hash random key _ (stripes_of c.args.hash key c.args.count random) (omega arith)
    c.af_split.ensures.split (c.args.count - 1, c.requires.random, refl)
