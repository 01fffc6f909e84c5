use Rattle.std.proofs.Common.{◌∙◌, ◌++◌, ap, arith}
use Rattle.luks_kdf.specs.Hash.{hash_of}
use Rattle.luks_kdf.specs.declared.hash.Hash.TheVariants.{Sha256}
use Rattle.luks_kdf.proofs.BytesLemmas.{take_prefix}
use Rattle.luks_volume.proofs.luks2.headers.checksum_of.Goals as goal

pub returns : goal.returns
returns c =
    let zeros = c.deref.ensures.value ∙ c.in_ok-zeros.ensures in
    take_prefix _ _ _ (omega arith)
    ∙ (c.digest.ensures ∙ ap (λ z. hash_of Sha256 (c.args.fields.now ++ z ++ c.args.rest.now)) zeros)
