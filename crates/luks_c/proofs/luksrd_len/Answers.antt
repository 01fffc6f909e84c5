use Rattle.luks_c.proofs.StoredLemmas.{len_for}
use Rattle.luks_c.proofs.luksrd_len.Goals as goal

pub returns-clause-stored : goal.returns-clause-stored
returns-clause-stored c v image stored long =
    len_for c.args.volume.now v stored c.in-Some.sector_size c.in-Some-size.size image c.args.image_len
    c.plaintext_len.result c.in-Some.ensures c.in-Some-size.ensures long c.plaintext_len.ensures.value
