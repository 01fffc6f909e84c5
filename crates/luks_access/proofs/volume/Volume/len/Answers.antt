use Rattle.luks_access.proofs.RangeLemmas.{plaintext_length}
use Rattle.luks_access.proofs.volume.Volume.len.Goals as goal

pub returns-clause-value : goal.returns-clause-value
returns-clause-value c = rw (← c.self.view_is) (λ image long.
    let inside = c.self.inside.unlocked in
    plaintext_length inside.segment (inside.segment.mode, inside.key) image c.args.image_len
    c.plaintext_len.result long c.plaintext_len.ensures.value)
