use Rattle.std.proofs.Common.{refl}
use Rattle.luks_aes.specs.Columns.{bytes_of_words}
use Rattle.luks_aes.proofs.columns.bytes_of.Goals as goal

pub returns : goal.returns
unfolding bytes_of_words
returns c =
    let a = c.to_le_bytes-a.ensures in
    let b = c.to_le_bytes-b.ensures in
    let third = c.to_le_bytes-c.ensures in
    let d = c.to_le_bytes-d.ensures in
    rw (a, b, third, d) refl
