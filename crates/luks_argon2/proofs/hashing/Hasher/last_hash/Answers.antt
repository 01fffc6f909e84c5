use Rattle.std.proofs.Common.{◌≡◌, ◌∙◌, refl, arith, length, length-take, take}
use Rattle.luks_argon2.proofs.hashing.Hasher.last_hash.Goals as goal

pub returns : goal.returns
returns c =
    let rest = take c.self.inside.used c.self.inside.block in
    let size : length rest ≡ c.self.inside.used = omega (arith, length-take c.self.inside.used c.self.inside.block) in
    rw (← c.self.view_is) (c.compress.ensures ∙ rw (c.load_words-words.ensures, c.padded_block.ensures, size) refl)
