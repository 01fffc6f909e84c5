use Rattle.std.proofs.Common.{◌∙◌, refl}
use Rattle.luks_argon2.specs.Blake2b.{blake2b}
use Rattle.luks_argon2.proofs.HashingLemmas.{length_of_rest}
use Rattle.luks_argon2.proofs.hashing.Hasher.finish.Goals as goal

pub returns : goal.returns
unfolding blake2b
returns c = λ m is small.
    c.copy_from_slice.ensures.after
    ∙ rw (c.store_words.ensures, c.last_hash-hash.ensures, is, length_of_rest m small) refl
