-- What a hasher holds of a message that it absorbs piece by piece.
use Rattle.std.specs.Prelude.{ℕ, ◌*◌, List}
use Rattle.luks_argon2.specs.Blake2b.{blocks_before_last, hash_after, message_rest}

-- the value of a `Hasher`: h after the blocks so far but for the last, how many bytes these blocks have, and the bytes
-- of the last one
pub record HasherModel : Type 0 where
  pub hash : List ℕ
  pub count : ℕ
  pub rest : List ℕ

-- the value of a hasher for digests of n bytes that has absorbed this message
abbrev pub hasher_after : ℕ → List ℕ → HasherModel
hasher_after n m = record {
  hash = hash_after n m (blocks_before_last m);
  count = 128 * blocks_before_last m;
  rest = message_rest m;
}
