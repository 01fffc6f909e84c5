-- A hasher that absorbs the fields of H_0.
use Rattle.std.proofs.Common.{◌≡◌, ℕ, ◌+◌, ◌^◌, ◌<◌, ◌≤◌, List, ◌++◌, length, length-append, arith}
use Rattle.luks_argon2.specs.Blake2b.{blake2b}
use Rattle.luks_argon2.specs.Hashing.{HasherModel, hasher_after}
use Rattle.luks_argon2.specs.Words.{le32}

-- the hasher has absorbed this message, which has no more than k bytes
pub record HasAbsorbed (h : HasherModel) (m : List ℕ) (k : ℕ) : Type 0 where
  pub is : h ≡ hasher_after 64 m
  pub short : length m ≤ k

pub absorbs_number : (h after : HasherModel) (m : List ℕ) (x k : ℕ) → HasAbsorbed h m k → k + 4 < 2 ^ 64
    → ((n : ℕ) → (m : List ℕ) → h ≡ hasher_after n m → length m + 4 < 2 ^ 64 → after ≡ hasher_after n (m ++ le32 x))
    → HasAbsorbed after (m ++ le32 x) (k + 4)
absorbs_number h after m x k so_far fits clause = record {
  is = clause 64 m so_far.is (omega (arith, so_far.short));
  short = omega (arith, so_far.short, length-append m (le32 x));
}

pub absorbs_field : (h after : HasherModel) (m bytes : List ℕ) (k : ℕ) → HasAbsorbed h m k → k + 2 ^ 33 < 2 ^ 64
    → length bytes < 2 ^ 32
    → ((n : ℕ) → (m : List ℕ) → h ≡ hasher_after n m → length m + 2 ^ 33 < 2 ^ 64
    → after ≡ hasher_after n (m ++ le32 (length bytes) ++ bytes))
    → HasAbsorbed after (m ++ le32 (length bytes) ++ bytes) (k + 2 ^ 33)
absorbs_field h after m bytes k so_far fits few clause = record {
  is = clause 64 m so_far.is (omega (arith, so_far.short));
  short =
      let prefix = m ++ le32 (length bytes) in
      omega (arith, so_far.short, length-append prefix bytes, length-append m (le32 (length bytes)));
}

pub digest_of_absorbed : (h : HasherModel) (out m : List ℕ) (k : ℕ) → HasAbsorbed h m k → k < 2 ^ 64
    → ((m : List ℕ) → h ≡ hasher_after 64 m → length m < 2 ^ 64 → out ≡ blake2b 64 m) → out ≡ blake2b 64 m
digest_of_absorbed h out m k all fits clause = clause m all.is (omega (arith, all.short))
