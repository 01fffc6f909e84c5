use Rattle.std.proofs.Common.{◌≡◌, ℕ, ◌+◌, ◌^◌, ◌<◌, List, ◌++◌, length, take}
use Rattle.luks_argon2.specs.Hashing.{hasher_after}
use Rattle.luks_argon2.proofs.hashing.Hasher.update.Given as goal

abbrev pub invariant-bytes : goal.invariant-bytes
invariant-bytes l = (n : ℕ) → (m : List ℕ) → l.fn.self ≡ hasher_after n m → length m + length l.bytes < 2 ^ 64
    → l.self ≡ hasher_after n (m ++ take l.i l.bytes)
