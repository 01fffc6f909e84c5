use Rattle.std.proofs.Common.{◌≡◌, ◌*◌, length, take}
use Rattle.luks_argon2.specs.Words.{le64_bytes}
use Rattle.luks_argon2.proofs.words.store_words.Given as goal

abbrev pub invariant-words : goal.invariant-words
invariant-words l = (length l.bytes ≡ 8 * length l.words) × (take (8 * l.i) l.bytes ≡ le64_bytes (take l.i l.words))
