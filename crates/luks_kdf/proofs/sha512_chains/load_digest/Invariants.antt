use Rattle.std.proofs.Common.{◌≡◌, ℕ, ◌*◌, ◌<◌, length}
use Rattle.std.specs.Prelude.{slice_index}
use Rattle.sha2.specs.Sha512.{word_at}
use Rattle.luks_kdf.proofs.sha512_chains.load_digest.Given as goal

-- the words before number k are read
abbrev pub invariant-words : goal.invariant-words
invariant-words g l = (length l.words ≡ 8) × ((i : ℕ) → i < l.k → slice_index l.words i ≡ word_at l.digest (8 * i))
