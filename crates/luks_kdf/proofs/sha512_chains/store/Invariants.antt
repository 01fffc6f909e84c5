use Rattle.std.proofs.Common.{◌≡◌, ◌*◌, take}
use Rattle.sha2.specs.Sha512.{digest_bytes}
use Rattle.luks_kdf.proofs.sha512_chains.store.Given as goal

-- the words before number i are written
abbrev pub invariant-words : goal.invariant-words
invariant-words g l = take (8 * l.i) l.out ≡ digest_bytes l.x l.i
