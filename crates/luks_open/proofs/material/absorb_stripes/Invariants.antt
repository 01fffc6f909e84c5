use Rattle.std.proofs.Common.{◌≡◌, ◌+◌, ◌*◌, ◌++◌, ℕ, List, length, take}
use Rattle.luks_kdf.specs.declared.hash.Hash.{Hash}
use Rattle.luks_kdf.specs.Stripes.{splitter_after}
use Rattle.luks_open.proofs.material.absorb_stripes.Given as goal

-- the stripes before number i are absorbed
abbrev pub invariant-stripes : goal.invariant-stripes
invariant-stripes l = record {
  len : length l.splitter.block ≡ l.len;
  absorbed : (hash : Hash) (before : List ℕ) (number : ℕ) → length before ≡ number * l.len
      → l.initial.splitter ≡ splitter_after hash l.len before number
      → l.splitter ≡ splitter_after hash l.len (before ++ take (l.i * l.len) l.stripes) (number + l.i);
}
