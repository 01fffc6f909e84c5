use Rattle.std.proofs.Common.{◌≡◌, List, ℕ}
use Rattle.luks_kdf.specs.Chains.{chain, chain_xor}
use Rattle.luks_kdf.specs.Hash.{hash_of}
use Rattle.luks_kdf.proofs.lanes.xor_more.Given as goal

-- `counter` more digests are XORed into `xors`, and `u` is the last of them
abbrev pub invariant-iterations : goal.invariant-iterations
invariant-iterations g l =
    (inner outer : List ℕ) → g.E.Engine.holds l.keyed.inner inner → g.E.Engine.holds l.keyed.outer outer
    → (l.u ≡ chain (hash_of g.E.Engine.function) inner outer l.fn.u l.counter)
    × (l.xors ≡ chain_xor (hash_of g.E.Engine.function) inner outer l.fn.u l.fn.xors l.counter)
