-- Chains of digests, each the HMAC of the one before it (RFC 2104, section 2), by the key's two blocks.
use Rattle.std.specs.Prelude.{ℕ, zero, suc, ◌*◌, List, ◌++◌, bit_xor, drop, map, slice_index, take}
use Rattle.std.specs.List.{range_with_len}
use Rattle.std.specs.Simd.Lanes.{zip2}

-- H(outer || H(inner || text)), where H is `hash`
unfoldable pub hmac_by : (List ℕ → List ℕ) → List ℕ → List ℕ → List ℕ → List ℕ
hmac_by hash inner outer text = hash (outer ++ hash (inner ++ text))

-- the digest n steps of the chain after the digest u
unfoldable pub chain : (List ℕ → List ℕ) → List ℕ → List ℕ → List ℕ → ℕ → List ℕ
chain hash inner outer u zero = u
chain hash inner outer u (suc n) = hmac_by hash inner outer (chain hash inner outer u n)

-- t with the next n digests after u XORed into it
unfoldable pub chain_xor : (List ℕ → List ℕ) → List ℕ → List ℕ → List ℕ → List ℕ → ℕ → List ℕ
chain_xor hash inner outer u t zero = t
chain_xor hash inner outer u t (suc n) =
    zip2 bit_xor (chain_xor hash inner outer u t n) (chain hash inner outer u (suc n))

-- digest j of digests of `size` bytes each that follow one another
abbrev pub digest_at : ℕ → ℕ → List ℕ → List ℕ
digest_at size j bytes = take size (drop (size * j) bytes)

-- ---- the same on the words of digests: `after_digest h d` is the hash value after one block and the digest whose
-- ---- words are d, if it was h after the block

-- the words of the digest after n more iterations: each is the HMAC of the one before, by the hash values inner and
-- outer of the key's two blocks
unfoldable pub iterations : (List ℕ → List ℕ → List ℕ) → List ℕ → List ℕ → List ℕ → ℕ → List ℕ
iterations after_digest inner outer d zero = d
iterations after_digest inner outer d (suc n) =
    after_digest outer (after_digest inner (iterations after_digest inner outer d n))

-- the XOR of the first n words of two digests
unfoldable pub xor_words : ℕ → List ℕ → List ℕ → List ℕ
xor_words n x y = map (λ (k : ℕ). bit_xor (slice_index x k) (slice_index y k)) (range_with_len 0 n)

-- the m words t with the words of the next n digests XORed into them
unfoldable pub iterations_xor : ℕ → (List ℕ → List ℕ → List ℕ) → List ℕ → List ℕ → List ℕ → List ℕ → ℕ → List ℕ
iterations_xor m after_digest inner outer d t zero = t
iterations_xor m after_digest inner outer d t (suc n) =
    xor_words m (iterations_xor m after_digest inner outer d t n) (iterations after_digest inner outer d (suc n))
