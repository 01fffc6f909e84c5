-- How a bitsliced state represents the states of the blocks of a batch.
use Rattle.std.specs.Prelude.{ℕ, ◌+◌, ◌*◌, ◌/◌, ◌%◌, List, take, drop, slice_index}
use Rattle.luks_aes.specs.Field.{◌⊕◌}
use Rattle.luks_aes.specs.Aes.{cell, state_of}
use Rattle.luks_aes.specs.BitPlanes.{rotated_index}
use Rattle.luks_aes.specs.Words.{GroupsHold}
use Rattle.luks_aes.specs.declared.batch.state.BitslicedState.{BitslicedState}

-- block m of a batch
abbrev pub block_in : List ℕ → ℕ → List ℕ
block_in batch m = take 16 (drop (16 * m) batch)

-- the XOR of two blocks
abbrev pub xored_blocks : List ℕ → List ℕ → List ℕ
xored_blocks a b = state_of (λ r c. cell a r c ⊕ cell b r c)

-- block m of a batch, XORed with that of a mask
abbrev pub masked_block : List ℕ → List ℕ → ℕ → List ℕ
masked_block batch mask m = xored_blocks (block_in batch m) (block_in mask m)

-- byte i of that block
abbrev pub masked_byte : List ℕ → List ℕ → ℕ → ℕ → ℕ
masked_byte batch mask m i = slice_index batch (16 * m + i) ⊕ slice_index mask (16 * m + i)

-- the byte of group g in row r at bit q, with k XORed into it, if each block m has the state s m
abbrev pub state_byte : (ℕ → List ℕ) → ℕ → ℕ → ℕ → ℕ → ℕ
state_byte s k g r q = cell (s (16 * g + q % 16)) r (q / 16) ⊕ k

-- `x` represents the states s m of the blocks, with k XORed into each byte
pub record RepresentStates {n : ℕ} (s : ℕ → List ℕ) (k : ℕ) (x : BitslicedState n) : Type 0 where
  pub bytes : GroupsHold (state_byte s k) x

-- `x` represents these states after InvShiftRows, with 0x63 XORed into each byte
pub record RepresentRotated {n : ℕ} (s : ℕ → List ℕ) (x : BitslicedState n) : Type 0 where
  pub bytes : GroupsHold (λ g r q. state_byte s 0x63 g r (rotated_index r q)) x
