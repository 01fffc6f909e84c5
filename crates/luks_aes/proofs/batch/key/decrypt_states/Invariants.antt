use Rattle.std.proofs.Common.{◌≡◌, ℕ, ◌-◌, ◌≤◌, List}
use Rattle.luks_aes.specs.Aes.{key_expansion, rounds_of, inv_state_after}
use Rattle.luks_aes.specs.Bytes.{IsBytes}
use Rattle.luks_aes.specs.Blocks.{RepresentStates, RepresentRotated}
use Rattle.luks_aes.specs.RoundKeys.{IsBatchKey}
use Rattle.luks_aes.proofs.batch.key.decrypt_states.Given as goal

-- the states are those after the inverse rounds so far and after InvShiftRows of the next round
abbrev pub invariant-loop-round : goal.invariant-loop-round
invariant-loop-round g l = record {
  some : 1 ≤ l.round;
  hold : (key : List ℕ) (s : ℕ → List ℕ) → IsBatchKey key l.keys
      → l.rounds ≡ rounds_of key → IsBytes key → ((m : ℕ) → IsBytes (s m)) → RepresentStates s 0 l.fn.state
      → RepresentRotated (λ m. inv_state_after (s m) l.rounds (key_expansion key) (l.rounds - l.round)) l.state;
}
