-- The key schedule as the code keeps it.
use Rattle.std.proofs.Common.{◌≡◌, ℕ, zero, suc, ◌+◌, ◌-◌, ◌*◌, ◌/◌, ◌≤◌, ◌<◌, List, [], ◌∷◌, length, take}
use Rattle.std.proofs.Common.{true, arith, refl, sym, ap, subst, ◌∙◌}
use Rattle.std.specs.Prelude.{IsTrue, slice_index}
use Rattle.std.proofs.lemmas.Bool.Decides.{nat_tests}
use Rattle.std.proofs.lemmas.List.{get_or-take, length-append, take_all, take-take, take-append-le}
use Rattle.luks_aes.specs.Aes.{is_aes_key_length, next_word, words_after, with_next_word, rounds_of, words_of}
use Rattle.luks_aes.specs.Aes.{key_expansion}
use Rattle.luks_aes.specs.Bytes.{IsBytes}
use Rattle.luks_aes.specs.KeySchedule.{IsScheduleOf, IsAesKey, scheduled_key}
use Rattle.luks_aes.specs.declared.key_schedule.KeySchedule.{KeySchedule}
use Rattle.luks_aes.specs.Columns.{IsMultiplied}
use Rattle.luks_aes.proofs.ColumnLemmas.{bytes_take}

pub record IsKeyLength (n : ℕ) : Type 0 where
  pub whole : 4 * (n / 4) ≡ n
  pub least : 16 ≤ n
  pub most : n ≤ 32

pub key_length : (n : ℕ) → is_aes_key_length n ≡ true → IsKeyLength n
key_length n is = record {
  whole = grind (arith, nat_tests);
  least = grind (arith, nat_tests);
  most = grind (arith, nat_tests);
}

-- the schedule with one more word
pub words_more : (nk : ℕ) (key w : List ℕ) (i : ℕ) → nk ≤ i → w ≡ words_after nk key (i - nk)
    → with_next_word nk w ≡ words_after nk key (i + 1 - nk)
unfolding words_after
words_more nk key w i from at =
    let more : i + 1 - nk ≡ suc (i - nk) = omega arith in
    rw (more, at) refl

-- a schedule starts with its key
words_length : (nk : ℕ) (key : List ℕ) (n : ℕ) → length key ≤ length (words_after nk key n)
unfolding words_after with_next_word
words_length nk key zero = omega arith
words_length nk key (suc n) =
    let before = words_length nk key n in
    let w = words_after nk key n in
    rw (length-append w (next_word nk w (length w / 4))) (omega arith)

words_begin : (nk : ℕ) (key : List ℕ) (n : ℕ) → take (length key) (words_after nk key n) ≡ key
unfolding words_after with_next_word
words_begin nk key zero = take_all (length key) key (omega arith)
words_begin nk key (suc n) =
    let w = words_after nk key n in
    take-append-le (length key) w (next_word nk w (length w / 4)) (words_length nk key n) ∙ words_begin nk key n

pub expansion_begins : (key schedule : List ℕ) → IsTrue (is_aes_key_length (length key))
    → take (16 * (rounds_of key + 1)) schedule ≡ key_expansion key → take (4 * words_of key) schedule ≡ key
unfolding key_expansion
expansion_begins key schedule is expanded =
    let lengths = key_length (length key) is in
    let nk = words_of key in
    let inside : 4 * nk ≤ 16 * (rounds_of key + 1) = omega arith in
    sym (take-take (4 * nk) (16 * (rounds_of key + 1)) schedule inside)
    ∙ ap (take (4 * nk)) expanded
    ∙ rw (lengths.whole) (words_begin nk key (4 * (rounds_of key + 1) - nk))

-- the key of a key's schedule
pub key_of_schedule : (key : List ℕ) (s : KeySchedule) → IsScheduleOf key s → scheduled_key s ≡ key
key_of_schedule key s is =
    let words : s.rounds - 6 ≡ words_of key = omega (arith, is.rounds) in
    ap (λ n. take (4 * n) s.bytes) words ∙ expansion_begins key s.bytes is.key_length is.expanded

pub expanded_is : (key : List ℕ) (s : KeySchedule) (inv_mixed : List ℕ) → IsScheduleOf key s → IsBytes s.bytes
    → IsMultiplied (14 ∷ 11 ∷ 13 ∷ 9 ∷ []) s.bytes inv_mixed 60 → IsAesKey s inv_mixed
expanded_is key s inv_mixed is bytes products = record {
  schedule = subst (λ (k : List ℕ). IsScheduleOf k s) (sym (key_of_schedule key s is)) is;
  bytes = bytes;
  products = products;
}

-- ---- an expanded key

module _ {s : KeySchedule} {inv_mixed key : List ℕ} (is : IsAesKey s inv_mixed) (view : scheduled_key s ≡ key) where
  pub schedule_is : IsScheduleOf key s
  schedule_is = subst (λ (k : List ℕ). IsScheduleOf k s) view is.schedule

  -- the round keys of a key are among the 15 that fit into a schedule
  pub round_in_schedule : (n : ℕ) → n ≤ rounds_of key → n < 15
  round_in_schedule n low =
      let most = (key_length (length key) schedule_is.key_length).most in
      omega arith

  -- the bytes of a round key in the schedule are those in the key's expansion
  pub round_byte : (n r c : ℕ) → n ≤ rounds_of key → r < 4 → c < 4
      → slice_index s.bytes (r + 4 * (4 * n + c)) ≡ slice_index (key_expansion key) (r + 4 * (4 * n + c))
  round_byte n r c low row column =
      let i = r + 4 * (4 * n + c) in
      sym (get_or-take (16 * (rounds_of key + 1)) s.bytes i 0 (omega arith))
      ∙ ap (λ l. slice_index l i) schedule_is.expanded

  -- a key consists of bytes, since it is a prefix of its schedule
  pub key_bytes : IsBytes key
  key_bytes = rw (← view) (bytes_take (4 * (s.rounds - 6)) s.bytes is.bytes)
