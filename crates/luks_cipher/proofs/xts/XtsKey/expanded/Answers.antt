use Rattle.std.proofs.Common.{◌≡◌, ◌∙◌, ℕ, ◌+◌, ◌-◌, ◌/◌, ◌⊎◌, true, List, length, take, drop, inl, inr}
use Rattle.std.proofs.Common.{length-drop, arith, rules, refl, ap}
use Rattle.std.proofs.lemmas.Bool.Decides.{nat_tests}
use Rattle.std.proofs.lemmas.List.{length-take-le}
use Rattle.luks_aes.specs.Aes.{is_aes_key_length}
use Rattle.luks_aes.specs.Bytes.{IsBytes}
use Rattle.luks_aes.proofs.ColumnLemmas.{bytes_take, bytes_drop}
use Rattle.luks_cipher.specs.Xts.{IsKeyPair, is_xts_key_length}
use Rattle.luks_cipher.proofs.xts.XtsKey.expanded.Goals as goal

-- a key of XTS is 32 or 64 bytes long
one_of_two : (n : ℕ) → is_xts_key_length n ≡ true → n ≡ 32 ⊎ n ≡ 64
one_of_two n is = grind (arith, nat_tests)

-- each half of it is a key of AES
half_length : (n half : ℕ) → is_xts_key_length n ≡ true → half ≡ n / 2 → is_aes_key_length half ≡ true
half_length n half is h = elim (one_of_two n is) [ inl e ↦ rw (h, e) refl | inr e ↦ rw (h, e) refl ]

key_pair : (key first second : List ℕ) → length key ≡ 32 ⊎ length key ≡ 64 → IsBytes key
    → first ≡ take (length key / 2) key → second ≡ drop (length key / 2) key → IsKeyPair first second
key_pair key first second long all is also =
    let a : length first ≡ length key / 2 = ap length is ∙ length-take-le (length key / 2) key (omega arith) in
    let b : length second ≡ length key - length key / 2 = ap length also ∙ length-drop (length key / 2) key in
    let sum : length first + length second ≡ length key = omega arith in
    record {
      same_length = elim long [ inl e ↦ omega arith | inr e ↦ omega arith ];
      key_length = rw sum (elim long [ inl e ↦ rw e refl | inr e ↦ rw e refl ]);
      data_bytes = rw is (bytes_take (length key / 2) key all);
      tweak_bytes = rw also (bytes_drop (length key / 2) key all);
    }

pub expanded-requires : goal.expanded-requires
expanded-requires c =
    let key = c.args.key.now in
    half_length (length key) _ c.requires
    (ap length c.split_at.ensures.front ∙ length-take-le (length key / 2) key (omega arith))

pub expanded-requires-2 : goal.expanded-requires-2
expanded-requires-2 c =
    let key = c.args.key.now in
    let rest : length key - length key / 2 ≡ length key / 2 =
    elim (one_of_two (length key) c.requires) [ inl e ↦ omega (arith, e) | inr e ↦ omega (arith, e) ] in
    half_length (length key) _ c.requires
    (ap length c.split_at.ensures.back ∙ (length-drop (length key / 2) key ∙ rest))

pub invariant_of-result : goal.invariant_of-result
invariant_of-result c =
    let split = c.split_at.ensures in
    key_pair c.args.key.now _ _ (one_of_two _ c.requires) (record { each = search rules })
    (c.expanded.ensures ∙ split.front) (c.expanded-2.ensures ∙ split.back)
