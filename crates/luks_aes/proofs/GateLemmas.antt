-- Gates on words: truth tables of the bits of bytes and of the inverse S-box.
use Rattle.std.proofs.Common.{◌≡◌, ℕ, ◌+◌, ◌%◌, ◌<◌, true, eqb, List, [], ◌∷◌, min, max, arith, refl, sym, ap, ◌∙◌}
use Rattle.std.specs.Prelude.{slice_index}
use Rattle.std.specs.Int.{bit_at}
use Rattle.std.specs.Int.Bits.{bit_xor, bit_and, bit_or}
use Rattle.std.proofs.lemmas.Nat.Bits.{bit_at_xor, bit_at_and, bit_at_or}
use Rattle.std.proofs.lemmas.Bool.{agree_below}
use Rattle.luks_aes.specs.Field.{◌⊕◌}
use Rattle.luks_aes.specs.Aes.{inv_sbox}
use Rattle.luks_aes.proofs.Bytes.{same_below, each_below_8, listed_below_8, inv_sbox_entry, inv_sbox_byte}
use Rattle.luks_aes.proofs.Bytes.{inv_sbox_in_table}
use Rattle.luks_aes.proofs.ColumnLemmas.{xor_byte}
use Rattle.luks_aes.specs.BitPlanes.{HasTruthTable, HoldBytes}

-- ---- truth tables

gate_table : (op bit : ℕ → ℕ → ℕ) → ((a b k : ℕ) → bit_at (op a b) k ≡ bit (bit_at a k) (bit_at b k))
    → {y : ℕ → ℕ} {b c r f g : ℕ} → HasTruthTable y b f → HasTruthTable y c g → r ≡ op b c
    → HasTruthTable y r (op f g)
gate_table op bit law {y} {b} {c} {r} {f} {g} first second is = record {
  at = λ k low. ap (λ n. bit_at n k) is
      ∙ law b c k
      ∙ (λ i. bit (first.at k low i) (second.at k low i))
      ∙ sym (law f g (y k));
}

pub xor_table : {y : ℕ → ℕ} {b c r f g : ℕ} → HasTruthTable y b f → HasTruthTable y c g → r ≡ bit_xor b c
    → HasTruthTable y r (bit_xor f g)
xor_table = gate_table bit_xor (λ a b. (a + b) % 2) bit_at_xor

pub and_table : {y : ℕ → ℕ} {b c r f g : ℕ} → HasTruthTable y b f → HasTruthTable y c g → r ≡ bit_and b c
    → HasTruthTable y r (bit_and f g)
and_table = gate_table bit_and min bit_at_and

pub or_table : {y : ℕ → ℕ} {b c r f g : ℕ} → HasTruthTable y b f → HasTruthTable y c g → r ≡ bit_or b c
    → HasTruthTable y r (bit_or f g)
or_table = gate_table bit_or max bit_at_or

pub andn_table : {y : ℕ → ℕ} {b c r f g : ℕ} → HasTruthTable y b f → HasTruthTable y c g
    → r ≡ bit_xor (bit_and b c) c
    → HasTruthTable y r (bit_xor (bit_and f g) g)
andn_table first second is = xor_table (and_table first second refl) second is

-- ---- the truth tables of the bits of bytes

-- table j holds bit j of g b for each byte b
abbrev IsTable : (ℕ → ℕ) → (ℕ → ℕ) → ℕ → Type 0
IsTable tables g j = agree_below (λ b. eqb (bit_at (tables j) b) (bit_at (g b) j)) (λ b. true) 256 ≡ true

table_bit : (tables g : ℕ → ℕ) → ((j : ℕ) → j < 8 → IsTable tables g j) → (j b : ℕ) → j < 8 → b < 256
    → bit_at (tables j) b ≡ bit_at (g b) j
table_bit tables g computed j b low fits =
    same_below (bit_at (tables j)) (λ b. bit_at (g b) j) 256 (computed j low) b fits

-- the tables of the bits of a byte
abbrev pub plane_table : ℕ → ℕ
plane_table j =
    slice_index
    (0xaaaaaaaaaaaaaaaaaaaaaaaaaaaaaaaaaaaaaaaaaaaaaaaaaaaaaaaaaaaaaaaa
    ∷ 0xcccccccccccccccccccccccccccccccccccccccccccccccccccccccccccccccc
    ∷ 0xf0f0f0f0f0f0f0f0f0f0f0f0f0f0f0f0f0f0f0f0f0f0f0f0f0f0f0f0f0f0f0f0
    ∷ 0xff00ff00ff00ff00ff00ff00ff00ff00ff00ff00ff00ff00ff00ff00ff00ff00
    ∷ 0xffff0000ffff0000ffff0000ffff0000ffff0000ffff0000ffff0000ffff0000
    ∷ 0xffffffff00000000ffffffff00000000ffffffff00000000ffffffff00000000
    ∷ 0xffffffffffffffff0000000000000000ffffffffffffffff0000000000000000
    ∷ 0xffffffffffffffffffffffffffffffff00000000000000000000000000000000 ∷ [])
    j

plane_bits : (j b : ℕ) → j < 8 → b < 256 → bit_at (plane_table j) b ≡ bit_at b j
plane_bits =
    table_bit plane_table (λ b. b)
    (each_below_8 (λ j. IsTable plane_table (λ b. b) j) refl refl refl refl refl refl refl refl)

abbrev HasPlane : (ℕ → ℕ) → List ℕ → ℕ → Type 0
HasPlane y x j = HasTruthTable y (slice_index x j) (plane_table j)

plane_has_table : (y : ℕ → ℕ) (x : List ℕ) → HoldBytes y x → (j : ℕ) → j < 8 → HasPlane y x j
plane_has_table y x is j below =
    record { at = λ k low. is.at j k below low ∙ sym (plane_bits j (y k) below (is.bytes k)) }

pub planes_have_tables : (y : ℕ → ℕ) (x : List ℕ) → HoldBytes y x
    → HasPlane y x 0 × HasPlane y x 1 × HasPlane y x 2 × HasPlane y x 3
    × HasPlane y x 4 × HasPlane y x 5 × HasPlane y x 6 × HasPlane y x 7
planes_have_tables y x is = listed_below_8 (λ j. HasPlane y x j) (plane_has_table y x is)

-- the tables of the bits of the inverse S-box of a byte with 0x63 XORed into it
abbrev pub value_table : ℕ → ℕ
value_table j =
    slice_index
    (0x66f01ac744211cfdddd7997ddd4cf62332f6fa25f5422334e5e0c000df616922
    ∷ 0x3a893fd82dc7bf0a9322946901fdc6c256f57b4a4e15f9e58b10309a75f35832
    ∷ 0xf2fe6be0518e2da83d52b06cb27b01a1cd78296198251e9affc8ef9306673dc0
    ∷ 0xb54403b8ed2bf9d27bb3318e34852fc374ea1916c5cc5d1468fa836436e782d6
    ∷ 0xe62adc2ebd6e7487a3c61f1d92e9633248aa79d92c50421f2db5ba3e424aca6c
    ∷ 0x5fe7f458913aae451e4ba8135dd517fe286e5af29ab748b580ec644f1644cc42
    ∷ 0x7d82b7f1f7ed0a2d562e31249d615c25f32c740bad41fc4c0bdfcb4f18882e24
    ∷ 0x2ddcef345fc8a434f54168a608a0aebcf4b5fb2162526ac2f0f03da62e89ccee ∷ [])
    j

value_bits : (j b : ℕ) → j < 8 → b < 256 → bit_at (value_table j) b ≡ bit_at (inv_sbox_in_table (b ⊕ 0x63)) j
value_bits =
    table_bit value_table (λ b. inv_sbox_in_table (b ⊕ 0x63))
    (each_below_8 (λ j. IsTable value_table (λ b. inv_sbox_in_table (b ⊕ 0x63)) j) refl refl refl refl refl refl refl
    refl)

value_plane : (y : ℕ → ℕ) → ((k : ℕ) → y k < 256) → (j : ℕ) → j < 8 → {b : ℕ} → HasTruthTable y b (value_table j)
    → (k : ℕ) → k < 64 → bit_at b k ≡ bit_at (inv_sbox (y k ⊕ 0x63)) j
value_plane y bytes j below is k low =
    is.at k low ∙ value_bits j (y k) below (bytes k)
    ∙ ap (λ n. bit_at n j) (inv_sbox_entry (y k ⊕ 0x63) (xor_byte (y k) 0x63 (bytes k) (omega arith)))

pub held_inv_sub_bytes : (y : ℕ → ℕ) → ((k : ℕ) → y k < 256) → {a b c d e f g h : ℕ}
    → HasTruthTable y a (value_table 0) → HasTruthTable y b (value_table 1) → HasTruthTable y c (value_table 2)
    → HasTruthTable y d (value_table 3) → HasTruthTable y e (value_table 4) → HasTruthTable y f (value_table 5)
    → HasTruthTable y g (value_table 6) → HasTruthTable y h (value_table 7)
    → HoldBytes (λ k. inv_sbox (y k ⊕ 0x63)) (a ∷ b ∷ c ∷ d ∷ e ∷ f ∷ g ∷ h ∷ [])
held_inv_sub_bytes y bytes {a} {b} {c} {d} {e} {f} {g} {h} p0 p1 p2 p3 p4 p5 p6 p7 = record {
  bytes = λ k. inv_sbox_byte (y k ⊕ 0x63) (xor_byte (y k) 0x63 (bytes k) (omega arith));
  at = λ j k low small.
      each_below_8 (λ n. (m : ℕ) → m < 64 → bit_at (slice_index (a ∷ b ∷ c ∷ d ∷ e ∷ f ∷ g ∷ h ∷ []) n) m
      ≡ bit_at (inv_sbox (y m ⊕ 0x63)) n)
      (value_plane y bytes 0 (omega arith) p0) (value_plane y bytes 1 (omega arith) p1)
      (value_plane y bytes 2 (omega arith) p2) (value_plane y bytes 3 (omega arith) p3)
      (value_plane y bytes 4 (omega arith) p4) (value_plane y bytes 5 (omega arith) p5)
      (value_plane y bytes 6 (omega arith) p6) (value_plane y bytes 7 (omega arith) p7) j low k small;
}
