-- The words of a bitsliced state, by words and by bit planes.
use Rattle.std.proofs.Common.{◌≡◌, ◌∙◌, ℕ, ◌+◌, ◌*◌, ◌/◌, ◌<◌, List, arith, ap, inl, inr, subst, sym}
use Rattle.std.proofs.lemmas.Bool.{cases_lt}
use Rattle.std.specs.Prelude.{slice_index}
use Rattle.std.specs.Int.{bit_at}
use Rattle.luks_aes.proofs.Bytes.{each_below_4, each_below_8}
use Rattle.luks_aes.specs.BitPlanes.{IsBitPlane, HoldBytes}
use Rattle.luks_aes.specs.Words.{words_at, AreRows, AreRowsOf, GroupHolds, SameGroup}
use Rattle.luks_aes.specs.Mixing.{AreBytes}
use Rattle.luks_aes.specs.declared.batch.state.BitslicedState.{BitslicedState}

pub held_by : {y : ℕ → ℕ} {v w : List ℕ} → v ≡ w → HoldBytes y w → HoldBytes y v
held_by {y} same held = subst (λ (x : List ℕ). HoldBytes y x) (sym same) held

pub held_also : {y : ℕ → ℕ} (z : ℕ → ℕ) {v : List ℕ} → HoldBytes y v → ((q : ℕ) → z q < 256)
    → ((q : ℕ) → q < 64 → y q ≡ z q) → HoldBytes z v
held_also {y} z held bytes same = record {
  bytes = bytes;
  at = λ j q low inside. held.at j q low inside ∙ ap (λ b. bit_at b j) (same q inside);
}

-- the rows of a group are bytes
pub group_bytes : {n : ℕ} (y : ℕ → ℕ → ℕ) {g : ℕ} {x : BitslicedState n} → GroupHolds y g x → AreBytes y
group_bytes y holds = record { at = λ r q low. (holds.at r low).bytes q }

-- the rows of a group in each bit plane
abbrev pub InPlanes : {n : ℕ} → (ℕ → ℕ → ℕ) → ℕ → BitslicedState n → Type 0
InPlanes {n} y g x =
    AreRowsOf y 0 n x.plane_0.words g × AreRowsOf y 1 n x.plane_1.words g × AreRowsOf y 2 n x.plane_2.words g
    × AreRowsOf y 3 n x.plane_3.words g × AreRowsOf y 4 n x.plane_4.words g × AreRowsOf y 5 n x.plane_5.words g
    × AreRowsOf y 6 n x.plane_6.words g × AreRowsOf y 7 n x.plane_7.words g

-- the words of row r in bit plane j hold bit j of its bytes
row_plane : {n : ℕ} {y : ℕ → ℕ → ℕ} {g : ℕ} {x : BitslicedState n} → GroupHolds y g x → (r j : ℕ) → r < 4 → j < 8
    → IsBitPlane (y r) j (slice_index (words_at (n / 4 * r + g) x) j)
row_plane holds r j low plane = record { at = λ q inside. (holds.at r low).at j q plane inside }

pub in_planes : {n : ℕ} (y : ℕ → ℕ → ℕ) (g : ℕ) (x : BitslicedState n) → GroupHolds y g x → InPlanes y g x
in_planes {n} y g x holds =
    let at : (j : ℕ) → j < 8 → AreRows y j (slice_index (words_at (n / 4 * 0 + g) x) j)
    (slice_index (words_at (n / 4 * 1 + g) x) j) (slice_index (words_at (n / 4 * 2 + g) x) j)
    (slice_index (words_at (n / 4 * 3 + g) x) j) = λ j plane. record {
      row_0 = row_plane holds 0 j (omega arith) plane;
      row_1 = row_plane holds 1 j (omega arith) plane;
      row_2 = row_plane holds 2 j (omega arith) plane;
      row_3 = row_plane holds 3 j (omega arith) plane;
    } in (
      at 0 (omega arith),
      at 1 (omega arith),
      at 2 (omega arith),
      at 3 (omega arith),
      at 4 (omega arith),
      at 5 (omega arith),
      at 6 (omega arith),
      at 7 (omega arith),
    )

row_held : {n : ℕ} (y : ℕ → ℕ) (i : ℕ) (x : BitslicedState n) → ((q : ℕ) → y q < 256)
    → IsBitPlane y 0 (slice_index x.plane_0.words i) → IsBitPlane y 1 (slice_index x.plane_1.words i)
    → IsBitPlane y 2 (slice_index x.plane_2.words i) → IsBitPlane y 3 (slice_index x.plane_3.words i)
    → IsBitPlane y 4 (slice_index x.plane_4.words i) → IsBitPlane y 5 (slice_index x.plane_5.words i)
    → IsBitPlane y 6 (slice_index x.plane_6.words i) → IsBitPlane y 7 (slice_index x.plane_7.words i)
    → HoldBytes y (words_at i x)
row_held y i x bytes a b c d e f g h = record {
  bytes = bytes;
  at = λ j q low inside.
      (each_below_8 (λ k. IsBitPlane y k (slice_index (words_at i x) k)) a b c d e f g h j low).at q inside;
}

pub from_planes : {n : ℕ} (y : ℕ → ℕ → ℕ) (g : ℕ) (x : BitslicedState n) → AreBytes y → InPlanes y g x
    → GroupHolds y g x
from_planes {n} y g x all (p0, p1, p2, p3, p4, p5, p6, p7) = record {
  at = each_below_4 (λ r. HoldBytes (y r) (words_at (n / 4 * r + g) x))
      (row_held (y 0) _ x (λ q. all.at 0 q (omega arith)) p0.row_0 p1.row_0 p2.row_0 p3.row_0 p4.row_0 p5.row_0
      p6.row_0 p7.row_0)
      (row_held (y 1) _ x (λ q. all.at 1 q (omega arith)) p0.row_1 p1.row_1 p2.row_1 p3.row_1 p4.row_1 p5.row_1
      p6.row_1 p7.row_1)
      (row_held (y 2) _ x (λ q. all.at 2 q (omega arith)) p0.row_2 p1.row_2 p2.row_2 p3.row_2 p4.row_2 p5.row_2
      p6.row_2 p7.row_2)
      (row_held (y 3) _ x (λ q. all.at 3 q (omega arith)) p0.row_3 p1.row_3 p2.row_3 p3.row_3 p4.row_3 p5.row_3
      p6.row_3 p7.row_3);
}

-- ---- groups

pub group_same : {n : ℕ} {y : ℕ → ℕ → ℕ} {g : ℕ} {w x : BitslicedState n} → SameGroup g w x → GroupHolds y g x
    → GroupHolds y g w
group_same same holds = record { at = λ r low. held_by (same r low) (holds.at r low) }

-- a step on one group, and the same step on all groups below g and on that one
pub one_more_group : {n : ℕ} (P : ℕ → BitslicedState n → Type 0) (g : ℕ) (before after : BitslicedState n)
    → ((i : ℕ) → SameGroup i after before → P i before → P i after) → ((i : ℕ) → i < g → SameGroup i after before)
    → ((i : ℕ) → i < g → P i before) → P g after → (i : ℕ) → i < g + 1 → P i after
one_more_group P g before after moves same done here i low =
    elim (cases_lt i g) [
      | inl below ↦ moves i (same i below) (done i below)
      | inr above ↦ let e : g ≡ i = omega arith in subst (λ (k : ℕ). P k after) e here
    ]
