-- Bounds of indices, and the order of the fill.
use Rattle.std.proofs.Common.{◌≡◌, ℕ, zero, suc, ◌+◌, ◌≤◌, List, refl, arith}
use Rattle.std.proofs.Common.{◌∙◌, add-one}
use Rattle.std.proofs.lemmas.Bool.{cond-false, cond-true, cond_both, le-ltb, lt-ltb}
use Rattle.std.specs.Prelude.{nat_lt}
use Rattle.luks_argon2.specs.declared.layout.Layout.{Layout}
use Rattle.luks_argon2.specs.declared.layout.Segment.{Segment}
use Rattle.luks_argon2.specs.declared.variant.Variant.{Variant}
use Rattle.luks_argon2.specs.Fill.{block_filled, first_filled, segment_filled}
use Rattle.luks_argon2.specs.Layout.{is_first_segment}

-- before the first block of a segment that is filled nothing changes
pub segment_start : (v : Variant) (s : Layout) (p : Segment) (m : List (List (List ℕ))) (n : ℕ) → n ≤ first_filled p
    → segment_filled v s p m n ≡ m
unfolding segment_filled
segment_start v s p m zero h = refl
segment_start v s p m (suc n) h =
    cond-true (nat_lt n (first_filled p)) _ _ (lt-ltb n (first_filled p) (omega arith))
    ∙ segment_start v s p m n (omega arith)

pub segment_next : (v : Variant) (s : Layout) (p : Segment) (m : List (List (List ℕ))) (n : ℕ) → first_filled p ≤ n
    → segment_filled v s p m (n + 1) ≡ block_filled v s p (segment_filled v s p m n) n
unfolding segment_filled
segment_next v s p m n h = rw add-one (cond-false (nat_lt n (first_filled p)) _ _ (le-ltb n (first_filled p) h))

pub first_filled_small : (p : Segment) → first_filled p ≤ 2
first_filled_small p = cond_both (is_first_segment p) 2 0 (λ n. n ≤ 2) (λ e. omega arith) (λ e. omega arith)
