-- Effects of calls on devices, call after call: bytes that are consumed from a source and written to a sink, and what
-- is counted.
use Rattle.std.proofs.Common.{◌≡◌, ℕ, ◌+◌, ◌-◌, ◌<◌, ◌≤◌, List, [], ◌++◌, Option, Some, None, ◌∙◌, ap, sym, subst, min}
use Rattle.std.proofs.Common.{drop, take, take_all, length, length-append, length-drop, length-take-le, append-nil}
use Rattle.std.proofs.Common.{append_assoc, arith, Bool, false, refl}
use Rattle.std.specs.Io.KnownBytes.{Appends, Consumes, Keeps}
use Rattle.std.proofs.KnownBytes.{Consumes-kept, Consumes-trans, Appends-trans}
use Rattle.std.proofs.Transfers.{drop-appended}
use Rattle.std.proofs.Math.Seq.{take-add, take-append-add}
use Rattle.std.proofs.lemmas.List.{drop-drop, drop_all, take-append-le, take_rest, take_at}
use Rattle.luks_io.specs.Devices.{Appended, ConsumedExactly, ConsumedInto, IfKnown, counted}
use Rattle.luks_io.specs.Counts.{IsLive, Reads, Writes}
use Rattle.luks_io.specs.declared.counts.ReadCounts.{ReadCounts}
use Rattle.luks_io.specs.declared.counts.WriteCounts.{WriteCounts}
use borrow.Rule.Slice.PartMut.{post_of, put_mid}

module _ (known : List ℕ) (r r' : Option (List ℕ)) where
  -- m bytes were consumed, and then n more of those after them
  pub consumed_behind : (m n : ℕ) → ConsumedExactly known r m → ConsumedExactly (drop m known) r' n
      → ConsumedExactly known r' (m + n)
  consumed_behind m n before then = record {
    within = omega (arith, length-drop m known, then.within, before.within);
    left = then.left ∙ ap Some (drop-drop n m known);
  }

  -- m bytes were consumed, and then n more
  pub consumed_more : (m n : ℕ) → ConsumedExactly known r m → IfKnown r (λ rest. ConsumedExactly rest r' n)
      → ConsumedExactly known r' (m + n)
  consumed_more m n before next = consumed_behind m n before (next (drop m known) before.left)

  -- the same, for a given sum of m and n
  pub consumed_sum : (m n sum : ℕ) → m + n ≡ sum → ConsumedExactly known r m
      → IfKnown r (λ rest. ConsumedExactly rest r' n) → ConsumedExactly known r' sum
  consumed_sum m n sum is before next = subst (ConsumedExactly known r') is (consumed_more m n before next)

  -- m bytes were consumed, and then fewer than were requested: these were all
  pub consumed_all : (m requested n : ℕ) → ConsumedExactly known r m → IfKnown r (λ rest. ConsumedExactly rest r' n)
      → IfKnown r (λ rest. n ≡ min requested (length rest)) → n < requested
      → (m + n ≡ length known) × ConsumedExactly known r' (length known)
  consumed_all m requested n before next all few =
      let whole : m + n
      ≡ length known = omega (arith, all (drop m known) before.left, length-drop m known, before.within) in
      (whole, consumed_sum m n (length known) whole before next)

-- before any byte is consumed
pub consumed-none : (known : List ℕ) (left : Option (List ℕ)) → left ≡ Some known → ConsumedExactly known left 0
consumed-none known left is = record { within = omega arith; left = is }

-- all bytes were consumed
pub consumed-all : (known : List ℕ) (left : Option (List ℕ)) (count : ℕ) → length known ≤ count
    → left ≡ Some (drop count known) → ConsumedExactly known left (length known)
consumed-all known left count all is =
    record {
      within = omega arith;
      left = is
          ∙ ap Some (drop_all count known all ∙ sym (drop_all (length known) known (omega arith)));
    }

-- if nothing is written, the sink does not change
pub appended-none : (before : Option (List ℕ)) → Appended before before []
appended-none before known is = is ∙ ap Some (sym (append-nil known))

-- some bytes were written, and then others
pub appended-more : (before now after : Option (List ℕ)) (xs ys : List ℕ)
    → Appended before now xs → Appended now after ys → Appended before after (xs ++ ys)
appended-more before now after xs ys first second known is = second (known ++ xs) (first known is)
    ∙ ap Some (append_assoc known xs ys)

-- ---- the steps of loops

-- the first bytes of a list were written, and then the next n
pub Appends-next : (a b c : Option (List ℕ)) (xs : List ℕ) (at n : ℕ) → Appends a b (take at xs)
    → Appends b c (take n (take (length xs - at) (drop at xs))) → Appends a c (take (at + n) xs)
Appends-next a b c xs at n p q =
    subst (Appends a c) (sym (take-add at n xs))
    (Appends-trans a b c (take at xs) (take n (drop at xs)) p (subst (λ l. Appends b c (take n l)) (take_rest xs at) q))

-- the first `at` bytes of a buffer, with `ys` after them: the first at + n bytes end with the first n of `ys`
prefix_of : (xs ys rest : List ℕ) (at n : ℕ) → at ≤ length xs → n ≤ length ys
    → take (at + n) (take at xs ++ (ys ++ rest)) ≡ take at xs ++ take n ys
prefix_of xs ys rest at n within few =
    ap (λ k. take (k + n) (take at xs ++ (ys ++ rest))) (sym (length-take-le at xs within))
    ∙ take-append-add (take at xs) (ys ++ rest) n ∙ ap (λ l. take at xs ++ l) (take-append-le n ys rest few)

-- the first `at` bytes of a buffer stay, whatever comes after them
prefix_stays : (xs rest : List ℕ) (at : ℕ) → at ≤ length xs → take at (take at xs ++ rest) ≡ take at xs
prefix_stays xs rest at within = take_at (take at xs) rest at (length-take-le at xs within)

-- the first bytes of a buffer were consumed, and then n more were read after them
pub Consumes-next : (a b c : Option (List ℕ)) (xs ys : List ℕ) (at n : ℕ) → at ≤ length xs → n ≤ length ys
    → Consumes a b (take at xs) → Consumes b c (take n ys)
    → Consumes a c (take (at + n) (put_mid at (length xs - at) xs ys))
Consumes-next a b c xs ys at n within few p q =
    subst (Consumes a c) (sym (prefix_of xs ys _ at n within few)) (Consumes-trans a b c (take at xs) (take n ys) p q)

-- if the first bytes of a buffer were consumed, they are the next bytes that the source knew
pub consumed-prefix : (a b : Option (List ℕ)) (buf : List ℕ) (at : ℕ) → at ≤ length buf → Consumes a b (take at buf)
    → IfKnown a (λ known. ConsumedInto known b buf at)
consumed-prefix None b buf at within p known is = absurd cc
consumed-prefix (Some xs) None buf at within p known is = absurd p
consumed-prefix (Some xs) (Some ys) buf at within p known is =
    let whole : known ≡ take at buf ++ ys = cc in
    let cut : length (take at buf) ≡ at = length-take-le at buf within in
    let rest : drop at known ≡ ys = subst (λ n. drop n known ≡ ys) cut (drop-appended (take at buf) known ys whole) in (
      record {
        within = omega (arith, cut, ap length whole, length-append (take at buf) ys);
        left = ap Some (sym rest);
      },
      sym (ap (take at) whole ∙ prefix_stays buf ys at within),
    )

-- if a buffer was filled whole, the source knew at least as many bytes
pub consumed-whole : (a b : Option (List ℕ)) (buf : List ℕ) (at : ℕ) → at ≤ length buf → length buf ≤ at
    → Consumes a b (take at buf) → IfKnown a (λ known. at ≡ min (length buf) (length known))
consumed-whole a b buf at within all p known is = omega (arith, (consumed-prefix a b buf at within p known is).0.within)

module _ (a b c : Option (List ℕ)) (xs ys : List ℕ) (at : ℕ) where
  consumed_same : at ≤ length xs → Consumes a c (take at xs)
      → IfKnown a (λ known. ConsumedInto known c (put_mid at (length xs - at) xs ys) at)
  consumed_same within p =
      let cut : length (take at xs) ≡ at = length-take-le at xs within in
      let rest = ys ++ post_of at (length xs - at) xs in
      consumed-prefix a c (take at xs ++ rest) at (omega (arith, cut, length-append (take at xs) rest))
      (subst (Consumes a c) (sym (prefix_stays xs rest at within)) p)

  -- the first bytes of a buffer were consumed, and then a read after them failed
  pub consumed-kept : at ≤ length xs → Consumes a b (take at xs) → Keeps b c
      → IfKnown a (λ known. ConsumedInto known c (put_mid at (length xs - at) xs ys) at)
  consumed-kept within p q = consumed_same within (Consumes-kept a b c (take at xs) p q)

  -- the first bytes of a buffer were consumed, and then a read after them gave nothing
  pub consumed-nothing : (n : ℕ) → n ≡ 0 → at ≤ length xs → Consumes a b (take at xs) → Consumes b c (take n ys)
      → IfKnown a (λ known. ConsumedInto known c (put_mid at (length xs - at) xs ys) at)
  consumed-nothing n none within p q =
      let nothing : Consumes b c [] = subst (λ k. Consumes b c (take k ys)) none q in
      consumed_same within
      (subst (Consumes a c) (append-nil (take at xs)) (Consumes-trans a b c (take at xs) [] p nothing))

-- all bytes of a list were written
pub appended-all : (a b : Option (List ℕ)) (xs : List ℕ) (at : ℕ) → length xs ≤ at → Appends a b (take at xs)
    → Appended a b xs
appended-all None b xs at all p known is = absurd cc
appended-all (Some old) None xs at all p known is = absurd p
appended-all (Some old) (Some new) xs at all p known is = let whole = take_all at xs all in cc

-- ---- counts

-- without a read, nothing is counted
pub no_reads : (a : ReadCounts) → Reads false false a a
no_reads a = record { failures = refl; ends = refl; needed = λ live. refl; reached = refl }

-- reads that neither failed nor hit EOF, and further ones after them, count as one run of reads
pub reads_more : (failed ended : Bool) (a b c : ReadCounts) → Reads false false a b → Reads failed ended b c
    → Reads failed ended a c
reads_more failed ended a b c first then = record {
  failures = then.failures ∙ ap (counted failed) first.failures;
  ends = then.ends ∙ ap (counted ended) first.ends;
  needed = λ live.
      let still : IsLive b = record { failed = first.failures ∙ live.failed; ended = first.ends ∙ live.ended } in
      then.needed still ∙ first.needed live;
  reached = then.reached ∙ first.reached;
}

-- without a write, nothing is counted
pub no_writes : (a : WriteCounts) → Writes false a a
no_writes a = record { failures = refl; needed = λ live. refl }

-- writes that did not fail, and further ones after them, count as one run of writes
pub writes_more : (failed : Bool) (a b c : WriteCounts) → Writes false a b → Writes failed b c → Writes failed a c
writes_more failed a b c first then = record {
  failures = then.failures ∙ ap (counted failed) first.failures;
  needed = λ live. then.needed (first.failures ∙ live) ∙ first.needed live;
}
