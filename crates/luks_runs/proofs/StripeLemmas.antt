-- Stripes one at a time, and how splitting a key and merging stripes end.
use Rattle.std.proofs.Common.{◌≡◌, ℕ, ◌+◌, ◌-◌, ◌*◌, ◌/◌, ◌<◌, ◌≤◌, ◌⊎◌, inl, inr, List, ◌++◌, Option, Some, ◌∙◌, ap}
use Rattle.std.proofs.Common.{sym, refl, take, drop, length, take-take, length-take-le, length-append, min, arith, true}
use Rattle.std.proofs.Common.{false, subst, take_all, zero-mul}
use Rattle.std.proofs.lemmas.List.{take-append-drop, take-append-le}
use Rattle.std.proofs.Math.Seq.{take-append-add, take-add}
use Rattle.std.proofs.lemmas.Bool.{cases_lt, le-leb, lt-leb}
use Rattle.std.proofs.lemmas.Bool.Decides.{nat_tests}
use Rattle.std.proofs.Math.Nat.{div-eq_of_lt-le, div-mul-le_self, zero-div, mul-le-mul_right}
use Rattle.std.proofs.lemmas.Nat.{le-div}
use Rattle.std.specs.Prelude.{◌&&◌, nat_lt, nat_le}
use Rattle.luks_kdf.specs.declared.hash.Hash.{Hash}
use Rattle.luks_kdf.specs.Bytes.{xor}
use Rattle.luks_kdf.specs.Stripes.{AfSplitterModel, splitter_after, splitter_block, split_stripes, stripe_at, merged}
use Rattle.luks_kdf.proofs.StripesLemmas.{merged_push, splitter_block-append}
use Rattle.luks_io.proofs.EffectLemmas.{appended-more, appended-none, consumed-none, consumed_all, consumed_more}
use Rattle.luks_io.specs.Devices.{Appended, ConsumedExactly, ConsumedInto, IfKnown}
use Rattle.luks_report.specs.declared.message.Message.{Message}
use Rattle.luks_report.specs.declared.message.Message.TheVariants.{Done, KeyLength, FewRandomBytes, ReadFailed}
use Rattle.luks_report.specs.declared.message.Message.TheVariants.{WriteFailed, FewStripes}
use Rattle.luks_runs.specs.Run.{Outcome, no_output, RunMatches, Prints, ConsumedNothing, AnyPromptness}
use Rattle.luks_runs.specs.Stripe.{split_outcome, merge_outcome}
use Rattle.luks_runs.specs.Stripe.{PromptSplit}
use Rattle.luks_runs.proofs.RunLemmas.{aborted_at, aborted_unwritten, runs_printed}

-- the first `count` of these bytes were consumed from a source and written to a sink
pub record ForwardedBytes (known : List ℕ) (left before after : Option (List ℕ)) (count : ℕ) : Type 0 where
  pub consumption : ConsumedExactly known left count
  pub appended : Appended before after (take count known)

-- the block d depends on no byte after the stripes
splitter_block-take : (h : Hash) (len : ℕ) (bytes : List ℕ) (i : ℕ) → i * len ≤ length bytes
    → splitter_block h len bytes i ≡ splitter_block h len (take (i * len) bytes) i
splitter_block-take h len bytes i there =
    ap (λ l. splitter_block h len l i) (sym (take-append-drop (i * len) bytes))
    ∙ splitter_block-append h len (take (i * len) bytes) (drop (i * len) bytes) i
    (omega (arith, length-take-le (i * len) bytes there))

-- i whole stripes of `len` bytes were consumed, and then n bytes more, the first ones of a buffer
module _ (bytes : List ℕ) (i len : ℕ) (r r' : Option (List ℕ)) (buf : List ℕ) (n : ℕ)
    (before : ConsumedExactly bytes r (i * len)) (next : IfKnown r (λ rest. ConsumedInto rest r' buf n)) where
  consumed_on : ConsumedExactly bytes r' (i * len + n)
  consumed_on = consumed_more bytes r r' (i * len) n before (λ rest is. (next rest is).0)

  -- they were all
  consumed_last : n < len → IfKnown r (λ rest. n ≡ min len (length rest))
      → (i * len + n ≡ length bytes) × ConsumedExactly bytes r' (length bytes)
  consumed_last few all = consumed_all bytes r r' (i * len) len n before (λ rest is. (next rest is).0) all few

  -- they were one more stripe
  pub stripe_consumed : n ≡ len → ConsumedExactly bytes r' ((i + 1) * len)
  stripe_consumed whole = let more : i * len + n ≡ (i + 1) * len = omega arith in rw more at consumed_on

  pub stripe_is : n ≡ len → length buf ≡ len → buf ≡ stripe_at len bytes i
  unfolding stripe_at
  stripe_is whole long = sym (take_all n buf (omega arith)) ∙ (next _ before.left).1
      ∙ ap (λ m. take m (drop (i * len) bytes)) whole

  -- the first k of them were written after the stripes
  appended_part : (b w w' : Option (List ℕ)) → Appended b w (take (i * len) bytes) → (k : ℕ) → k ≤ n
      → Appended w w' (take k buf) → Appended b w' (take (i * len + k) bytes)
  appended_part b w w' appended k few a =
      let rest = drop (i * len) bytes in
      let same = sym (take-take k n buf few) ∙ ap (take k) (next _ before.left).1 ∙ take-take k n rest few in
      subst (Appended b w') (sym (take-add (i * len) k bytes))
      (appended-more b w w' (take (i * len) bytes) (take k rest) appended (subst (Appended w w') same a))

  -- they were one more stripe, which was written after the stripes
  pub forwarded_one_more : n ≡ len → length buf ≡ len → (b w w' : Option (List ℕ)) → Appended b w (take (i * len) bytes)
      → Appended w w' buf → ForwardedBytes bytes r' b w' ((i + 1) * len)
  forwarded_one_more whole long b w w' appended a =
      let more : i * len + n ≡ (i + 1) * len = omega arith in
      record {
        consumption = stripe_consumed whole;
        appended = rw more at (appended_part b w w' appended n (omega arith)
            (rw (← take_all n buf (omega arith)) at a));
      }

module _ (h : Hash) (count : ℕ) (key random : List ℕ) where
  -- a key whose length is not allowed
  key_refused : (min (length key) 513 ≡ 0) ⊎ (512 < length key) → split_outcome h count key random
      ≡ no_output KeyLength (min (length key) 513) 0
  unfolding split_outcome
  key_refused bad = let none : (nat_lt 0 (length key) && nat_le (length key) 512)
      ≡ false = grind (arith, nat_tests) in rw none refl

  -- the outcome allows c bytes of the key to be consumed, if the key has them and c is at most 513
  split_consumes_key : (c : ℕ) → c ≤ min (length key) 513 → c ≤ (split_outcome h count key random).consumed.input
  unfolding split_outcome
  split_consumes_key c few = grind (arith, nat_tests)

  -- n bytes of the key were consumed, and none of the random ones
  module _ (n : ℕ) (k r w : Option (List ℕ)) (p : ConsumedExactly key k n) (is : r ≡ Some random) where
    -- they were all, or one more than the maximum length
    pub runs_without_key : n ≡ min 513 (length key) → (n ≡ 0) ⊎ (512 < n)
        → RunMatches (PromptSplit (length key)) (split_outcome h count key random) KeyLength (ConsumedExactly key k)
        (ConsumedExactly random r) (Appended w w)
    runs_without_key all bad =
        let refused : (min (length key) 513 ≡ 0) ⊎ (512 < length key) = grind arith in
        let same : n ≡ min (length key) 513 = omega arith in
        rw (key_refused refused) (record
        { as_specified = refl; effects = (rw same at p, refl, consumed-none random r is, appended-none w) })

    -- a read of the key failed
    pub runs_without_key_read : n ≤ 513
        → RunMatches (PromptSplit (length key)) (split_outcome h count key random) ReadFailed (ConsumedExactly key k)
        (ConsumedExactly random r) (Appended w w)
    runs_without_key_read few =
        aborted_unwritten n 0 (omega arith) (simp (zero-div, zero-mul)) (split_consumes_key n (omega (arith, p.within)))
        (omega arith) (p, refl, consumed-none random r is, appended-none _)

-- `consumed` random bytes may be consumed, and the specified output starts with the first `whole` ones
record MayForward (o : Outcome) (random : List ℕ) (consumed whole : ℕ) : Type 0 where
  within : consumed ≤ o.consumed.secret
  fits : whole ≤ length o.output
  begins : (written : ℕ) → written ≤ whole → take written o.output ≡ take written random

module _ (h : Hash) (count : ℕ) (key random : List ℕ) (some : 1 ≤ length key) (capacity : length key ≤ 512) where
  random_enough : (count - 1) * length key ≤ length random → split_outcome h count key random
      ≡ record (no_output Done (length key) ((count - 1) * length key))
      { output = split_stripes h count key (take ((count - 1) * length key) random) }
  unfolding split_outcome
  random_enough enough =
      let both : (nat_lt 0 (length key) && nat_le (length key) 512) ≡ true = grind (arith, nat_tests) in
      rw (both, le-leb ((count - 1) * length key) (length random) enough) refl

  random_few : length random < (count - 1) * length key → split_outcome h count key random
      ≡ record (no_output FewRandomBytes (length key) (length random))
      { output = take (length random / length key * length key) random }
  unfolding split_outcome
  random_few few =
      let both : (nat_lt 0 (length key) && nat_le (length key) 512) ≡ true = grind (arith, nat_tests) in
      rw (both, lt-leb ((count - 1) * length key) (length random) few) refl

  may_forward : (j consumed : ℕ) → consumed ≤ (count - 1) * length key → consumed ≤ length random
      → j * length key ≤ (count - 1) * length key → j * length key ≤ length random
      → MayForward (split_outcome h count key random) random consumed (j * length key)
  may_forward j consumed within there below fits =
      let needed = (count - 1) * length key in
      elim (cases_lt (length random) needed) as
      (λ _. MayForward (split_outcome h count key random) random consumed (j * length key)) [
        | inl lacking ↦
            let whole : j ≤ length random / length key = le-div j (length random) (length key) some fits in
            let all = length random / length key * length key in
            let span : j * length key ≤ all = mul-le-mul_right (length key) whole in
            let long = length-take-le all random (div-mul-le_self (length random) (length key)) in
            rw (random_few lacking) (record {
              within = there;
              fits = omega arith;
              begins = λ written few. take-take written all random (omega arith);
            })
        | inr enough ↦
            let last = xor (splitter_block h (length key) (take needed random) (count - 1)) key in
            let long : length (take needed random) ≡ needed = length-take-le needed random enough in
            rw (random_enough enough) (record {
              within = within;
              fits = omega (arith, length-append (take needed random) last);
              begins = λ written few. take-append-le written (take needed random) last (omega arith)
                  ∙ take-take written needed random (omega arith);
            })
      ]

  module _ (k b : Option (List ℕ)) (consumption : ConsumedExactly key k (length key)) where
    -- the run ended with this message, random bytes and output
    abbrev Matches : Message → Option (List ℕ) → Option (List ℕ) → Type 0
    Matches message left after =
        RunMatches (PromptSplit (length key)) (split_outcome h count key random) message (ConsumedExactly key k)
        (ConsumedExactly random left) (Appended b after)

    key_whole : length key ≤ (split_outcome h count key random).consumed.input
    key_whole = split_consumes_key h count key random (length key) (omega arith)

    -- i of the random stripes were forwarded, and then n bytes more were consumed
    module _ (i : ℕ) (below : (i + 1) * length key ≤ (count - 1) * length key) (r r' w : Option (List ℕ))
        (buf : List ℕ) (n : ℕ) (p : ForwardedBytes random r b w (i * length key))
        (next : IfKnown r (λ rest. ConsumedInto rest r' buf n)) where
      -- a read failed
      pub runs_without_read : n < length key → Matches ReadFailed r' w
      runs_without_read few =
          let all = consumed_on random i (length key) r r' buf n p.consumption next in
          let m = i * length key + n in
          let may = may_forward i m (omega arith) all.within (omega arith) (omega (arith, all.within)) in
          let row : m / length key ≡ i = div-eq_of_lt-le (length key) (omega arith) (omega arith) in
          aborted_at (length key) 0 m (i * length key) may.fits (rw row refl) key_whole (omega arith) may.within
          (consumption, refl, all, rw (may.begins (i * length key) (omega arith)) p.appended)

      -- the random bytes ended
      pub runs_without_stripe : n < length key → IfKnown r (λ rest. n ≡ min (length key) (length rest))
          → Matches FewRandomBytes r' w
      runs_without_stripe few all =
          let last = consumed_last random i (length key) r r' buf n p.consumption next few all in
          let row : length random / length key ≡ i =
          div-eq_of_lt-le (length key) (omega (arith, last.0)) (omega (arith, last.0)) in
          rw (random_few (omega (arith, last.0)), row)
          (record { as_specified = refl; effects = (consumption, refl, last.1, p.appended) })

      -- they are a stripe, and a write of it failed
      pub runs_without_write : n ≡ length key → (w' : Option (List ℕ)) (written : ℕ) → written < n
          → Appended w w' (take written buf) → Matches WriteFailed r' w'
      runs_without_write whole w' written few a =
          let all = stripe_consumed random i (length key) r r' buf n p.consumption next whole in
          let may = may_forward (i + 1) ((i + 1) * length key) below all.within below all.within in
          let m = i * length key + written in
          let row : m / length key ≡ i = div-eq_of_lt-le (length key) (omega arith) (omega arith) in
          let part = appended_part random i (length key) r r' buf n p.consumption next b w w' p.appended written
          (omega arith) a in
          aborted_at (length key) 0 ((i + 1) * length key) m (omega (arith, may.fits)) (rw row (omega arith))
          key_whole (omega arith) may.within (consumption, refl, all, rw (may.begins m (omega arith)) part)

    -- all random stripes were forwarded, and the last stripe was made with this splitter
    module _ (r w : Option (List ℕ)) (splitter : AfSplitterModel)
        (is : splitter ≡ splitter_after h (length key) random (count - 1))
        (p : ForwardedBytes random r b w ((count - 1) * length key)) (last : List ℕ)
        (made : last ≡ xor splitter.block key) (w' : Option (List ℕ)) where
      -- the last stripe depends on no random bytes but those of the random stripes
      last_is : last ≡ xor (splitter_block h (length key) (take ((count - 1) * length key) random) (count - 1)) key
      last_is =
          made ∙ ap (λ (s : AfSplitterModel). xor s.block key) is
          ∙ ap (λ d. xor d key) (splitter_block-take h (length key) random (count - 1) p.consumption.within)

      -- the last stripe was written
      pub runs_to_end : Appended w w' last → Matches Done r w'
      runs_to_end a =
          let all = appended-more b w w' (take ((count - 1) * length key) random) last p.appended a in
          rw (random_enough p.consumption.within, ← last_is)
          (record { as_specified = refl; effects = (consumption, refl, p.consumption, all) })

      -- a write failed within the last stripe
      pub runs_without_last : (n : ℕ) → n < length last → length last ≡ length key → Appended w w' (take n last)
          → Matches WriteFailed r w'
      runs_without_last n within long a =
          let needed = (count - 1) * length key in
          let prefix = take needed random in
          let whole : length prefix ≡ needed = length-take-le needed random p.consumption.within in
          let both : length (prefix ++ last) ≡ length prefix + length last = length-append prefix last in
          let begin : take (needed + n) (prefix ++ last) ≡ prefix ++ take n last =
          ap (λ m. take (m + n) (prefix ++ last)) (sym whole) ∙ take-append-add prefix last n in
          let row : (needed + n) / length key ≡ count - 1 = div-eq_of_lt-le (length key) (omega arith) (omega arith) in
          rw (random_enough p.consumption.within)
          (aborted_at (length key) 0 needed (needed + n) (rw (← last_is) (omega arith)) (rw row (omega arith))
          (omega arith) (omega arith) (omega arith) (
            consumption,
            refl,
            p.consumption,
            rw (← last_is, begin) (appended-more b w w' prefix (take n last) p.appended a),
          ))

module _ (h : Hash) (count len : ℕ) (bytes : List ℕ) where
  stripes_enough : count * len ≤ length bytes → merge_outcome h count len bytes
      ≡ record (no_output Done (count * len) 0) { output = merged h len (take (count * len) bytes) }
  unfolding merge_outcome
  stripes_enough enough = rw (le-leb (count * len) (length bytes) enough) refl

  stripes_few : length bytes < count * len → merge_outcome h count len bytes ≡ no_output FewStripes (length bytes) 0
  unfolding merge_outcome
  stripes_few few = rw (lt-leb (count * len) (length bytes) few) refl

  -- merging consumes at least as many bytes as are both needed and available
  merge_consumes_within : (consumed : ℕ) → consumed ≤ count * len → consumed ≤ length bytes
      → consumed ≤ (merge_outcome h count len bytes).consumed.input
  unfolding merge_outcome
  merge_consumes_within consumed needed there = grind (arith, nat_tests)

  -- i stripes were consumed, and then n bytes more
  module _ (i : ℕ) (below : (i + 1) * len ≤ count * len) (s s' w : Option (List ℕ)) (buf : List ℕ) (n : ℕ)
      (before : ConsumedExactly bytes s (i * len)) (next : IfKnown s (λ rest. ConsumedInto rest s' buf n))
      (few : n < len) where
    -- a read failed
    pub merges_without_read :
        RunMatches AnyPromptness (merge_outcome h count len bytes) ReadFailed (ConsumedExactly bytes s')
        ConsumedNothing (Appended w w)
    merges_without_read =
        let all = consumed_on bytes i len s s' buf n before next in
        aborted_unwritten (i * len + n) 0 (omega arith) tt
        (merge_consumes_within (i * len + n) (omega arith) all.within) (omega arith) (all, refl, refl, appended-none _)

    -- the stripes ended
    pub merges_without_stripe : IfKnown s (λ rest. n ≡ min len (length rest))
        → RunMatches AnyPromptness (merge_outcome h count len bytes) FewStripes (ConsumedExactly bytes s')
        ConsumedNothing (Appended w w)
    merges_without_stripe all =
        let last = consumed_last bytes i len s s' buf n before next few all in
        rw (stripes_few (omega (arith, last.0)))
        (record { as_specified = refl; effects = (last.1, refl, refl, appended-none w) })

  -- all stripes but one were consumed and absorbed, and then the last; the key was written, whole or in part
  pub runs_with_key : 1 ≤ len → (i : ℕ) → i + 1 ≡ count → (s s' w w' : Option (List ℕ)) (last : List ℕ) (n : ℕ)
      → ConsumedExactly bytes s (i * len) → IfKnown s (λ rest. ConsumedInto rest s' last n) → n ≡ len
      → length last ≡ len → (splitter : AfSplitterModel) (key : List ℕ) → splitter ≡ splitter_after h len bytes i
      → key ≡ xor splitter.block last → (message : Message) → Prints key Done w w' message
      → RunMatches AnyPromptness (merge_outcome h count len bytes) message (ConsumedExactly bytes s') ConsumedNothing
      (Appended w w')
  unfolding stripe_at
  runs_with_key some i all s s' w w' last n before next whole long splitter key absorbed made message printed =
      let p : ConsumedExactly bytes s' (count * len) =
      rw all at (stripe_consumed bytes i len s s' last n before next whole) in
      let first = take (i * len) bytes in
      let joined : first ++ last ≡ take (count * len) bytes =
      ap (λ l. first ++ l) (stripe_is bytes i len s s' last n before next whole long)
      ∙ sym (take-add (i * len) len bytes) ∙ ap (λ m. take m bytes) (omega (arith, ap (λ c. c * len) all)) in
      let key_is : key ≡ merged h len (take (count * len) bytes) =
      made ∙ ap (λ (s : AfSplitterModel). xor s.block last) absorbed
      ∙ ap (λ d. xor d last) (splitter_block-take h len bytes i before.within)
      ∙ sym (merged_push h len first last i some (length-take-le (i * len) bytes before.within) long)
      ∙ ap (merged h len) joined in
      rw (stripes_enough p.within, ← key_is)
      (runs_printed (record (no_output Done (count * len) 0) { output = key }) (ConsumedExactly bytes s')
      ConsumedNothing w w' message p refl refl printed)
