use Rattle.std.proofs.Common.{◌≡◌, ◌+◌, length-take-le, vec_len, arith, ℕ, ◌<◌, ◌≤◌, ◌⊎◌, inl, inr, List, ◌++◌, Option}
use Rattle.std.proofs.Common.{◌∙◌, ap, sym, take, drop, length, take_all, length-drop, min}
use Rattle.std.proofs.lemmas.Bool.{le-ltb}
use Rattle.luks_io.proofs.ErrorLemmas.{given_error}
use Rattle.luks_open.specs.KeyFile.{max_key_file_len, NoKeyFileRead}
use Rattle.luks_open.proofs.key_file.read_key_file.Goals as goal
use Rattle.std.proofs.Math.Seq.{take-add}
use Rattle.luks_io.proofs.EffectLemmas.{consumed-all, consumed_behind, consumed_more, reads_more}
use Rattle.luks_io.specs.Devices.{ConsumedExactly, ConsumedAtMost, IfKnown}
use Rattle.luks_open.specs.declared.fault.PassphraseFault.{PassphraseFault}
use Rattle.luks_open.specs.declared.fault.PassphraseFault.TheVariants.{Memory, Read}

module _ (known : List ℕ) (n : ℕ) (s s' : Option (List ℕ)) (consumption : ConsumedExactly known s n) where
  -- the next bytes of the key file are appended to those read so far
  piece_more : (items items' : List ℕ) (got : ℕ) → items ≡ take n known
      → IfKnown s (λ rest. ConsumedExactly rest s' got)
      → items' ≡ items ++ take got (drop n known) → (items' ≡ take (n + got) known) × ConsumedExactly known s' (n + got)
  piece_more items items' got so_far next is = (
    is ∙ ap (λ l. l ++ take got (drop n known)) so_far ∙ sym (take-add n got known),
    consumed_more known s s' n got consumption next,
  )

  -- if fewer bytes were read than requested, they are the last ones
  piece_last : (items items' : List ℕ) (got size : ℕ) → items ≡ take n known
      → IfKnown s (λ rest. ConsumedExactly rest s' got)
      → items' ≡ items ++ take got (drop n known) → got ≡ min size (length (drop n known)) → got < size
      → (items' ≡ known) × ConsumedExactly known s' (length known)
  piece_last items items' got size so_far next is all short =
      let more = piece_more items items' got so_far next is in
      let whole : length known ≤ n + got = omega (arith, length-drop n known, all) in
      (more.0 ∙ take_all (n + got) known whole, consumed-all known s' (n + got) whole more.1.left)

  -- a read of the next bytes failed, or memory for them ran out
  piece_lost : (size : ℕ) (fault : PassphraseFault) → n + size ≤ max_key_file_len + 1
      → IfKnown s (λ rest. ConsumedAtMost rest s' size) → (fault ≡ Memory) ⊎ (fault ≡ Read)
      → NoKeyFileRead known s' fault
  piece_lost size fault capacity lost why =
      let some = lost (drop n known) consumption.left in
      let all = consumed_behind known s s' n some.0 consumption some.2 in
      let up : ConsumedAtMost known s' (min (length known) (max_key_file_len + 1)) =
      (n + some.0, omega (arith, some.1, all.within), all) in
      elim why [ inl is ↦ rw is up | inr is ↦ rw is up ]

pub returns-in_err-read_piece-clause-err : goal.returns-in_err-read_piece-clause-err
returns-in_err-read_piece-clause-err g c =
    let sized = length-take-le c.min-size.result c.pieces.buffer (omega arith) in
    rw (given_error _ _ c.from_residual.ensures.1) (λ known is.
    let so_far = c.pieces.invariant.consumed known is in
    piece_lost known _ _ _ so_far.1 c.min-size.result _ (omega arith) (rw sized at c.in_err-read_piece.ensures.err)
    c.in_err-read_piece.ensures.only)

pub returns-then-branch-size-clause-ok : goal.returns-then-branch-size-clause-ok
returns-then-branch-size-clause-ok g c known is =
    let sized = length-take-le c.min-size.result c.pieces.buffer (omega arith) in
    let so_far = c.pieces.invariant.consumed known is in
    let next = rw sized at c.in_ok-read_piece.ensures.ok in
    let here = next _ so_far.1.left in
    piece_last known _ _ _ so_far.1 _ _ _ c.min-size.result so_far.0 (λ rest left. (next rest left).1) here.2 here.0
    c.if-branch-size.true

pub pieces-preserved : goal.pieces-preserved
pieces-preserved g c =
    let sized = length-take-le c.min-size.result c.pieces.buffer (omega arith) in
    let len = c.in_ok-read_piece.ensures.len in
    let next = c.in_ok-read_piece.ensures.ok in
    record {
      within = omega (arith, c.in_ok-read_piece.ensures.size);
      reads = reads_more _ _ _ _ _ c.pieces.invariant.reads
          (rw (sized, le-ltb _ _ c.if-branch-size.false) at c.in_ok-read_piece.ensures.reads);
      consumed = λ known is.
          let so_far = c.pieces.invariant.consumed known is in
          rw len (piece_more known _ _ _ so_far.1 _ _ _ so_far.0 (λ rest left. (next rest left).1)
          (next _ so_far.1.left).2);
    }

pub returns-clause-err : goal.returns-clause-err
returns-clause-err g c known is =
    let so_far = c.pieces.invariant.consumed known is in
    let within = c.pieces.invariant.within in
    let full : vec_len c.pieces.secret ≡ max_key_file_len + 1 = omega arith in
    (omega (arith, so_far.1.within), rw full at so_far.1)
