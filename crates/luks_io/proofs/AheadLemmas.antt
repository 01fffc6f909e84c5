-- Which of the buffered bytes are forwarded, and how many bytes of a source are consumed at most.
use Rattle.std.proofs.Common.{◌≡◌, ℕ, ◌+◌, ◌-◌, ◌≤◌, List, ◌++◌, Option, Some, None, Result, Ok, Err, ap, sym, ◌∙◌}
use Rattle.std.proofs.Common.{arith, drop, length, take, length-take, length-drop, ◌<◌, OnOk, IfErr, append_assoc, refl}
use Rattle.std.proofs.lemmas.List.{drop-drop, take_at}
use Rattle.std.proofs.Math.Seq.{drop-append_seam, take-add}
use Rattle.std.specs.Io.{ReadsAtMost}
use Rattle.std.specs.Io.KnownBytes.{Consumes, Keeps, ReadConsumes, prepend_known}
use Rattle.luks_io.specs.Devices.{Appended, ConsumedAtMost, ForwardEffect, IfKnown}
use Rattle.luks_io.specs.declared.sink.WriteFault.{WriteFault}
use Rattle.luks_io.proofs.EffectLemmas.{consumed-none, consumed-prefix}

-- the buffered bytes are the piece that is copied or forwarded, and those that stay
piece_first : (items after : List ℕ) (start end count : ℕ) → count ≤ end - start
    → drop (start + count) after ≡ drop (start + count) items → take (end - start) (drop start items)
    ≡ take count (drop start items) ++ take (end - (start + count)) (drop (start + count) after)
piece_first items after start end count few behind =
    let all : end - start ≡ count + (end - (start + count)) = omega arith in
    ap (λ n. take n (drop start items)) all ∙ take-add count (end - (start + count)) (drop start items)
    ∙ ap (λ l. take count (drop start items) ++ take (end - (start + count)) l)
    (drop-drop count start items ∙ sym behind)

-- the first buffered bytes are copied to the start of a buffer, and the others stay buffered
pub copies_out_first : (buffered buf piece : List ℕ) (start end count : ℕ) → length piece ≡ count → count ≤ end - start
    → piece ≡ take count (drop start buffered) → take (end - start) (drop start buffered)
    ≡ take count (piece ++ drop count buf) ++ take (end - (start + count)) (drop (start + count) buffered)
copies_out_first buffered buf piece start end count long few is =
    let prefix = take_at piece (drop count buf) count long ∙ is in
    piece_first buffered buffered start end count few refl
    ∙ ap (λ l. l ++ take (end - (start + count)) (drop (start + count) buffered)) (sym prefix)

kept_known : (a b : Option (List ℕ)) → Keeps a b → IfKnown a (λ known. b ≡ Some known)
kept_known None b kept known is = absurd cc
kept_known (Some xs) None kept known is = absurd kept
kept_known (Some xs) (Some ys) kept known is = cc

-- a read consumed no more bytes than its buffer has capacity for
pub read_consumes_at_most : {E : Type 0} (a b : Option (List ℕ)) (r : Result ℕ E) (buf : List ℕ) (most : ℕ) → length
    buf ≤ most → ReadsAtMost r buf → ReadConsumes a b r buf → IfKnown a (λ known. ConsumedAtMost known b most)
read_consumes_at_most a b (Ok n) buf most fits bound consumption known is =
    (n, omega (arith, bound.0), (consumed-prefix a b buf n bound.0 consumption.0 known is).0)
read_consumes_at_most a b (Err e) buf most fits bound kept known is =
    (0, omega arith, consumed-none known b (kept_known a b kept known is))

-- the first buffered bytes are the next ones of the source
consumes_first : (piece rest : List ℕ) (behind : Option (List ℕ))
    → Consumes (prepend_known (piece ++ rest) behind) (prepend_known rest behind) piece
consumes_first piece rest None = tt
consumes_first piece rest (Some more) = append_assoc piece rest more

-- the first `count` buffered bytes were transformed in the buffer, which then has the bytes of `buf`
module _ (items buf : List ℕ) (len start end count : ℕ) (few : count ≤ end - start) (inside : end ≤ len)
    (long : length items ≡ len) (long' : length buf ≡ len)
    (behind : drop (start + count) buf ≡ drop (start + count) items) where
  abbrev piece : List ℕ
  piece = take count (drop start items)

  abbrev rest : List ℕ
  rest = take (end - (start + count)) (drop (start + count) buf)

  whole : take len (buf ++ drop (length buf) items) ≡ buf
  whole = take_at buf (drop (length buf) items) len long'

  sized : length piece ≡ count
  sized = omega (arith, few, inside, long, length-take count (drop start items), length-drop start items)

  buffered : take (end - start) (drop start items) ≡ piece ++ rest
  buffered = piece_first items buf start end count few behind

  -- the bytes after a forwarded piece stay buffered
  pub stays_buffered : take (end - (start + count)) (drop (start + count) (take len (buf ++ drop (length buf) items)))
      ≡ drop count (take (end - start) (drop start items))
  stays_buffered =
      let skipped : drop count (piece ++ rest) ≡ rest =
      ap (λ n. drop n (piece ++ rest)) (sym sized) ∙ drop-append_seam piece rest in
      ap (λ l. take (end - (start + count)) (drop (start + count) l)) whole
      ∙ sym (ap (λ l. drop count l) buffered ∙ skipped)

  -- the piece is the next bytes of the source
  consumed : (below : Option (List ℕ))
      → Consumes (prepend_known (take (end - start) (drop start items)) below) (prepend_known rest below) piece
  consumed below = rw buffered (consumes_first piece rest below)

  -- a piece of a buffer was forwarded, and the bytes after it stay buffered
  pub forwards_buffered : (below before after : Option (List ℕ)) (transformed : List ℕ → List ℕ)
      (answer : Result (Unit {0}) WriteFault) (untouched : Type 0)
      → OnOk answer (Appended before after (transformed (take count (drop start items))))
      → IfErr answer (λ fault. (fault.written < count)
      × Appended before after (take fault.written (transformed (take count (drop start items)))))
      → ForwardEffect (Some answer) untouched count transformed
      (prepend_known (take (end - start) (drop start items)) below)
      (prepend_known (take (end - (start + count)) (drop (start + count) (take len (buf ++ drop (length buf) items))))
      below)
      before after
  forwards_buffered below before after transformed (Ok done) untouched ok err =
      rw whole (piece, sized, consumed below, ok)
  forwards_buffered below before after transformed (Err fault) untouched ok err =
      rw whole (err.0, (piece, sized, consumed below, err.1))
