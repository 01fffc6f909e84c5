use Rattle.std.proofs.Common.{◌≡◌, ◌∙◌, drop, length, length-append, length-drop, length-take-le, arith, ℕ, ◌+◌, ◌-◌}
use Rattle.std.proofs.Common.{◌<◌, ◌≤◌, List, ◌++◌, Option, None, Some, take, min, ap, sym, subst, refl, Bool, Err}
use Rattle.std.proofs.lemmas.List.{drop-drop, drop-take, drop_all, length-take, take_at, take-append-drop, take-take}
use Rattle.std.proofs.lemmas.Option.{same_Some}
use Rattle.std.specs.Io.KnownBytes.{Consumes, IsAtEnd, Keeps}
use Rattle.luks_format.specs.Area.{max_loaded_len}
use Rattle.luks_io.specs.Devices.{IfKnown}
use Rattle.luks_access.specs.declared.image.ReadAtFault.{ReadAtFault}
use Rattle.luks_access.specs.declared.image.ReadAtFault.TheVariants.{Failed, Ended}
use Rattle.luks_access.proofs.RangeLemmas.{read_answer}
use Rattle.luks_access.specs.Sectors.{FailsAtStart, FailsWithin, IsAt, remaining_from, image_start}
use Rattle.luks_access.proofs.source.StartSourceSource.read.Goals as goal

-- the bytes that were read are the next ones
gives_part : (image : Option (List ℕ)) (offset count : ℕ) (buf rest : List ℕ) → length buf ≡ count
    → IfKnown image (λ known. IsAt known offset buf)
    → Consumes (remaining_from offset image) (remaining_from (offset + count) image) (take count (buf ++ rest))
gives_part None offset count buf rest long bytes = tt
gives_part (Some known) offset count buf rest long bytes =
    let is : buf ≡ take count (drop offset known) =
    (bytes known refl).same ∙ ap (λ n. take n (drop offset known)) long in
    sym (ap (λ l. l ++ drop (offset + count) known) (take_at buf rest count long ∙ is)
    ∙ ap (λ l. take count (drop offset known) ++ l) (sym (drop-drop count offset known))
    ∙ take-append-drop count (drop offset known))

-- if a read of at least one byte gave none, the image is at its end
is_at_end : (image : Option (List ℕ)) (offset count requested len : ℕ)
    → IfKnown image (λ known. len ≡ length known) → count ≡ min (len - offset) requested → count ≡ 0 → 0 < requested
    → IsAtEnd (remaining_from (offset + count) image)
is_at_end None offset count requested len is fits none some = tt
is_at_end (Some known) offset count requested len is fits none some =
    drop_all (offset + count) known (omega (arith, is known refl))

module _ (image : Option (List ℕ)) (at count : ℕ) where
  -- bytes that are there, before the end of an image's start, are in that start
  at_start : (buf : List ℕ) → at + length buf ≤ max_loaded_len → IfKnown image (λ known. IsAt known at buf)
      → IfKnown (image_start image) (λ known. IsAt known at buf)
  at_start buf near bytes = by image bytes
    where
      by : (image : Option (List ℕ)) → IfKnown image (λ known. IsAt known at buf)
          → IfKnown (image_start image) (λ known. IsAt known at buf)
      by None bytes known there = absurd cc
      by (Some all) bytes known there =
          let is = bytes all refl in
          let more = max_loaded_len - at in
          let whole : at + more ≡ max_loaded_len = omega (arith, near) in
          subst (λ k. IsAt k at buf) (same_Some (take max_loaded_len all) known there) (record {
            within = omega (arith, near, is.within, length-take max_loaded_len all);
            same = is.same
                ∙ (sym (take-take (length buf) more (drop at all) (omega (arith, near)))
                ∙ ap (take (length buf)) (sym (drop-take at more all) ∙ ap (λ n. drop at (take n all)) whole));
          })

  -- the length of an image's start
  start_len : (len : ℕ) → IfKnown image (λ known. len ≡ length known)
      → IfKnown (image_start image) (λ known. min len max_loaded_len ≡ length known)
  start_len len is = by image is
    where
      by : (image : Option (List ℕ)) → IfKnown image (λ known. len ≡ length known)
          → IfKnown (image_start image) (λ known. min len max_loaded_len ≡ length known)
      by None is known there = absurd cc
      by (Some all) is known there =
          subst (λ k. min len max_loaded_len ≡ length k) (same_Some (take max_loaded_len all) known there)
          (omega (arith, is all refl, length-take max_loaded_len all))

  -- a read within an image's start fails only if it may: the image does not end there
  failure_shows : (fails : ℕ → Bool) (len : ℕ) (fault : ReadAtFault) (bytes : List ℕ) → length bytes ≡ count
      → IfKnown image (λ known. at ≤ length known) → IfKnown image (λ known. len ≡ length known)
      → count ≤ min len max_loaded_len - at
      → (read_answer fault ≡ Err Failed → FailsWithin fails at (length bytes))
      → (read_answer fault ≡ Err Ended → IfKnown image (λ known. length known < at + length bytes))
      → FailsAtStart image fails
  failure_shows fails len Failed bytes long within is few failed ended known there =
      let (byte, from, before, bad) = failed refl in
      (byte, omega arith, omega (arith, from, before, long, few), bad)
  failure_shows fails len Ended bytes long within is few failed ended known there =
      absurd (omega (arith, ended refl known there, within known there, is known there, long, few))

pub returns-in-Ok-clause-bytes : goal.returns-in-Ok-clause-bytes
returns-in-Ok-clause-bytes g c =
    let image = g.I.ReadAt.image c.args.self.now.image.now in
    let at = c.args.self.now.at in
    let count = c.min-count.result in
    let buf = c.args.buf.now in
    let fits = rw (c.saturating_sub-remaining.ensures, c.min.ensures) at c.min-count.ensures in
    let long : length c.read_at.new.buf ≡ count =
    c.read_at.auto.buf ∙ length-take-le count buf (omega (arith, fits)) in
    rw c.count.ensures.value (
      gives_part (image_start image) at count c.read_at.new.buf (drop count buf) long
          (at_start image at count c.read_at.new.buf (omega (arith, long, fits)) c.in-Ok.ensures.bytes),
      λ none some.
          is_at_end (image_start image) at count (length buf) (min c.len.result max_loaded_len)
          (start_len image at count c.len.result c.len.ensures) fits none
          (omega (arith, some, long, length-append c.read_at.new.buf (drop count buf), length-drop count buf)),
    )

-- what remains stays as it was
keeps : (left : Option (List ℕ)) → Keeps left left
keeps None = tt
keeps (Some known) = refl

pub returns-in-Err-clause-bytes : goal.returns-in-Err-clause-bytes
returns-in-Err-clause-bytes g c =
    rw c.count-in-Err.ensures.value
    (keeps (remaining_from c.args.self.now.at (image_start (g.I.ReadAt.image c.args.self.now.image.now))))

pub invariant_of-self-in-Err-clause-shown : goal.invariant_of-self-in-Err-clause-shown
invariant_of-self-in-Err-clause-shown g c = λ some.
    let source = c.args.self.now in
    let count = c.min-count.result in
    let fits = rw (c.saturating_sub-remaining.ensures, c.min.ensures) at c.min-count.ensures in
    let long : length c.read_at.new.buf ≡ count =
    c.read_at.auto.buf ∙ length-take-le count c.args.buf.now (omega (arith, fits)) in
    source.shows (failure_shows (g.I.ReadAt.image source.image.now) source.at count (g.I.ReadAt.fails source.image.now)
    c.len.result _ c.read_at.new.buf long source.within c.len.ensures (omega (arith, fits)) c.in-Err.ensures.failed
    c.in-Err.ensures.ended)
