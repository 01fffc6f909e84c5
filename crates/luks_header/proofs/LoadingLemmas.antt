-- The loaded start of an image, step by step, until it decides which header the image has.
use Rattle.std.proofs.Common.{◌≡◌, ◌∙◌, ℕ, ◌<◌, ◌≤◌, inl, inr, List, [], ◌++◌, Option, Some, None, Bool, true, false}
use Rattle.std.proofs.Common.{Ok, Err, ap, arith, append-nil, drop, length, length-append}
use Rattle.std.proofs.Common.{refl, subst, sym, take}
use Rattle.std.specs.Prelude.{if◌then◌else◌, not, ok_or, option_map, IsTrue, ◌↔◌}
use Rattle.std.proofs.lemmas.Bool.{le-ltb, lt-ltb}
use Rattle.std.proofs.lemmas.List.{drop-append-le, drop_all, take-append-drop}
use Rattle.luks_io.specs.Devices.{ConsumedExactly, counted}
use Rattle.luks_format.specs.Area.{HeaderAreaModel, IsStart, Loads}
use Rattle.luks_format.specs.declared.fault.HeaderFault.{HeaderFault}
use Rattle.luks_format.specs.declared.fault.HeaderFault.TheVariants.{Json, Read, Memory, NotLuks, Cut}
use Rattle.luks_format.specs.Header1.{is_luks1}
use Rattle.luks_format.specs.Choice2.{chosen2_of}
use Rattle.luks_format.specs.declared.binary_header2.Header2.{Header2}
use Rattle.luks_format.specs.ReadLen2.{IsNextEnd, probe2_len}
use Rattle.luks_format.specs.Search2.{IsSearchOf}
use Rattle.luks_format.specs.declared.header2_search.Search.{Search}
use Rattle.luks_format.proofs.Choice2Lemmas.{decided2, text_more}
use Rattle.luks_format.proofs.Search2Lemmas.{search_more}
use Rattle.luks_format.proofs.Valid2Lemmas.{at_more, longer}
use Rattle.luks2_json.specs.Tree.{tree_of}
use Rattle.luks_header.specs.Header.{HasHeader2, HasNoHeader, ReadsNoHeader, ConsumedHeaderLen, falls_short, header_of}
use Rattle.luks_header.specs.Header.{header_read_len, probe_len, with_text}
use Rattle.luks_header.specs.declared.header.Header.{Header}
use Rattle.luks_header.specs.declared.header.Header.TheVariants.{V2}
use Rattle.std.proofs.Math.Seq.{take-append_seam}
use Rattle.luks_header.proofs.KnownLemmas.{probe_is, short_from_not_whole}

-- if the image does not start as LUKS1, it has the LUKS2 header with its JSON text, or none
pub header_other : (image : List ℕ) → is_luks1 image ≡ false → (read : Option Header2)
    → chosen2_of image ≡ read → header_of image ≡ with_text image read
unfolding header_of
header_other image other read is = rw (other, is) refl

-- ---- loaded bytes that reach as far as is read decide which header an image has

-- two images have the same header, and the search for it goes as far
pub record HaveOneHeader (loaded image : List ℕ) : Type 0 where
  pub header : header_of image ≡ header_of loaded
  pub probe : probe_len image ≡ probe_len loaded
  pub second : HasHeader2 loaded → HasHeader2 image

module _ (loaded more image : List ℕ) (is : image ≡ loaded ++ more) where
  luks1_same : 8 ≤ length loaded → is_luks1 image ≡ is_luks1 loaded
  unfolding is_luks1
  luks1_same long = rw (at_more loaded more image is 0 8 (omega (arith, long))) refl

  text_same : (read : Option Header2) → chosen2_of loaded ≡ read
      → with_text image read ≡ with_text loaded read
  text_same (Some header) found =
      ap (λ text. ok_or (option_map (V2 header) (tree_of text)) Json) (text_more loaded more image is header found)
  text_same None found = refl

  pub decided : probe_len loaded ≤ length loaded → HaveOneHeader loaded image
  unfolding header_of probe_len
  decided whole = by (is_luks1 loaded) refl where
    alike : is_luks1 image ≡ is_luks1 loaded
    alike = luks1_same (omega (arith, (probe_is loaded).1, whole))

    by : (b : Bool) → is_luks1 loaded ≡ b → HaveOneHeader loaded image
    by true e =
        let long : 592 ≤ length loaded = rw e at whole in
        record {
          header = rw (
            alike,
            e,
            le-ltb (length loaded) 592 long,
            le-ltb (length image) 592 (omega (arith, long, longer loaded more image is)),
            at_more loaded more image is 0 592 (omega (arith, long)),
          ) refl;
          probe = rw (alike, e) refl;
          second = λ has. absurd (let other = has.1 in cc);
        }
    by false e =
        let same = decided2 loaded more image is (rw e at whole) in
        record {
          header = rw (alike, e, same.0) (text_same (chosen2_of loaded) refl);
          probe = rw (alike, e) same.1;
          second = λ has. (has.0, alike ∙ e, same.0 ∙ has.2);
        }

-- the search goes no further into an image that starts as LUKS1
pub first_probe : (image : List ℕ) → is_luks1 image ≡ true → probe_len image ≡ 592
unfolding probe_len
first_probe image is = rw is refl

-- the first 592 bytes are to be loaded next
pub next_first : (loaded : List ℕ) → (592 ≤ length loaded → is_luks1 loaded ≡ true) → IsNextEnd probe_len loaded 592
next_first loaded first = record {
  within = λ image more is. omega (arith, (probe_is image).1);
  enough = λ all. omega (arith, all, first_probe loaded (first all));
}

-- the bytes that are to be loaded next of an image that does not start as LUKS1
pub next_other : (loaded : List ℕ) (end : ℕ) → 592 ≤ length loaded → is_luks1 loaded ≡ false
    → IsNextEnd probe2_len loaded end → IsNextEnd probe_len loaded end
unfolding probe_len
next_other loaded end long other need = record {
  within = λ image more is.
      rw (luks1_same loaded more image is (omega (arith, long)), other) (need.within image more is);
  enough = rw other need.enough;
}

-- ---- loading

-- the loaded bytes were consumed
pub start_consumed : (image loaded : List ℕ) (left : Option (List ℕ)) → IsStart image loaded left
    → ConsumedExactly image left (length loaded)
start_consumed image loaded left start = record {
  within = omega (arith, ap length start.is, length-append loaded start.rest);
  left = start.behind ∙ ap Some (sym (ap (drop (length loaded)) start.is
      ∙ drop-append-le (length loaded) loaded start.rest (omega arith)
      ∙ ap (λ none. none ++ start.rest) (drop_all (length loaded) loaded (omega arith))));
}

-- if more bytes of an image that starts as LUKS1 are to be loaded, its first 592 are not
pub first_near : (image loaded : List ℕ) (left : Option (List ℕ)) → IsStart image loaded left
    → is_luks1 image ≡ true → (end : ℕ) → IsNextEnd probe_len loaded end → length loaded < end → length loaded < 592
first_near image loaded left start begins end need more =
    omega (arith, more, need.within image start.rest start.is, first_probe image begins)

-- loading was aborted before `end`
pub loading_aborted : (image : List ℕ) (old new : HeaderAreaModel) (left left' : Option (List ℕ)) (end ends ends' : ℕ)
    (fault : HeaderFault) → IsStart image old.bytes left → IsStart image new.bytes left'
    → Loads end old.bytes new.bytes (Err fault) → (fault ≡ Memory → new ≡ old) → IsNextEnd probe_len old.bytes end
    → length old.bytes < end → (length old.bytes < 592 → old.bytes ≡ []) → ends' ≡ ends
    → ReadsNoHeader image left' ends ends' fault
loading_aborted image old new left left' end ends ends' fault start after loads kept need more first same =
    let all = start_consumed image new.bytes left' after in
    let near = need.within image start.rest start.is in
    elim loads.only [
      | inl read ↦
          rw read ((length new.bytes, omega (arith, loads.fewer, more, near, all.within, probe_is image), all), same)
      | inr memory ↦
          rw memory (inl (
            (length new.bytes, omega (arith, loads.fewer, more, near), all),
            same,
            λ luks1.
                let few = first_near image old.bytes left start luks1 end need more in
                subst (ConsumedExactly image left')
                (ap (λ area. length area.bytes) (kept memory) ∙ ap length (first few)) all,
          ))
    ]

-- further bytes were loaded, up to `end` or to EOF
module _ (old new : HeaderAreaModel) (end : ℕ) (whole : Bool) (loads : Loads end old.bytes new.bytes (Ok whole))
    (unended : old.ended ≡ false) (need : IsNextEnd probe_len old.bytes end) (more : length old.bytes < end)
    (ended : new.ended ≡ (if not whole then true else old.ended)) where
  grown : new.bytes ≡ old.bytes ++ drop (length old.bytes) new.bytes
  grown = sym (take-append-drop (length old.bytes) new.bytes)
      ∙ ap (λ bytes. bytes ++ drop (length old.bytes) new.bytes) loads.kept

  near : end ≤ probe_len new.bytes
  near = omega (arith, more, need.within new.bytes (drop (length old.bytes) new.bytes) grown)

  -- what was checked before need not be checked again
  pub more_searched : (search : Search) → IsSearchOf old.bytes search → IsSearchOf new.bytes search
  more_searched = search_more old.bytes (drop (length old.bytes) new.bytes) new.bytes grown

  pub more_within : length new.bytes ≤ probe_len new.bytes
  more_within = omega (arith, near, more, loads.within)

  pub more_ended : new.ended ≡ not whole
  more_ended = by whole ended where
    by : (b : Bool) → new.ended ≡ (if not b then true else old.ended) → new.ended ≡ not b
    by true e = e ∙ unended
    by false e = e

  -- EOF was hit, before `end`
  more_fewer : new.ended ≡ true → length new.bytes < end
  more_fewer hit = by whole (sym more_ended ∙ hit) loads.whole where
    by : (b : Bool) → not b ≡ true → (IsTrue b ↔ (end ≤ length new.bytes)) → length new.bytes < end
    by true wrong iff = absurd (cc)
    by false _ iff = short_from_not_whole false end (length new.bytes) iff refl

  pub more_short : new.ended ≡ true → length new.bytes < probe_len new.bytes
  more_short hit = omega (arith, near, more_fewer hit)

  pub more_first : 592 ≤ end → new.ended ≡ false → length new.bytes < 592 → ⊥
  more_first least live few = by whole (sym more_ended ∙ live) loads.whole where
    by : (b : Bool) → not b ≡ false → (IsTrue b ↔ (end ≤ length new.bytes)) → ⊥
    by true _ iff = (let all = iff.0 refl in omega (arith, all, few, least))
    by false wrong iff = absurd (cc)

-- ---- all bytes that are read for the header are loaded

-- the image has the header of the loaded bytes, they are all that is read, and EOF was hit if it falls short
pub record IsAll (image : List ℕ) (area : HeaderAreaModel) : Type 0 where
  pub same : HaveOneHeader area.bytes image
  pub read_len : header_read_len image ≡ length area.bytes
  pub falls : falls_short image ≡ area.ended

module _ (area : HeaderAreaModel) (within : length area.bytes ≤ probe_len area.bytes)
    (short : area.ended ≡ true → length area.bytes < probe_len area.bytes)
    (enough : area.ended ≡ false → probe_len area.bytes ≤ length area.bytes) where
  pub all_of : (rest : List ℕ) → (area.ended ≡ true → rest ≡ []) → IsAll (area.bytes ++ rest) area
  all_of rest ends = by area.ended refl where
    by : (b : Bool) → area.ended ≡ b → IsAll (area.bytes ++ rest) area
    by true e =
        let bytes = ap (λ more. area.bytes ++ more) (ends e) ∙ append-nil area.bytes in
        let few = short e in
        rw bytes record {
          same = record { header = refl; probe = refl; second = λ has. has };
          read_len = omega (arith, within, (probe_is area.bytes).0);
          falls = lt-ltb (length area.bytes) (probe_len area.bytes) few ∙ sym e;
        }
    by false e =
        let whole = enough e in
        let same = decided area.bytes rest (area.bytes ++ rest) refl whole in
        let long = length-append area.bytes rest in
        record {
          same = same;
          read_len = omega (arith, whole, within, long, same.probe, (probe_is (area.bytes ++ rest)).0);
          falls = le-ltb (length (area.bytes ++ rest)) (probe_len (area.bytes ++ rest))
              (omega (arith, whole, long, same.probe)) ∙ sym e;
        }

  -- the loaded bytes are themselves an image
  pub all_itself : IsAll area.bytes area
  all_itself = subst (λ image. IsAll image area) (append-nil area.bytes) (all_of [] (λ _. refl))

  module _ (image : List ℕ) (left : Option (List ℕ)) (start : IsStart image area.bytes left)
      (emptied : area.ended ≡ true → left ≡ Some []) where
    all_image : IsAll image area
    all_image = subst (λ image. IsAll image area) (sym start.is) (all_of start.rest ends) where
      ends : area.ended ≡ true → start.rest ≡ []
      ends ended = (let same : Some start.rest ≡ Some [] = sym start.behind ∙ emptied ended in cc)

    consumed_all : ConsumedExactly image left (header_read_len image)
    consumed_all =
        subst (ConsumedExactly image left) (sym all_image.read_len) (start_consumed image area.bytes left start)

    -- a header was read
    pub header_read : (header : Header) → header_of area.bytes ≡ Ok header
        → (header_of image ≡ Ok header) × (area.bytes ≡ take (header_read_len image) image)
        × ConsumedExactly image left (header_read_len image)
    header_read header read = (
      all_image.same.header ∙ read,
      sym (ap (λ n. take n image) all_image.read_len ∙ ap (take (length area.bytes)) start.is
          ∙ take-append_seam area.bytes start.rest),
      consumed_all,
    )

    -- there is none
    pub no_header_read : (fault : HeaderFault) (ends ends' : ℕ) → HasNoHeader area.bytes fault
        → ends' ≡ counted area.ended ends → ReadsNoHeader image left ends ends' fault
    no_header_read fault ends ends' none is = by fault none where
      consumed : ConsumedHeaderLen image left ends ends'
      consumed = (consumed_all, is ∙ ap (λ b. counted b ends) (sym all_image.falls))

      by : (fault : HeaderFault) → HasNoHeader area.bytes fault → ReadsNoHeader image left ends ends' fault
      by Read none = absurd none
      by Memory has = inr (all_image.same.second has, consumed)
      by NotLuks none = (all_image.same.header ∙ none, consumed)
      by Cut none = (all_image.same.header ∙ none, consumed)
      by Json none = (all_image.same.header ∙ none, consumed)

    -- memory does not run out for the tree if the image starts as LUKS1
    pub no_tree : HasNoHeader area.bytes Memory → is_luks1 image ≡ true → ⊥
    no_tree has begins = (let second = all_image.same.second has in let other = second.1 in cc)
