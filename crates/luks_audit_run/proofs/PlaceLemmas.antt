-- Places of headers, sector by sector.
use Rattle.std.proofs.lemmas.Grind.{common_steps}
use Rattle.std.proofs.Common.{◌≡◌, ◌∙◌, ℕ, zero, suc, ◌+◌, ◌-◌, ◌*◌, ◌<◌, ◌≤◌}
use Rattle.std.proofs.Common.{◌++◌, List, [], ◌∷◌, Bool, true, false, ap, sym}
use Rattle.std.proofs.Common.{Option, Some, None, refl, length, take, drop}
use Rattle.std.proofs.Common.{arith, Result, Ok, add-one, length-append, length-drop}
use Rattle.std.proofs.Common.{◌⊎◌, inl, inr, min, append_assoc}
use Rattle.std.proofs.lemmas.List.{append-nil, drop-append-le, drop-drop, nil_from_length}
use Rattle.std.proofs.lemmas.List.{drop_all, take-append-drop, take-append-le}
use Rattle.std.proofs.lemmas.Bool.{leb-false, leb-true, ltb-true}
use Rattle.std.proofs.Math.Seq.{take-add, take-length}
use Rattle.std.specs.Prelude.{OnErr, nat_le, nat_lt}
use Rattle.luks_io.specs.Devices.{ConsumedInto}
use Rattle.luks_format.specs.declared.fault.HeaderFault.{HeaderFault}
use Rattle.luks_header.specs.Header.{header_of}
use Rattle.luks_header.specs.declared.header.Header.{Header}
use Rattle.luks_audit_run.specs.Magic.{IsQuiet, begins_magic}
use Rattle.luks_header.proofs.HorizonLemmas.{header_of_start}
use Rattle.luks_audit_run.specs.Places.{found_in, header_at, max_searched_sectors}
use Rattle.luks_audit_run.specs.Places.{place_if, places_below, places_of, sectors_in}
use Rattle.luks_audit_run.specs.Search.{IsIn, IsNear, SearchModel}
use Rattle.luks_audit_run.proofs.MagicLemmas.{nothing_none, quiet_at, quiet_none, six_decide}

-- the header of an image is that of its first bytes, if there are 8 MiB of them or more
header_by_start : (bytes rest : List ℕ) → 8388608 ≤ length bytes → header_of (bytes ++ rest) ≡ header_of bytes
header_by_start bytes rest long =
    sym ((header_of_start (bytes ++ rest) (length bytes) long (omega (arith, length-append bytes rest))).0)
    ∙ ap header_of (take-append-le (length bytes) bytes rest (omega arith) ∙ take-length bytes)

-- one more sector
pub places_more : (image : List ℕ) (n : ℕ)
    → places_below image (n + 1) ≡ places_below image n ++ place_if (512 * n) (found_in (header_at image (512 * n)))
unfolding places_below
places_more image n = rw add-one refl

-- sectors without headers
pub places_none : (image : List ℕ) (n count : ℕ)
    → ((j : ℕ) → j < count → found_in (header_at image (512 * (n + j))) ≡ None)
    → places_below image (n + count) ≡ places_below image n
places_none image n zero none = ap (places_below image) (omega arith)
places_none image n (suc count) none =
    let before = places_none image n count (λ j below. none j (omega (arith, below))) in
    let last : n + suc count ≡ (n + count) + 1 = omega arith in
    let here = none count (omega arith) in
    grind (arith, common_steps, places_more, append-nil)

-- no place is after the image's end
past_end : (image : List ℕ) (n : ℕ) → sectors_in image ≤ n
    → places_below image (sectors_in image) ≡ places_below image n
past_end image n few =
    let all : sectors_in image + (n - sectors_in image) ≡ n = omega (arith, few) in
    grind (arith, common_steps, places_none, drop_all, nothing_none)

-- a search that has come to the image's end has found all its places
pub places_end : (image : List ℕ) (n : ℕ) → n ≤ max_searched_sectors → length image ≤ 512 * n
    → places_of image ≡ places_below image n
places_end image n bound end = grind (arith, common_steps, past_end)

-- so has one that has tried all sectors that are searched, however long the image is
pub behind_all : (image : List ℕ) → places_of image ≡ places_below image max_searched_sectors
behind_all image = by (nat_le (sectors_in image) max_searched_sectors) refl where
  by : (b : Bool) → nat_le (sectors_in image) max_searched_sectors ≡ b
      → places_of image ≡ places_below image max_searched_sectors
  by true e =
      let few = leb-true (sectors_in image) max_searched_sectors e in
      let all : min (sectors_in image) max_searched_sectors ≡ sectors_in image = omega (arith, few) in
      ap (places_below image) all ∙ past_end image max_searched_sectors few
  by false e =
      let many = leb-false (sectors_in image) max_searched_sectors e in
      let all : min (sectors_in image) max_searched_sectors ≡ max_searched_sectors = omega (arith, many) in
      ap (places_below image) all

found_ok : (read : Result Header HeaderFault) (header : Header) → found_in read ≡ Some header → read ≡ Ok header
found_ok x0 header e = grind (arith, common_steps)

-- ---- a search

module _ (image : List ℕ) (search : SearchModel) (left : Option (List ℕ)) (is : IsIn image search left) where
  -- the rest of the image from a loaded sector on
  ahead_is : (j : ℕ) → 512 * j ≤ length search.bytes
      → drop (512 * (search.sector + j)) image ≡ drop (512 * j) search.bytes ++ is.rest
  ahead_is j within =
      ap (λ n. drop n image) (same j)
      ∙ sym (drop-drop (512 * j) (512 * search.sector) image)
      ∙ ap (drop (512 * j)) is.here
      ∙ drop-append-le (512 * j) search.bytes is.rest within
    where
      same : (j : ℕ) → 512 * (search.sector + j) ≡ 512 * search.sector + 512 * j
      same j = omega arith

  abbrev pub advanced : ℕ → SearchModel
  advanced count = record {
    sector = search.sector + count;
    bytes = drop (512 * count) search.bytes;
    ended = search.ended;
  }

  -- some sectors were left behind
  pub advanced_in : (count : ℕ) → (search.ended ≡ true) ⊎ (512 * count ≤ length search.bytes)
      → IsIn image (advanced count) left
  advanced_in count (inr within) = record {
    rest = is.rest;
    left_is = is.left_is;
    here = ahead_is count within;
    ends = is.ends;
  }
  advanced_in count (inl ended) = record {
    rest = is.rest;
    left_is = is.left_is;
    here = grind (arith, common_steps, drop-drop, append-nil);
    ends = is.ends;
  } where
    same : 512 * (search.sector + count) ≡ 512 * search.sector + 512 * count
    same = omega arith

  -- the header at the next sector is that of the loaded bytes
  pub here_is : (search.ended ≡ true) ⊎ (8388608 ≤ length search.bytes)
      → header_at image (512 * search.sector) ≡ header_of search.bytes
  here_is x0 = grind (arith, common_steps, append-nil, header_by_start)

  -- if no loaded sector begins with the magic bytes, a sector that is loaded as far as it may reach has no header
  module _ (quiet : IsQuiet search.bytes) where
    none_begins : (j : ℕ) → 512 * j + 6 ≤ length search.bytes
        → begins_magic (drop (512 * (search.sector + j)) image) ≡ false
    none_begins j within = grind (arith, common_steps, ahead_is, six_decide, length-drop)

    no_header : (j : ℕ) → 512 * j + 4194310 ≤ length search.bytes
        → found_in (header_at image (512 * (search.sector + j))) ≡ None
    no_header j long =
        quiet_none (drop (512 * (search.sector + j)) image)
        (quiet_at image (search.sector + j) (λ k low.
        ap (λ n. begins_magic (drop (512 * n) image)) (same k) ∙ none_begins (j + k) (omega (arith, low, long))))
      where
        same : (k : ℕ) → search.sector + j + k ≡ search.sector + (j + k)
        same k = omega arith

    -- so no place is among sectors that were left behind
    pub skipped_none : (count : ℕ) → 512 * count + 4194304 ≤ length search.bytes
        → places_below image (search.sector + count) ≡ places_below image search.sector
    skipped_none count loaded = grind (arith, common_steps, places_none, no_header)

  -- there are no further bytes
  pub nothing_left : search.sector ≤ max_searched_sectors → search.bytes ≡ [] → search.ended ≡ true
      → places_of image ≡ places_below image search.sector
  nothing_left bound none ended = places_end image search.sector bound (by_length (ap length all)) where
    all : drop (512 * search.sector) image ≡ []
    all = is.here ∙ ap (λ bytes. bytes ++ is.rest) none ∙ is.ends ended

    by_length : length (drop (512 * search.sector) image) ≡ 0 → length image ≤ 512 * search.sector
    by_length e = omega (arith, e, length-drop (512 * search.sector) image)

-- no bytes are loaded, although the next sector could be tried
pub none_left : (image : List ℕ) (search : SearchModel) (left : Option (List ℕ)) → IsIn image search left
    → search.sector ≤ max_searched_sectors → (search.ended ≡ true) ⊎ (8388608 ≤ length search.bytes)
    → length search.bytes ≡ 0 → places_of image ≡ places_below image search.sector
none_left image search left is bound (inl ended) none =
    nothing_left image search left is bound (nil_from_length search.bytes none) ended
none_left image search left is bound (inr long) none = absurd (omega (arith, long, none))

-- the next sector was tried
module _ (image : List ℕ) (search : SearchModel) (left : Option (List ℕ)) (is : IsIn image search left)
    (enough : (search.ended ≡ true) ⊎ (8388608 ≤ length search.bytes)) where
  pub tried_in : IsIn image (record {
    sector = search.sector + 1;
    bytes = drop 512 search.bytes;
    ended = search.ended;
  }) left
  tried_in = advanced_in image search left is 1 (by enough) where
    by : (search.ended ≡ true) ⊎ (8388608 ≤ length search.bytes)
        → (search.ended ≡ true) ⊎ (512 * 1 ≤ length search.bytes)
    by x0 = grind (arith, common_steps)

  pub tried_none : found_in (header_of search.bytes) ≡ None
      → places_below image (search.sector + 1) ≡ places_below image search.sector
  tried_none none =
      places_more image search.sector
      ∙ ap (λ found. places_below image search.sector ++ place_if (512 * search.sector) found)
      (ap found_in (here_is image search left is enough) ∙ none)
      ∙ append-nil (places_below image search.sector)

  pub tried_some : (header : Header) → found_in (header_of search.bytes) ≡ Some header
      → (header_at image (512 * search.sector) ≡ Ok header)
      × (places_below image (search.sector + 1) ≡ places_below image search.sector ++ (512 * search.sector) ∷ [])
  tried_some header some = (
    here_is image search left is enough ∙ found_ok (header_of search.bytes) header some,
    places_more image search.sector
        ∙ ap (λ found. places_below image search.sector ++ place_if (512 * search.sector) found)
        (ap found_in (here_is image search left is enough) ∙ some),
  )

-- further bytes were loaded behind those that were moved to the buffer's front
pub loaded_in : (image bytes buffer known : List ℕ) (left : Option (List ℕ)) (sector kept count : ℕ)
    → drop (512 * sector) image ≡ bytes ++ known → take kept buffer ≡ bytes
    → ConsumedInto known left (drop kept buffer) count → count ≡ min (33554432 - kept) (length known)
    → IsIn image (record {
      sector = sector;
      bytes = drop 0 (take (kept + count) buffer);
      ended = nat_lt (kept + count) 33554432;
    }) left
loaded_in image bytes buffer known left sector kept count here front consumed all = record {
  rest = drop count known;
  left_is = consumed.0.left;
  here = grind (arith, common_steps, take-append-drop, append_assoc, take-add);
  ends = λ end.
      (let short = ltb-true (kept + count) 33554432 end in drop_all count known (omega (arith, all, short)));
}

-- what is behind the loaded bytes
behind_bytes : (image bytes rest : List ℕ) (start : ℕ) → drop start image ≡ bytes ++ rest
    → drop (start + length bytes) image ≡ rest
behind_bytes image bytes rest start here =
    sym (drop-drop (length bytes) start image)
    ∙ ap (drop (length bytes)) here
    ∙ drop-append-le (length bytes) bytes rest (omega arith)
    ∙ ap (λ none. none ++ rest) (drop_all (length bytes) bytes (omega arith))

-- at most 32 MiB are loaded, and the source has the bytes after them
pub in_near : (image : List ℕ) (search : SearchModel) (left : Option (List ℕ)) → IsIn image search left
    → length search.bytes ≤ 33554432 → IsNear image search.sector left
in_near image search left is few = record {
  read = 512 * search.sector + length search.bytes;
  left_is = is.left_is ∙ ap Some (sym (behind_bytes image search.bytes is.rest (512 * search.sector) is.here));
  near = omega (arith, few);
}

-- a read failed after some further bytes
pub failed_near : (image bytes buffer known : List ℕ) (left : Option (List ℕ)) (sector got : ℕ)
    → drop (512 * sector) image ≡ bytes ++ known → length bytes + got ≤ 33554432
    → ConsumedInto known left buffer got → IsNear image sector left
failed_near image bytes buffer known left sector got here few consumed = record {
  read = 512 * sector + length bytes + got;
  left_is = consumed.0.left
      ∙ ap (λ rest. Some (drop got rest)) (sym (behind_bytes image bytes known (512 * sector) here))
      ∙ ap Some (drop-drop got (512 * sector + length bytes) image);
  near = omega (arith, few);
}

-- what holds anyway holds if there is a fault
pub on_fault : {T E : Type 0} (P : Type 0) (result : Result T E) → P → OnErr result P
on_fault x0 x1 holds = grind (arith, common_steps)
