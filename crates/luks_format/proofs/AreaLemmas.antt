-- An area that loads further bytes: zeros are appended to its bytes, and a source overwrites the first of these zeros.
use Rattle.std.proofs.lemmas.Grind.{common_steps}
use Rattle.std.proofs.Common.{◌≡◌, ℕ, ◌+◌, ◌-◌, ◌<◌, ◌≤◌, List, [], ◌++◌, Option, Some, ◌∙◌, ap, take, drop, length}
use Rattle.std.proofs.Common.{min}
use Rattle.std.proofs.Common.{append_assoc, arith, length-append, length-drop}
use Rattle.std.proofs.lemmas.List.{drop_all, take-append-drop, take-append-le, take-take, take_rest, length-replicate}
use Rattle.std.proofs.Math.ListN.{replicate}
use Rattle.std.proofs.Math.Seq.{take-append_seam, take-append-add}
use Rattle.luks_io.specs.Devices.{ConsumedInto}
use Rattle.luks_format.specs.Area.{IsStart}

module _ (old whole buf : List ℕ) (loaded n : ℕ) (is-whole : whole ≡ old ++ replicate n 0)
    (is-loaded : loaded ≡ length old)
    (kept : length buf ≡ length (take (length whole - loaded) (drop loaded whole))) where
  all : length whole ≡ length old + n
  all = ap length is-whole ∙ length-append old (replicate n 0) ∙ ap (λ k. length old + k) (length-replicate n 0)

  -- the buffer that a source fills is as long as the appended zeros
  pub length-capacity : length buf ≡ n
  length-capacity = kept ∙ ap length (take_rest whole loaded) ∙ (omega (arith, all, length-drop loaded whole))

  module _ (rest more new : List ℕ) (len count : ℕ) (is-len : len ≡ length whole) (few : count ≤ length buf)
      (is : new ≡ take (loaded + count) (take len (take loaded whole ++ (buf ++ rest) ++ more))) where
    -- after a source has filled the buffer, the list starts with the bytes loaded before and then those that were read
    prefix_filled : new ≡ old ++ take count buf
    prefix_filled =
        let prefix : take loaded whole ≡ old =
        ap (take loaded) is-whole ∙ ap (λ k. take k (old ++ replicate n 0)) is-loaded
        ∙ take-append_seam old (replicate n 0) in
        grind (arith, common_steps, take-take, length-capacity, take-append-le, length-append, take-append-add)

    module _ (known : List ℕ) (left : Option (List ℕ)) (consumed : ConsumedInto known left buf count) where
      -- the bytes that a source gave were appended to those loaded before
      pub start_filled : (image : List ℕ) → image ≡ old ++ known → IsStart image new left
      start_filled image same = record {
        rest = drop count known;
        behind = consumed.0.left;
        is = grind (arith, common_steps, take-append-drop, append_assoc, prefix_filled);
      }

-- a source that gave fewer bytes than were requested has no more
pub none_left : (known buf : List ℕ) (left : Option (List ℕ)) (count : ℕ) → ConsumedInto known left buf count
    → count ≡ min (length buf) (length known) → count < length buf → left ≡ Some []
none_left known buf left count consumed all few = grind (arith, common_steps, drop_all)
