-- Reading the text of a JSON area.
use Rattle.std.proofs.Common.{◌≡◌, ℕ, Bool, true, false, List, Some, None, Result, Ok, Err, refl}
use Rattle.std.specs.Prelude.{IfOk, IsUtf8, if◌then◌else◌}
use Rattle.std.specs.Str.{is_utf8}
use Rattle.std.proofs.lemmas.Str.{IsUtf8-from_is_utf8, is_utf8-from_IsUtf8}
use Rattle.luks_format.specs.declared.fault.HeaderFault.{HeaderFault}
use Rattle.luks_format.specs.declared.fault.HeaderFault.TheVariants.{Json}
use Rattle.luks2_json.specs.Tree.{has_objects, tree_of}
use Rattle.serde_json.specs.Data.{Data}
use Rattle.serde_json.specs.Read.{read}

-- a tree that is read is the tree of the text; if the answer is Json, the value lacks an object, and the text has none
pub answer_of-read : (text : List ℕ) (tree : Data) (result : Result Data HeaderFault) → IsUtf8 text
    → read text ≡ Some tree → result ≡ (if has_objects tree then Ok tree else Err Json)
    → IfOk result (λ metadata. tree_of text ≡ Some metadata) × (result ≡ Err Json → tree_of text ≡ None)
unfolding tree_of
answer_of-read text tree result utf8 found is =
    of_test (has_objects tree) (rw (is_utf8-from_IsUtf8 text utf8, found) refl) is
  where
    of_test : (has : Bool) → tree_of text ≡ (if has then Some tree else None)
        → result ≡ (if has then Ok tree else Err Json)
        → IfOk result (λ metadata. tree_of text ≡ Some metadata) × (result ≡ Err Json → tree_of text ≡ None)
    of_test true tree_is is = (rw is tree_is, λ refused. absurd cc)
    of_test false tree_is is = (rw is tt, λ refused. tree_is)

-- a text that cannot be read has no tree
pub tree_of-unread : (text : List ℕ) → (IsUtf8 text → read text ≡ None) → tree_of text ≡ None
unfolding tree_of
tree_of-unread text none = of_test (is_utf8 text) refl
  where
    of_test : (test : Bool) → is_utf8 text ≡ test → tree_of text ≡ None
    of_test true is = rw (is, none (IsUtf8-from_is_utf8 text is)) refl
    of_test false is = rw is refl
