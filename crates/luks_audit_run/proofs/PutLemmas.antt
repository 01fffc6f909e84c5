-- Texts that are written whole, or up to where writing was aborted.
use Rattle.std.proofs.lemmas.Grind.{common_steps}
use Rattle.std.proofs.Common.{arith}
use Rattle.std.proofs.Common.{◌≡◌, ◌∙◌, ℕ, List, [], ◌++◌, Option, Bool, true, false, ap, refl}
use Rattle.std.proofs.Common.{append_assoc, drop, take}
use Rattle.std.proofs.lemmas.List.{append-nil, take-append-drop}
use Rattle.luks_io.specs.Devices.{Appended}
use Rattle.luks_io.proofs.EffectLemmas.{appended-more, appended-none}
use Rattle.luks_audit_run.specs.Run.{Puts}

-- a whole text
pub puts_all : (before after : Option (List ℕ)) (text : List ℕ) (aborted : Bool) → Appended before after text
    → Puts before after text aborted
puts_all before after text aborted written =
    record { part = text; rest = []; text_is = append-nil text; written = written; all = λ _. refl }

-- the first bytes
pub puts_part : (before after : Option (List ℕ)) (text : List ℕ) (n : ℕ) → Appended before after (take n text)
    → Puts before after text true
puts_part before after text n written = record {
  part = take n text;
  rest = drop n text;
  text_is = take-append-drop n text;
  written = written;
  all = λ wrong. absurd cc;
}

-- nothing
pub puts_none : (before : Option (List ℕ)) (text : List ℕ) (aborted : Bool) → aborted ≡ true
    → Puts before before text aborted
puts_none before text aborted is = grind (arith, common_steps, appended-none)

pub put_whole : (before after : Option (List ℕ)) (text : List ℕ) → Puts before after text false
    → Appended before after text
put_whole before after text puts = grind (arith, common_steps, append-nil)

-- after another text
pub puts_behind : (before now after : Option (List ℕ)) (first text : List ℕ) (aborted : Bool)
    → Appended before now first → Puts now after text aborted → Puts before after (first ++ text) aborted
puts_behind before now after first text aborted written puts = record {
  part = first ++ puts.part;
  rest = puts.rest;
  text_is = append_assoc first puts.part puts.rest ∙ ap (λ (line : List ℕ). first ++ line) puts.text_is;
  written = appended-more before now after first puts.part written puts.written;
  all = puts.all;
}

-- another text would have followed
pub puts_before : (before after : Option (List ℕ)) (text more : List ℕ) (aborted : Bool) → aborted ≡ true
    → Puts before after text true → Puts before after (text ++ more) aborted
puts_before before after text more aborted is puts = grind (arith, common_steps, append_assoc)
