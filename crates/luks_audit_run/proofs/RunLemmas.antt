-- Runs over the first images, and one more.
use Rattle.std.proofs.lemmas.Grind.{common_steps}
use Rattle.std.proofs.Common.{arith}
use Rattle.std.proofs.Common.{◌≡◌, ◌∙◌, ℕ, List, [], ◌∷◌, ◌++◌, Option, Result, Bool, false}
use Rattle.std.proofs.Common.{append_assoc, ap, refl, sym}
use Rattle.std.specs.Prelude.{is_err}
use Rattle.std.proofs.lemmas.Grind.{flat_map-append}
use Rattle.std.proofs.lemmas.List.{append-nil, map-append}
use Rattle.luks_io.specs.Devices.{counted}
use Rattle.luks_audit.specs.Line.{head_of}
use Rattle.luks_audit.specs.declared.image.Policy.{Policy}
use Rattle.luks_audit.specs.declared.image.State.{State}
use Rattle.luks_audit.specs.declared.image.State.TheVariants.{Clean}
use Rattle.luks_audit_run.specs.Host.{Stored}
use Rattle.luks_audit_run.specs.Run.{ArePossible, Audited, AuditsFile, IsPossible, Puts, Runs}
use Rattle.luks_audit_run.specs.Run.{audit_text, bytes_in, failures_after, gravest_state}
use Rattle.luks_audit_run.specs.Run.{image_state, image_text, is_failed}
use Rattle.luks_audit_run.specs.Searched.{graver}
use Rattle.luks_audit_run.specs.declared.image.RunFault.{RunFault}
use Rattle.luks_audit_run.specs.declared.image.Scope.{Scope}
use Rattle.luks_audit_run.proofs.PutLemmas.{put_whole, puts_behind}
use Rattle.luks_audit_run.proofs.SearchedLemmas.{graver_assoc, graver_clean}

failures_more : (failures : ℕ) (images : List Audited) (one : Audited)
    → failures_after failures (images ++ one ∷ []) ≡ counted (is_failed one.course) (failures_after failures images)
unfolding failures_after
failures_more failures [] one = refl
failures_more failures (first ∷ images) one = failures_more (counted (is_failed first.course) failures) images one

module _ (policy : Policy) (scope : Scope) (stored : List ℕ → Stored) where
  possible_more : (images : List Audited) (one : Audited) → ArePossible scope stored images
      → IsPossible scope (stored one.file) one.course → ArePossible scope stored (images ++ one ∷ [])
  unfolding ArePossible
  possible_more [] one are is = (is, tt)
  possible_more (first ∷ images) one are is = (are.0, possible_more images one are.1 is)

  text_more : (images : List Audited) (one : Audited)
      → audit_text policy scope stored (images ++ one ∷ [])
      ≡ audit_text policy scope stored images
      ++ image_text policy scope one.file (bytes_in (stored one.file)) one.course
  unfolding audit_text
  text_more images one = grind (arith, common_steps, flat_map-append, append-nil, append_assoc)

  state_more : (images : List Audited) (one : Audited)
      → gravest_state policy scope stored (images ++ one ∷ [])
      ≡ graver (gravest_state policy scope stored images)
      (image_state policy scope (bytes_in (stored one.file)) one.course)
  unfolding gravest_state
  state_more [] one = graver_clean (image_state policy scope (bytes_in (stored one.file)) one.course)
  state_more (first ∷ images) one =
      let state : State = image_state policy scope (bytes_in (stored first.file)) first.course in
      ap (graver state) (state_more images one)
      ∙ graver_assoc state (gravest_state policy scope stored images)
      (image_state policy scope (bytes_in (stored one.file)) one.course)

  -- a run over some images, and one more
  pub runs_more : (files : List (List ℕ)) (file : List ℕ) (failures failures1 failures2 : ℕ)
      (before now after : Option (List ℕ)) (state : State) (result : Result State RunFault)
      → Runs policy scope stored files failures failures1 before now state false
      → (one : AuditsFile policy scope file (stored file) failures1 failures2 now after result)
      → Runs policy scope stored (files ++ file ∷ []) failures failures2 before after (graver state one.shown)
      (is_err result)
  runs_more files file failures failures1 failures2 before now after state result so_far one =
      let text = audit_text policy scope stored so_far.images in
      let P : List ℕ → Type 0 = λ all. Puts before after all (is_err result) in
      let last : Audited = record { file = file; course = one.tells.course } in
      record {
        images = so_far.images ++ last ∷ [];
        files_are =
            map-append (λ any. any.file) so_far.images (last ∷ [])
            ∙ ap (λ (names : List (List ℕ)). names ++ file ∷ []) so_far.files_are;
        possible = possible_more so_far.images last so_far.possible one.tells.possible;
        puts = grind (arith, common_steps, text_more, puts_behind, put_whole);
        state_is =
            ap (λ s. graver s one.shown) so_far.state_is
            ∙ ap (graver (gravest_state policy scope stored so_far.images)) one.tells.state_is
            ∙ sym (state_more so_far.images last);
        failed =
            one.failures_is ∙ ap (λ b. counted b failures1) one.tells.failed_is
            ∙ ap (counted (is_failed one.tells.course)) so_far.failed ∙ sym (failures_more failures so_far.images last);
      }

  -- a run over no images yet
  pub runs_none : (failures : ℕ) (before after : Option (List ℕ)) (aborted : Bool)
      → Puts before after (head_of policy.format) aborted
      → Runs policy scope stored [] failures failures before after Clean aborted
  unfolding ArePossible audit_text gravest_state failures_after
  runs_none failures before after aborted head = record {
    images = [];
    files_are = refl;
    possible = tt;
    puts = grind (arith, common_steps, append-nil);
    state_is = refl;
    failed = refl;
  }

-- ---- what is known stays known

pub moved_file : (policy : Policy) (scope : Scope) (now stored : List ℕ → Stored) (file : List ℕ)
    (failures failures' : ℕ) (before after : Option (List ℕ)) (result : Result State RunFault) → now ≡ stored
    → AuditsFile policy scope file (now file) failures failures' before after result
    → AuditsFile policy scope file (stored file) failures failures' before after result
moved_file policy scope now stored file failures failures' before after result same one = grind (arith, common_steps)
