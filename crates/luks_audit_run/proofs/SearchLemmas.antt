-- The audit of an image that is searched.
use Rattle.std.proofs.lemmas.Grind.{common_steps}
use Rattle.std.proofs.Common.{◌≡◌, ℕ, List, [], ◌++◌, Option, Some, None, Result, Ok, Err, refl, ap, arith}
use Rattle.std.proofs.Common.{Bool, false, true}
use Rattle.std.specs.Prelude.{IfOk, IsErr, OnErr, OnOk, is_err}
use Rattle.std.proofs.lemmas.Result.{IfOk-from_err}
use Rattle.luks_io.specs.Devices.{Appended, IfKnown, counted}
use Rattle.luks_io.proofs.EffectLemmas.{appended-more, appended-none}
use Rattle.luks_format.specs.declared.fault.HeaderFault.TheVariants.{Memory, Read}
use Rattle.luks_audit.specs.Image.{fault_line, header_line, header_state}
use Rattle.luks_audit.specs.declared.image.Policy.{Policy}
use Rattle.luks_audit.specs.declared.image.State.{State}
use Rattle.luks_audit.specs.declared.image.State.TheVariants.{Unread}
use Rattle.luks_audit_run.proofs.PlaceLemmas.{in_near}
use Rattle.luks_audit_run.proofs.PutLemmas.{puts_before, puts_behind, puts_none}
use Rattle.luks_audit_run.proofs.SearchedLemmas.{Told, told_all, told_more, told_none}
use Rattle.luks_audit_run.specs.Host.Stored.{unknown}
use Rattle.luks_audit_run.specs.Places.{places_below}
use Rattle.luks_audit_run.specs.Run.{Audits, Puts, Tells, TellsOpen, image_state, image_text}
use Rattle.luks_audit_run.specs.Run.Course.{whole, not_read, no_memory, untold}
use Rattle.luks_audit_run.specs.Search.{FindsNext, IsIn, IsNear, SearchModel, reports_failed_read}
use Rattle.luks_audit_run.specs.Searched.{end_line, end_state, graver_of, place_lines, search_fault}
use Rattle.luks_audit_run.specs.declared.image.RunFault.{RunFault}
use Rattle.luks_audit_run.specs.declared.image.Scope.TheVariants.{Everywhere}
use Rattle.luks_audit_run.specs.declared.place.Place.{Place}
use Rattle.luks_audit_run.specs.declared.place.SearchFault.{SearchFault}
use Rattle.luks_audit_run.specs.declared.place.SearchFault.TheVariants.{Memory as SearchMemory, Read as SearchRead}

-- what a search wrote of an image whose bytes nobody knows
search_anyway : (policy : Policy) (file text : List ℕ) (failed : Bool) (state : State)
    → Tells policy Everywhere unknown file text failed state
unfolding image_text image_state
search_anyway policy file text failed state = record {
  course = untold failed text state;
  possible = tt;
  failed_is = refl;
  text_is = refl;
  state_is = refl;
}

module _ (policy : Policy) (file : List ℕ) (known left : Option (List ℕ)) (before now : Option (List ℕ))
    (found : Option State) (search : SearchModel) where
  -- the search has written this, and come so far in an image whose bytes are known
  pub record Searches : Type 0 where
    pub text : List ℕ
    pub written : Appended before now text
    pub told : IfKnown known (λ bytes. Told policy file bytes search left text found)

pub searches_none : (policy : Policy) (file : List ℕ) (known : Option (List ℕ)) (before : Option (List ℕ))
    → Searches policy file known known before before None (record { sector = 0; bytes = []; ended = false })
searches_none policy file known before = record {
  text = [];
  written = appended-none before;
  told = λ bytes is. told_none policy file bytes known is;
}

module _ (policy : Policy) (file : List ℕ) (known left left' : Option (List ℕ)) (before now after : Option (List ℕ))
    (found : Option State) (search search' : SearchModel)
    (so_far : Searches policy file known left before now found search)
  where
    -- one more header was found
    pub searches_more : (place : Place)
        → ((bytes : List ℕ) → IsIn bytes search left
        → IsIn bytes search' left' × FindsNext bytes search.sector search'.sector (Ok (Some place)))
        → Appended now after (header_line policy file place.offset place.header)
        → Searches policy file known left' before after
        (Some (graver_of found (header_state policy place.header))) search'
    searches_more place next line = record {
      text = so_far.text ++ header_line policy file place.offset place.header;
      written = appended-more before now after so_far.text (header_line policy file place.offset place.header)
          so_far.written line;
      told = λ bytes is.
          let told = so_far.told bytes is in
          let found_next = next bytes told.is_in in
          told_more policy file bytes search search' left left' so_far.text found place told found_next.0
          found_next.1.0 found_next.1.1;
    }

    -- writing its line was aborted
    pub searches_part : (place : Place) (failures failures' : ℕ) (result : Result State RunFault) → IsErr result
        → ((bytes : List ℕ) → IsIn bytes search left
        → IsIn bytes search' left' × FindsNext bytes search.sector search'.sector (Ok (Some place)))
        → failures' ≡ failures → Puts now after (header_line policy file place.offset place.header) true
        → Audits policy Everywhere file known left' failures failures' before after result
    unfolding image_text image_state
    searches_part place failures failures' result aborted next same puts =
        let line = header_line policy file place.offset place.header in
        let last = fault_line policy.format file Memory in
        record {
          text = (so_far.text ++ line) ++ last;
          failed = false;
          shown = Unread;
          puts = grind (arith, common_steps, puts_before, puts_behind);
          failures_is = same;
          shows = IfOk-from_err result _ aborted;
          anyway = search_anyway policy file ((so_far.text ++ line) ++ last) false Unread;
          tells = λ bytes is.
              let told = so_far.told bytes is in
              let found_next = next bytes told.is_in in
              let more = told_more policy file bytes search search' left left' so_far.text found place told found_next.0
              found_next.1.0 found_next.1.1 in
              record {
                tells = record {
                  course = no_memory search'.sector;
                  possible = tt;
                  failed_is = refl;
                  text_is = ap (λ (text : List ℕ). text ++ last) more.text_is;
                  state_is = refl;
                };
                near = λ wrong. absurd cc;
              };
        }

    -- there are no further places
    pub searches_end : (failures failures' : ℕ) (result : Result State RunFault)
        → ((bytes : List ℕ) → IsIn bytes search left
        → IsIn bytes search' left' × FindsNext bytes search.sector search'.sector (Ok None))
        → failures' ≡ failures → Puts now after (end_line policy file found) (is_err result)
        → IfOk result (λ state. state ≡ end_state found)
        → Audits policy Everywhere file known left' failures failures' before after result
    unfolding image_text image_state
    searches_end failures failures' result next same puts shows = record {
      text = so_far.text ++ end_line policy file found;
      failed = false;
      shown = end_state found;
      puts = puts_behind before now after so_far.text (end_line policy file found) (is_err result) so_far.written puts;
      failures_is = same;
      shows = shows;
      anyway = search_anyway policy file (so_far.text ++ end_line policy file found) false (end_state found);
      tells = λ bytes is.
          let told = so_far.told bytes is in
          let all = told_all policy file bytes search left so_far.text found told (next bytes told.is_in).1 in
          record {
            tells = record { course = whole; possible = tt; failed_is = refl; text_is = all.0; state_is = all.1 };
            near = λ _. tt;
          };
    }

    aborted_tells : (fault : SearchFault) (bytes : List ℕ)
        → so_far.text ≡ place_lines policy file bytes (places_below bytes search'.sector)
        → IsNear bytes search'.sector left'
        → (aborted : Bool) → TellsOpen policy Everywhere bytes left' file
        (so_far.text ++ fault_line policy.format file (search_fault fault))
        (reports_failed_read {T = Unit {0}} (Err fault)) Unread aborted
    unfolding image_text image_state
    aborted_tells SearchRead bytes is near aborted = record {
      tells = record {
        course = not_read search'.sector;
        possible = tt;
        failed_is = refl;
        text_is = ap (λ (text : List ℕ). text ++ fault_line policy.format file Read) is;
        state_is = refl;
      };
      near = λ _. near;
    }
    aborted_tells SearchMemory bytes is near aborted = record {
      tells = record {
        course = no_memory search'.sector;
        possible = tt;
        failed_is = refl;
        text_is = ap (λ (text : List ℕ). text ++ fault_line policy.format file Memory) is;
        state_is = refl;
      };
      near = λ _. near;
    }

    module _ (fault : SearchFault)
        (next : (bytes : List ℕ) → IsIn bytes search left
        → OnOk {T = Option Place} {E = SearchFault} (Err fault) (IsIn bytes search' left')
        × FindsNext bytes search.sector search'.sector (Err fault))
        (behind : (bytes : List ℕ) → IsIn bytes search left
        → OnErr {T = Option Place} {E = SearchFault} (Err fault) (IsNear bytes search'.sector left')) where
      -- the search was aborted
      pub searches_abort : (failures failures' : ℕ) (result : Result State RunFault)
          → failures' ≡ counted (reports_failed_read {T = Unit {0}} (Err fault)) failures
          → Puts now after (fault_line policy.format file (search_fault fault)) (is_err result)
          → IfOk result (λ state. state ≡ Unread)
          → Audits policy Everywhere file known left' failures failures' before after result
      searches_abort failures failures' result more puts shows = record {
        text = so_far.text ++ fault_line policy.format file (search_fault fault);
        failed = reports_failed_read {T = Unit {0}} (Err fault);
        shown = Unread;
        puts = puts_behind before now after so_far.text (fault_line policy.format file (search_fault fault))
            (is_err result) so_far.written puts;
        failures_is = more;
        shows = shows;
        anyway = search_anyway policy file (so_far.text ++ fault_line policy.format file (search_fault fault))
            (reports_failed_read {T = Unit {0}} (Err fault)) Unread;
        tells = grind (arith, common_steps, aborted_tells);
      }

-- memory ran out before the search began
pub searches_unbegun : (policy : Policy) (file : List ℕ) (known before : Option (List ℕ)) (failures : ℕ)
    (result : Result State RunFault) → IsErr result
    → Audits policy Everywhere file known known failures failures before before result
searches_unbegun policy file known before failures result aborted =
    let first : SearchModel = record { sector = 0; bytes = []; ended = false } in
    searches_abort policy file known known known before before before None first first
    (searches_none policy file known before) SearchMemory (λ bytes is. (tt, refl))
    (λ bytes is. in_near bytes first known is (omega arith)) failures failures result refl
    (puts_none before _ (is_err result) aborted) (IfOk-from_err result _ aborted)
