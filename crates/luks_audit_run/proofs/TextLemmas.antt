-- What a whole run promises of the text of one image: it is said by the image's bytes, however long the image is.
use Rattle.std.proofs.Common.{◌≡◌, ◌⊎◌, ℕ, ◌++◌, Bool, List, inl, inr}
use Rattle.luks_format.specs.declared.fault.HeaderFault.TheVariants.{Memory, Read}
use Rattle.luks_header.specs.Header.{header_of}
use Rattle.luks_audit.specs.Image.{fault_line, line_by}
use Rattle.luks_audit.specs.declared.image.Policy.{Policy}
use Rattle.luks_audit.specs.declared.image.State.{State}
use Rattle.luks_audit_run.specs.Host.Stored.{image}
use Rattle.luks_audit_run.specs.Places.{places_below}
use Rattle.luks_audit_run.specs.Run.{Course, IsPossible, Tells, image_text}
use Rattle.luks_audit_run.specs.Run.Course.{whole, not_opened, not_read, no_memory, found, untold}
use Rattle.luks_audit_run.specs.Searched.{place_lines, searched_lines}
use Rattle.luks_audit_run.specs.declared.host.ImageFault.TheVariants.{NotOpened, Memory as MemoryToOpen}
use Rattle.luks_audit_run.specs.declared.image.Scope.TheVariants.{Start, Everywhere}

module _ (policy : Policy) (file bytes text : List ℕ) where
  start_by : (course : Course) → IsPossible Start (image bytes) course
      → text ≡ image_text policy Start file bytes course
      → (text ≡ line_by policy file (header_of bytes))
      ⊎ ((text ≡ fault_line policy.format file Read) ⊎ (text ≡ fault_line policy.format file Memory))
  unfolding image_text
  start_by whole possible is = inl is
  start_by (not_read sector) possible is = inr (inl is)
  start_by (no_memory sector) possible is = inr (inr is)
  start_by (not_opened NotOpened) possible is = absurd possible
  start_by (not_opened MemoryToOpen) possible is = inr (inr is)
  start_by (found header) possible is = absurd possible
  start_by (untold failed other state) possible is = absurd possible

  -- without a search it is the line of the header, of a failed read, or of memory that ran out
  pub start_text : (failed : Bool) (state : State) → Tells policy Start (image bytes) file text failed state
      → (text ≡ line_by policy file (header_of bytes))
      ⊎ ((text ≡ fault_line policy.format file Read) ⊎ (text ≡ fault_line policy.format file Memory))
  start_text failed state tells = start_by tells.course tells.possible tells.text_is

  search_by : (course : Course) → IsPossible Everywhere (image bytes) course
      → text ≡ image_text policy Everywhere file bytes course
      → (text ≡ searched_lines policy file bytes)
      ⊎ ((sector : ℕ) × ((text ≡ place_lines policy file bytes (places_below bytes sector)
      ++ fault_line policy.format file Read)
      ⊎ (text ≡ place_lines policy file bytes (places_below bytes sector) ++ fault_line policy.format file Memory)))
  unfolding image_text places_below place_lines
  search_by whole possible is = inl is
  search_by (not_read sector) possible is = inr (sector, inl is)
  search_by (no_memory sector) possible is = inr (sector, inr is)
  search_by (not_opened NotOpened) possible is = absurd possible
  search_by (not_opened MemoryToOpen) possible is = inr (0, inr is)
  search_by (found header) possible is = absurd possible
  search_by (untold failed other state) possible is = absurd possible

  -- a search writes the line of each place, and of none if there is none; up to a fault, those of the first sectors
  pub search_text : (failed : Bool) (state : State) → Tells policy Everywhere (image bytes) file text failed state
      → (text ≡ searched_lines policy file bytes)
      ⊎ ((sector : ℕ) × ((text ≡ place_lines policy file bytes (places_below bytes sector)
      ++ fault_line policy.format file Read)
      ⊎ (text ≡ place_lines policy file bytes (places_below bytes sector) ++ fault_line policy.format file Memory)))
  search_text failed state tells = search_by tells.course tells.possible tells.text_is
