-- What is written of an image that is searched for headers, and what that shows.
use Rattle.std.specs.Prelude.{ℕ, List, [], ◌∷◌, Option, Some, None, Result, Ok, Err, flat_map}
use Rattle.luks_format.specs.declared.fault.HeaderFault.{HeaderFault}
use Rattle.luks_format.specs.declared.fault.HeaderFault.TheVariants.{NotLuks, Read, Memory}
use Rattle.luks_header.specs.declared.header.Header.{Header}
use Rattle.luks_audit.specs.Image.{fault_line, header_line, header_state}
use Rattle.luks_audit.specs.declared.image.Policy.{Policy}
use Rattle.luks_audit.specs.declared.image.State.{State}
use Rattle.luks_audit.specs.declared.image.State.TheVariants.{Clean, Flawed, Unread}
use Rattle.luks_audit_run.specs.Places.{header_at, places_of}
use Rattle.luks_audit_run.specs.declared.place.SearchFault.{SearchFault}
use Rattle.luks_audit_run.specs.declared.place.SearchFault.TheVariants.{Read as SearchRead, Memory as SearchMemory}

-- the graver of two states
abbrev pub graver : State → State → State
graver Unread other = Unread
graver Flawed Unread = Unread
graver Flawed other = Flawed
graver Clean other = other

-- the graver of a state and those before it, if there are any
abbrev pub graver_of : Option State → State → State
graver_of (Some before) state = graver before state
graver_of None state = state

-- the fault of a header for a fault of a search
abbrev pub search_fault : SearchFault → HeaderFault
search_fault SearchRead = Read
search_fault SearchMemory = Memory

-- the line of the header at a place, and what its audit shows
abbrev pub place_line : Policy → List ℕ → ℕ → Result Header HeaderFault → List ℕ
place_line policy file offset (Ok header) = header_line policy file offset header
place_line policy file offset (Err fault) = []

abbrev pub place_state : Policy → Result Header HeaderFault → State
place_state policy (Ok header) = header_state policy header
place_state policy (Err fault) = Clean

-- the lines of the headers at places of an image, in their order
unfoldable pub place_lines : Policy → List ℕ → List ℕ → List ℕ → List ℕ
place_lines policy file image places =
    flat_map (λ offset. place_line policy file offset (header_at image offset)) places

-- the gravest state of these headers
unfoldable pub gravest_place : Policy → List ℕ → List ℕ → State
gravest_place policy image [] = Clean
gravest_place policy image (offset ∷ places) =
    graver (place_state policy (header_at image offset)) (gravest_place policy image places)

-- what is written of an image with these places: the lines of their headers, or that there is none
abbrev pub lines_or_none : Policy → List ℕ → List ℕ → List ℕ → List ℕ
lines_or_none policy file image [] = fault_line policy.format file NotLuks
lines_or_none policy file image (offset ∷ places) = place_lines policy file image (offset ∷ places)

abbrev pub state_or_none : Policy → List ℕ → List ℕ → State
state_or_none policy image [] = Flawed
state_or_none policy image (offset ∷ places) = gravest_place policy image (offset ∷ places)

-- everything that is written of a searched image, and what it shows
abbrev pub searched_lines : Policy → List ℕ → List ℕ → List ℕ
searched_lines policy file image = lines_or_none policy file image (places_of image)

abbrev pub searched_state : Policy → List ℕ → State
searched_state policy image = state_or_none policy image (places_of image)

-- what a search shows of these places, if there are any
abbrev pub shown_of : Policy → List ℕ → List ℕ → Option State
shown_of policy image [] = None
shown_of policy image (offset ∷ places) = Some (gravest_place policy image (offset ∷ places))

-- what is written at the end of a search, by what was found, and what it shows
abbrev pub end_line : Policy → List ℕ → Option State → List ℕ
end_line policy file None = fault_line policy.format file NotLuks
end_line policy file (Some state) = []

abbrev pub end_state : Option State → State
end_state None = Flawed
end_state (Some state) = state
