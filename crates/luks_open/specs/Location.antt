-- How a header at its location is read, attached or detached, and what is loaded of its source.
use Rattle.std.specs.Prelude.{◌≡◌, ℕ, true, false, List, [], Option, Some, Result, Ok, Err}
use Rattle.luks_io.specs.Counts.{Reads}
use Rattle.luks_io.specs.Devices.{IfKnown}
use Rattle.luks_io.specs.declared.counts.ReadCounts.{ReadCounts}
use Rattle.luks_format.specs.Area.{HeaderAreaModel}
use Rattle.luks_header.specs.Header.{header_of, detached_of}
use Rattle.luks_open.specs.declared.location.HeaderLocation.{HeaderLocation}
use Rattle.luks_open.specs.declared.location.HeaderLocation.TheVariants.{Attached, Detached}
use Rattle.luks_header.specs.declared.header.Header.{Header}
use Rattle.luks_format.specs.declared.fault.HeaderFault.{HeaderFault}

-- a function that reads the header at the start of these bytes
abbrev pub HeaderReader : Type 0
HeaderReader = List ℕ → Result Header HeaderFault

-- the header that was read, as a detached one
abbrev pub as_detached : Result Header HeaderFault → Result Header HeaderFault
as_detached (Ok header) = Ok (detached_of header)
as_detached (Err fault) = Err fault

-- the detached header at the start of its file
abbrev pub detached_header_of : HeaderReader
detached_header_of file = as_detached (header_of file)

-- how the header at this location is read
abbrev pub reader_for : HeaderLocation → HeaderReader
reader_for Attached = header_of
reader_for Detached = detached_header_of

-- the start of an image was loaded from this source: no read failed, and a read hit the image's end exactly if the area
-- says so; then no bytes remain
pub record LoadedFrom (area : HeaderAreaModel) (left left' : Option (List ℕ)) (counts counts' : ReadCounts) : Type 0
  where
    pub reads : Reads false area.ended counts counts'
    pub emptied : area.ended ≡ true → IfKnown left (λ _. left' ≡ Some [])
