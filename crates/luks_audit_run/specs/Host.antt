-- What a host has under the names of images.
use Rattle.std.specs.Prelude.{◌≡◌, ℕ, List, Option, Some, Result, Ok, Err}
use Rattle.luks_audit_run.specs.declared.host.ImageFault.{ImageFault}
use Rattle.luks_audit_run.specs.declared.host.ImageFault.TheVariants.{NotOpened, Memory}

-- what is under a name: an image with these bytes, or nothing that can be opened; or nobody knows
pub data Stored : Type 0 where
  image : List ℕ → Stored
  absent : Stored
  unknown : Stored

-- the result of opening a name: an image that is there is opened unless memory runs out, and an absent one is not
abbrev pub OpensAs : {I : Type 0} → (I → Option (List ℕ)) → Stored → Result I ImageFault → Type 0
OpensAs to_come (image bytes) (Ok source) = to_come source ≡ Some bytes
OpensAs to_come (image bytes) (Err NotOpened) = ⊥
OpensAs to_come (image bytes) (Err Memory) = Unit {0}
OpensAs to_come absent (Ok source) = ⊥
OpensAs to_come absent (Err _) = Unit {0}
OpensAs to_come unknown result = Unit {0}
