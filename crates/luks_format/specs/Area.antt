-- The start of an image, and how an area loads further bytes of it.
use Rattle.std.specs.Prelude.{◌≡◌, ℕ, ◌<◌, ◌≤◌, ◌↔◌, ◌⊎◌, ◌++◌, not, Bool, true, false, List, Option, Some, Result}
use Rattle.std.specs.Prelude.{Ok, Err, IfErr, IfOk, IsTrue, length, max, take}
use Rattle.luks_format.specs.declared.fault.HeaderFault.{HeaderFault}
use Rattle.luks_format.specs.declared.fault.HeaderFault.TheVariants.{Read, Memory}

-- the largest number of bytes of an image that are loaded: 32 MiB
abbrev pub max_loaded_len : ℕ
max_loaded_len = 33554432

-- the start of an image: the loaded bytes, and whether EOF was hit after them
pub record HeaderAreaModel : Type 0 where
  pub bytes : List ℕ
  pub ended : Bool

-- the loaded bytes are the start of the image, and the rest of it remains in its source
pub record IsStart (image loaded : List ℕ) (left : Option (List ℕ)) : Type 0 where
  pub rest : List ℕ
  pub behind : left ≡ Some rest
  pub is : image ≡ loaded ++ rest

-- bytes were appended to those already loaded, up to `end` in all, and the answer says whether that many are loaded:
-- after a fault, they are not
pub record Loads (end : ℕ) (loaded loaded' : List ℕ) (answer : Result Bool HeaderFault) : Type 0 where
  pub whole : IfOk answer (λ whole. IsTrue whole ↔ (end ≤ length loaded'))
  pub fewer : IfErr answer (λ _. length loaded' < end)
  pub within : length loaded' ≤ max (length loaded) end
  pub kept : take (length loaded) loaded' ≡ loaded
  pub only : IfErr answer (λ fault. (fault ≡ Read) ⊎ (fault ≡ Memory))

-- a failed read is reported
abbrev pub is_read_fault : {T : Type 0} → Result T HeaderFault → Bool
is_read_fault (Err Read) = true
is_read_fault _ = false

-- an image is reported to end before all requested bytes
abbrev pub loading_hits_end : Result Bool HeaderFault → Bool
loading_hits_end (Ok whole) = not whole
loading_hits_end (Err _) = false
