-- The key slots that may be tried.
use Rattle.std.specs.Prelude.{ℕ, ◌≡◌, IfSome, None, codes}
use Rattle.luks_format.specs.Derivation.{without_argon2}
use Rattle.luks2_json.specs.Numbered.{object_numbered}
use Rattle.luks2_metadata.specs.Kdf2.{variant_of}
use Rattle.luks_header.specs.declared.header.Header.{Header}
use Rattle.luks_header.specs.declared.header.Header.TheVariants.{V1, V2}
use Rattle.luks_open.specs.declared.allowed.AllowedSlots.{AllowedSlots}
use Rattle.luks_open.specs.declared.allowed.SlotChoice.{SlotChoice}

-- those that a command may try: none that needs Argon2
abbrev pub pbkdf2_alone : SlotChoice → AllowedSlots
pbkdf2_alone slots = record { named = slots.named; limits = without_argon2 slots.max_iterations }

-- the same key slots but for those that need Argon2
abbrev pub without : AllowedSlots → AllowedSlots
without slots = record { named = slots.named; limits = without_argon2 slots.limits.max_iterations }

-- Argon2 derives the key of no key slot of this header
abbrev pub NeedsNoArgon2 : Header → Type 0
NeedsNoArgon2 (V1 header) = Unit {0}
NeedsNoArgon2 (V2 header tree) =
    (number : ℕ) → IfSome (object_numbered (codes "keyslots") tree number) (λ slot. variant_of slot ≡ None)
