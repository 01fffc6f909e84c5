-- Whether luksrd can try a key slot, and if not, why.
use Rattle.std.specs.Prelude.{ℕ, Bool, true, false, List, Option, Some, None, codes}
use Rattle.luks_format.specs.SkipReason.{reason_text}
use Rattle.luks_format.specs.declared.slot.VerdictKind.{VerdictKind}
use Rattle.luks_format.specs.declared.slot.VerdictKind.TheVariants.{Usable, Disabled, Skipped}

abbrev pub kind_text : VerdictKind → List ℕ
kind_text (Usable priority) = codes "usable"
kind_text Disabled = codes "disabled"
kind_text (Skipped reason) = codes "skipped"

abbrev pub reason_in : VerdictKind → Option (List ℕ)
reason_in (Skipped reason) = Some (reason_text reason)
reason_in _ = None

abbrev pub is_kind_usable : VerdictKind → Bool
is_kind_usable (Usable priority) = true
is_kind_usable _ = false
