use Rattle.std.proofs.Common.{◌≡◌, ℕ, refl}
use Rattle.luks_open.specs.declared.fault.VolumeFault.{VolumeFault}
use Rattle.luks_open.specs.declared.fault.VolumeFault.TheVariants.{Argon2Memory}
use Rattle.luks_report.specs.Faults.{message_for_volume}
use Rattle.luks_c.specs.Stored.{StoresFault, StoresMessage}
use Rattle.luks_c.specs.declared.message.LuksrdMessage.{LuksrdMessage}
use Rattle.luks_c.proofs.code.answer_fault.Goals as goal

-- each other fault has a message
of_message : (c : LuksrdMessage) (fault : VolumeFault) → ((slot memory : ℕ) → fault ≡ Argon2Memory slot memory → ⊥)
    → StoresMessage c (message_for_volume fault) → StoresFault c fault
of_message c (Argon2Memory slot memory) never stores = absurd (never slot memory refl)
of_message c _ never stores = stores

pub returns-in_default : goal.returns-in_default
returns-in_default c = record {
  code = rw c.from.ensures at c.answer_message.ensures.code;
  message = of_message _ c.args.fault c.in_default.not-Argon2Memory
      (rw c.from.ensures at c.answer_message.ensures.message);
}
