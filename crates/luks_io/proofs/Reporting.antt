-- The result that is reported from a device's answers, one answer after the other.
use Rattle.std.proofs.Common.{◌≡◌, ℕ, zero, suc, ◌-◌, ◌<◌, List, [], ◌∷◌, Option, Some, Result, Err, refl, subst, arith}
use Rattle.luks_io.specs.CallOutcomes.{GivesNext, IsNextOf, ReportsFirst, ReportsFirstOf}
use Rattle.luks_io.specs.declared.DeviceFault.{DeviceFault}
use Rattle.luks_io.specs.declared.adapters.CallOutcome.{CallOutcome}
use Rattle.luks_io.specs.declared.adapters.CallOutcome.TheVariants.{Interrupted}

module _ (result_for : ℕ → Result ℕ DeviceFault) (before now : Option (List CallOutcome))
    (reported : Result ℕ DeviceFault) (after : Option (List CallOutcome)) where
  -- a call gave an answer, and this is reported from that answer and all further ones
  pub reports_from : (tries : ℕ) (answer : CallOutcome)
      → ((rest : List CallOutcome) → now ≡ Some rest → ReportsFirstOf result_for tries (answer ∷ rest) reported after)
      → GivesNext before answer now → ReportsFirst result_for before tries reported after
  reports_from tries answer reports next known is = of_all known (next known is)
    where
      of_all : (all : List CallOutcome) → IsNextOf all answer now → ReportsFirstOf result_for tries all reported after
      of_all [] none = tt
      of_all (a ∷ rest) (same, left) =
          subst (λ b. ReportsFirstOf result_for tries (b ∷ rest) reported after) same (reports rest left)

  -- a call was interrupted, and is retried
  pub reports_again : (tries : ℕ) → 0 < tries → GivesNext before Interrupted now
      → ReportsFirst result_for now (tries - 1) reported after → ReportsFirst result_for before tries reported after
  reports_again zero some next reports = absurd (omega arith)
  reports_again (suc tries) some next reports =
      let left : suc tries - 1 ≡ tries = omega arith in
      reports_from (suc tries) Interrupted (subst (λ n. ReportsFirst result_for now n reported after) left reports) next

-- the last try was interrupted
pub reports_last : (result_for : ℕ → Result ℕ DeviceFault) (before after : Option (List CallOutcome)) (tries : ℕ)
    → tries ≡ 0 → GivesNext before Interrupted after → ReportsFirst result_for before tries (Err record {}) after
reports_last result_for before after tries none next known is =
    rw none (reports_from result_for before after (Err record {}) after 0 Interrupted (λ rest left. (refl, left)) next
    known is)
