-- What opening a volume costs: evaluations of HMAC, and blocks of 1 KiB that Argon2 fills.
use Rattle.std.specs.Prelude.{◌≡◌, ℕ, ◌+◌, List, take, sum_by, MatchResult, Result, Ok, Err}
use Rattle.luks_kdf.specs.Pbkdf2.{capped}
use Rattle.luks_open.specs.Location.{HeaderReader}
use Rattle.luks_open.specs.Opening.{StopsAfter, blocks_of, evaluations_of, tried_of}
use Rattle.luks_open.specs.Volume.{Volume, volume_by}
use Rattle.luks_open.specs.declared.allowed.AllowedSlots.{AllowedSlots}
use Rattle.luks_open.specs.declared.entry.Entry.{Entry}
use Rattle.luks_open.specs.declared.fault.OpenFault.TheVariants.{NoKey}
use Rattle.luks_open.specs.declared.fault.VolumeFault.{VolumeFault}
use Rattle.luks_open.specs.declared.fault.VolumeFault.TheVariants.{Argon2Memory, Slots}
use Rattle.luks_open.specs.declared.unlocked.UnlockedVolume.{UnlockedVolume}

-- the counts of both
pub record Costs : Type 0 where
  pub work : ℕ
  pub blocks : ℕ

-- the counts were raised by what trying these key slots costs
pub record AddsCosts (tried : List Entry) (before after : Costs) : Type 0 where
  pub work : after.work ≡ capped (before.work + sum_by evaluations_of tried)
  pub blocks : capped after.blocks ≡ capped (before.blocks + sum_by blocks_of tried)

-- the counts are what they were
pub record KeepsCosts (before after : Costs) : Type 0 where
  pub work : after.work ≡ before.work
  pub blocks : capped after.blocks ≡ capped before.blocks

-- opening a volume ended in this way, and the counts were raised by what the key slots cost that were tried: up to the
-- first that opens, all if none does, or those before the one for which memory was refused. They are what they were if
-- opening ended before any was tried
abbrev pub CountsCosts : Volume → List ℕ → List ℕ → Result UnlockedVolume VolumeFault → Costs → Costs → Type 0
CountsCosts volume image pass (Ok _) before after = AddsCosts (tried_of volume.order.entries image pass) before after
CountsCosts volume image pass (Err (Slots (NoKey _))) before after =
    AddsCosts (tried_of volume.order.entries image pass) before after
CountsCosts volume image pass (Err (Argon2Memory slot memory)) before after =
    (n : ℕ) × StopsAfter volume.order.entries image pass n slot memory
    × AddsCosts (take n volume.order.entries) before after
CountsCosts volume image pass _ before after = KeepsCosts before after

-- the same for the volume of an image, if it has one whose header is read in this way
abbrev pub CountsOfImage
    : HeaderReader → AllowedSlots → List ℕ → List ℕ → Result UnlockedVolume VolumeFault → Costs → Costs → Type 0
CountsOfImage read slots image pass result before after =
    MatchResult (volume_by read slots image) (λ volume. CountsCosts volume image pass result before after)
    (λ _. KeepsCosts before after)
