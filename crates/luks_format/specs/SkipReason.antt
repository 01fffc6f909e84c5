-- Why a key slot is skipped, as dumps and messages state it.
use Rattle.std.specs.Prelude.{ℕ, List, Option, Some, None, codes}
use Rattle.luks_format.specs.declared.refusal.SkipReason.{SkipReason}
use Rattle.luks_format.specs.declared.refusal.SkipReason.TheVariants.{State, Kind, Member, Argon2i, Argon2id, Kdf}
use Rattle.luks_format.specs.declared.refusal.SkipReason.TheVariants.{Hash, Encryption, KeySize, Stripes, Iterations}
use Rattle.luks_format.specs.declared.refusal.SkipReason.TheVariants.{Argon2Time, Argon2Cpus, Argon2Memory}
use Rattle.luks_format.specs.declared.refusal.SkipReason.TheVariants.{Argon2MemoryLimit, Argon2FillLimit, Area, Digest}

-- the text of a reason
abbrev pub reason_text : SkipReason → List ℕ
reason_text State = codes "state"
reason_text Kind = codes "type"
reason_text Member = codes "member"
reason_text Argon2i = codes "argon2i"
reason_text Argon2id = codes "argon2id"
reason_text Kdf = codes "kdf"
reason_text Hash = codes "hash"
reason_text Encryption = codes "encryption"
reason_text KeySize = codes "key size"
reason_text Stripes = codes "stripes"
reason_text Iterations = codes "iterations"
reason_text Argon2Time = codes "argon2 time"
reason_text Argon2Cpus = codes "argon2 cpus"
reason_text Argon2Memory = codes "argon2 memory"
reason_text (Argon2MemoryLimit kib) = codes "argon2 memory limit"
reason_text (Argon2FillLimit kib) = codes "argon2 fill limit"
reason_text Area = codes "area"
reason_text Digest = codes "digest"

-- what a slot asks for in KiB, if that is above a limit on Argon2
abbrev pub asked_kib : SkipReason → Option ℕ
asked_kib (Argon2MemoryLimit kib) = Some kib
asked_kib (Argon2FillLimit kib) = Some kib
asked_kib _ = None
