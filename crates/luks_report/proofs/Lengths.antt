-- Bounds on the lengths of the texts of reasons, faults and small numbers.
use Rattle.std.proofs.Common.{ℕ, ◌<◌, ◌≤◌, length, arith}
use Rattle.std.specs.Fmt.{decimal}
use Rattle.std.proofs.lemmas.Fmt.{length-decimal-le}
use Rattle.luks_header.specs.SegmentFault.{fault_text}
use Rattle.luks_header.specs.SkipReason.{reason_text}
use Rattle.luks_format.specs.declared.fault.HeaderFault.{HeaderFault}
use Rattle.luks_format.specs.declared.fault.HeaderFault.TheVariants.{NotLuks}
use Rattle.luks_report.specs.HeaderFault.{fault_sentence}
use Rattle.luks_format.specs.declared.refusal.SkipReason.{SkipReason}
use Rattle.luks_format.specs.declared.refusal.SkipReason.TheVariants.{State}
use Rattle.luks_format.specs.declared.refusal.SegmentFault.{SegmentFault}
use Rattle.luks_format.specs.declared.refusal.SegmentFault.TheVariants.{Requirement}

pub reason_len : (reason : SkipReason) → length (reason_text reason) ≤ 19
reason_len State = omega arith
reason_len _ = omega arith

pub fault_len : (fault : SegmentFault) → length (fault_text fault) ≤ 11
fault_len Requirement = omega arith
fault_len _ = omega arith

pub sentence_len : (fault : HeaderFault) → length (fault_sentence fault) ≤ 50
sentence_len NotLuks = omega arith
sentence_len _ = omega arith

pub few_digits : (n : ℕ) → n < 256 → length (decimal n) ≤ 3
few_digits n few = length-decimal-le 3 n (omega arith) (omega (arith, few)) (omega (arith, few))
