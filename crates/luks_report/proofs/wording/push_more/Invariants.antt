use Rattle.std.proofs.Common.{◌≡◌, ◌+◌, ◌*◌, ◌≤◌, ◌++◌, length, take}
use Rattle.luks_report.specs.Texts.{more_skips_text}
use Rattle.luks_report.proofs.wording.push_more.Given as goal

-- the key slots so far are appended, each in at most 27 bytes
abbrev pub invariant-loop-skip : goal.invariant-loop-skip
invariant-loop-skip l = record {
  so_far : l.whole ≡ l.initial.whole ++ more_skips_text (take l.skip-index l.skipped);
  fits : length l.whole ≤ length l.initial.whole + 27 * l.skip-index;
}
