use Rattle.std.proofs.Common.{◌≡◌, drop}
use Rattle.luks_audit.specs.Cipher.{has_word}
use Rattle.luks_audit.proofs.cipher.has_word.Given as goal

-- no word before this byte is the one
abbrev pub invariant-loop-mark : goal.invariant-loop-mark
invariant-loop-mark l = has_word l.word l.text ≡ has_word l.word (drop l.mark l.text)
