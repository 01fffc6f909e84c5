use Rattle.std.proofs.Common.{◌≡◌, drop}
use Rattle.luks_audit.specs.Token.{has_random_key}
use Rattle.luks_audit.proofs.token.has_random_key.Given as goal

-- no token before this one says it
abbrev pub invariant-loop-index : goal.invariant-loop-index
invariant-loop-index l = has_random_key l.slot l.tokens ≡ has_random_key l.slot (drop l.index l.tokens)
