use Rattle.std.proofs.Common.{◌≡◌, flat_map, take}
use Rattle.luks_audit.specs.Token.{named_token}
use Rattle.luks_audit.proofs.token.slot_tokens.Given as goal

-- the tokens so far
abbrev pub invariant-loop-token : goal.invariant-loop-token
invariant-loop-token l = l.named ≡ flat_map (named_token l.slot) (take l.token-index l.tokens)
