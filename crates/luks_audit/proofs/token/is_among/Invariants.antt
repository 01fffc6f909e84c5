use Rattle.std.proofs.Common.{◌≡◌, drop, map, string_bytes}
use Rattle.luks_audit.specs.Token.{is_among}
use Rattle.luks_audit.proofs.token.is_among.Given as goal

-- no name before this one is the text
abbrev pub invariant-loop-index : goal.invariant-loop-index
invariant-loop-index l =
    is_among l.text (map string_bytes l.names) ≡ is_among l.text (map string_bytes (drop l.index l.names))
