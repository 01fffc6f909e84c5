use Rattle.std.proofs.Common.{◌≡◌, ◌+◌, ◌≤◌, ◌-◌, false, take, vec_len}
use Rattle.luks_io.specs.Devices.{ConsumedExactly, IfKnown}
use Rattle.luks_io.specs.Counts.{Reads}
use Rattle.luks_open.specs.KeyFile.{max_key_file_len}
use Rattle.luks_open.proofs.key_file.read_key_file.Given as goal

-- the bytes so far are the first ones of the key file, and no read was needless
abbrev pub invariant-pieces : goal.invariant-pieces
invariant-pieces g l = record {
  within : vec_len l.secret ≤ max_key_file_len + 1;
  reads : Reads false false (g.S.Source.counts l.initial.source) (g.S.Source.counts l.source);
  consumed : IfKnown (g.S.Source.to_come l.initial.source) (λ known. (l.secret.items ≡ take (vec_len l.secret) known)
      × ConsumedExactly known (g.S.Source.to_come l.source) (vec_len l.secret));
}

-- how many more bytes may be read
abbrev pub decreases-pieces : goal.decreases-pieces
decreases-pieces g l = max_key_file_len + 1 - vec_len l.secret
