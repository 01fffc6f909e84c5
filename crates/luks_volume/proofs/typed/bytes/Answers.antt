use Rattle.std.proofs.Common.{rules}
use Rattle.luks_volume.proofs.typed.bytes.Goals as goal

-- each element is a byte
pub returns : goal.returns
returns c = record { each = search rules }
