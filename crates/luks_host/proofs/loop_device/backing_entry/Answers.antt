use Rattle.luks_host.proofs.EntryLemmas.{entry_of_parts}
use Rattle.luks_host.proofs.loop_device.backing_entry.Goals as goal

pub returns : goal.returns
returns c = entry_of_parts c.args.number _ _ c.device_parts-parts.ensures _ c.entry_of.ensures
