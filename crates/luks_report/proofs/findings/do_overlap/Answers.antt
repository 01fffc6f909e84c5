use Rattle.std.proofs.Common.{arith}
use Rattle.luks_format.proofs.RangeLemmas.{slot_range}
use Rattle.luks_report.proofs.findings.do_overlap.Goals as goal

pub overflow_add-a_end : goal.overflow_add-a_end
overflow_add-a_end c = record { fits = omega (arith, (slot_range c.args.a.now).loadable, c.key_material_len.ensures) }

pub overflow_add-b_end : goal.overflow_add-b_end
overflow_add-b_end c = record { fits = omega (arith, (slot_range c.args.b.now).loadable, c.key_material_len-2.ensures) }
