use Rattle.std.proofs.Common.{rules}
use Rattle.luks_aes.proofs.ScheduleLemmas.{key_of_schedule, expanded_is}
use Rattle.luks_aes.proofs.aes.AesKey.expanded.Goals as goal

pub invariant_of-result : goal.invariant_of-result
invariant_of-result c =
    expanded_is c.args.key.now c.expanded-schedule.result _ c.expanded-schedule.ensures
    (record { each = search rules }) c.inv_mixed_words-inv_mixed.ensures

pub returns : goal.returns
returns c = key_of_schedule c.args.key.now c.expanded-schedule.result c.expanded-schedule.ensures
