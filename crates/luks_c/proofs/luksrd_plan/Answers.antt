use Rattle.std.proofs.Common.{◌∙◌, rules}
use Rattle.luks_c.proofs.StoredLemmas.{planned, planned_code}
use Rattle.luks_c.proofs.luksrd_plan.Goals as goal

pub returns-in_default-clause-code : goal.returns-in_default-clause-code
returns-in_default-clause-code c = search rules

pub returns-in_default-clause-within : goal.returns-in_default-clause-within
returns-in_default-clause-within c v image stored long =
    returns-in_default-clause-code c
    ∙ planned_code c.args.cipher.now.volume v stored image c.args.image_len c.args.offset c.args.len long

pub returns-in-None-clause-code : goal.returns-in-None-clause-code
returns-in-None-clause-code c = search rules

pub returns-in-None-clause-within : goal.returns-in-None-clause-within
returns-in-None-clause-within c v image stored long =
    returns-in-None-clause-code c
    ∙ planned_code c.args.cipher.now.volume v stored image c.args.image_len c.args.offset c.args.len long

pub returns-in-Some-plan-clause-code : goal.returns-in-Some-plan-clause-code
returns-in-Some-plan-clause-code c = search rules

pub returns-in-Some-plan-clause-within : goal.returns-in-Some-plan-clause-within
returns-in-Some-plan-clause-within c v image stored long =
    returns-in-Some-plan-clause-code c
    ∙ planned_code c.args.cipher.now.volume v stored image c.args.image_len c.args.offset c.args.len long

pub returns-in-Some-plan-clause-plans : goal.returns-in-Some-plan-clause-plans
returns-in-Some-plan-clause-plans c = search rules

pub returns-in-Some-plan-clause-stored : goal.returns-in-Some-plan-clause-stored
returns-in-Some-plan-clause-stored c v image stored long done =
    planned c.args.cipher.now.volume v stored image c.args.image_len c.args.offset c.args.len _ long
    (returns-in-Some-plan-clause-plans c done)
