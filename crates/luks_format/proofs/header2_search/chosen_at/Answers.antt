use Rattle.std.proofs.Common.{◌∙◌}
use Rattle.luks_format.proofs.Search2Lemmas.{finding_is, first_is, later_chosen}
use Rattle.luks_format.proofs.header2_search.chosen_at.Goals as goal

pub with_valid_primary-requires : goal.with_valid_primary-requires
with_valid_primary-requires c = rw c.if-offset-eq0.true at (first_is c.args.bytes.now c.args.offset c.requires)

pub valid_header-requires-clause-valid : goal.valid_header-requires-clause-valid
valid_header-requires-clause-valid c = first_is c.args.bytes.now c.args.offset c.requires

pub valid_header-requires-clause-found : goal.valid_header-requires-clause-found
valid_header-requires-clause-found c =
    finding_is c.args.bytes.now c.args.offset c.requires c.if-offset-eq0.false

pub returns : goal.returns
returns c = c.valid_header.ensures ∙ later_chosen c.args.bytes.now c.args.offset c.requires c.if-offset-eq0.false
