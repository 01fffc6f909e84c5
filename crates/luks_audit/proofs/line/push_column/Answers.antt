use Rattle.std.proofs.Common.{sym}
use Rattle.luks_audit.proofs.FloatLemmas.{get_no_float}
use Rattle.luks_audit.proofs.line.push_column.Goals as goal
use Rattle.serde_json.specs.View.{view}

pub push_value-requires : goal.push_value-requires
push_value-requires c =
    get_no_float c.args.name.now (view c.value.result.now) (view c.in-Some.value.now) (sym c.in-Some.ensures)
    c.value.ensures.no_float
