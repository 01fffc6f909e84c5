use Rattle.std.proofs.Common.{◌∙◌, ap}
use Rattle.luks_audit.proofs.FloatLemmas.{more_no_float}
use Rattle.luks_audit.proofs.tree.Array.push.Goals as goal
use Rattle.serde_json.specs.View.{items_view}
use Rattle.serde_json.specs.Written.{items_have_float}

pub invariant_of-self-2 : goal.invariant_of-self-2
invariant_of-self-2 c =
    ap (λ values. items_have_float (items_view values)) c.in_ok-push.ensures.items
    ∙ more_no_float c.self.inside.values.items c.tree.inside.value c.self.invariant c.tree.invariant
