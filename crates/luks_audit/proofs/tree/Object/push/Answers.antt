use Rattle.luks_audit.proofs.FloatLemmas.{kept_by_put}
use Rattle.luks_audit.proofs.tree.Object.push.Goals as goal
use Rattle.serde_json.specs.View.{members_view, view}

pub invariant_of-self : goal.invariant_of-self
invariant_of-self c =
    kept_by_put members_view c.put.result c.args.name.now (view c.tree.inside.value) c.self.inside.members.entries
    c.put.new.map.entries c.tree.invariant c.self.invariant c.put.ensures.ok c.put.ensures.err
