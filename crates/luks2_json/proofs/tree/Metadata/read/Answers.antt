use Rattle.luks2_json.proofs.TreeLemmas.{answer_of-read, tree_of-unread}
use Rattle.luks2_json.proofs.tree.Metadata.read.Goals as goal

pub returns-in-Ok-clause-ok : goal.returns-in-Ok-clause-ok
returns-in-Ok-clause-ok c =
    (answer_of-read c.args.text.now _ _ c.in-Ok.ensures.ok.0 c.in-Ok.ensures.ok.1 c.with_tree.ensures).0

pub returns-in-Ok-clause-json : goal.returns-in-Ok-clause-json
returns-in-Ok-clause-json c =
    (answer_of-read c.args.text.now _ _ c.in-Ok.ensures.ok.0 c.in-Ok.ensures.ok.1 c.with_tree.ensures).1

pub returns-in-Err-clause-json : goal.returns-in-Err-clause-json
returns-in-Err-clause-json c is =
    tree_of-unread c.args.text.now (c.in-Err.ensures.err (c.fault_of.ensures.json.0 (cc)))
