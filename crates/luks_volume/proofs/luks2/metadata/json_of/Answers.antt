use Rattle.std.proofs.Common.{◌∙◌, ◌≤◌, Some, ap, subst, sym}
use Rattle.std.proofs.lemmas.Result.{IfOk-weaker}
use Rattle.serde_json.specs.Data.{depth}
use Rattle.serde_json.specs.Written.{compact_text, has_float}
use Rattle.luks_volume.specs.Layout2.{json_of}
use Rattle.luks_volume.proofs.MetadataLemmas.{metadata_flat, text_read}
use Rattle.luks_volume.proofs.luks2.metadata.json_of.Goals as goal

pub returns-clause-text : goal.returns-clause-text
unfolding json_of
returns-clause-text c =
    let is = c.in_ok-metadata_of.ensures in
    let whole = ap has_float is ∙ (metadata_flat c.args.seal.now).whole in
    IfOk-weaker c.to_vec.result _ _ (λ text has. has whole ∙ ap compact_text is) c.to_vec.ensures.text

pub returns-clause-reads_back : goal.returns-clause-reads_back
returns-clause-reads_back c =
    let is = c.in_ok-metadata_of.ensures in
    let flat = subst (λ d. depth d ≤ 127) (sym is) (metadata_flat c.args.seal.now).flat in
    text_read c.args.seal.now c.to_vec.result (returns-clause-text c) c.to_vec.ensures.utf8
    (IfOk-weaker c.to_vec.result _ _ (λ text has. has flat ∙ ap Some is) c.to_vec.ensures.reads_back)
