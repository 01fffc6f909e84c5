use Rattle.luks2_json.proofs.NumberedLemmas.{strings_more}
use Rattle.luks2_json.proofs.list.strings_among.Goals as goal

pub loop-value-preserved : goal.loop-value-preserved
loop-value-preserved c =
    let more = strings_more c.args.values.now c.loop-value.value-index c.value-item.result c.loop-value-test.true
    c.value-item.is in
    cc (more, c.in_ok-push_string.ensures)
