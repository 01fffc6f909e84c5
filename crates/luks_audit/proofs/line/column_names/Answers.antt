use Rattle.std.proofs.Common.{◌∙◌, lit<}
use Rattle.std.proofs.lemmas.Iterator.Consumers.{map_from_collect}
use Rattle.std.proofs.lemmas.Iterator.Splits.{YieldsList-from_str_split}
use Rattle.luks_audit.specs.Line.{columns}
use Rattle.luks_audit.proofs.line.column_names.Goals as goal

pub returns : goal.returns
returns c =
    map_from_collect _ c.collect.ensures.ran (YieldsList-from_str_split 9 columns (lit< tt)
    (c.split.ensures.text ∙ c.columns.ensures) c.split.ensures.has_more c.split.ensures.pattern)
