use Rattle.std.proofs.Common.{◌≡◌}
use Rattle.luks_format.specs.Search2.{IsSearchOf}
use Rattle.luks_format.specs.declared.header2_search.Search.TheVariants.{Passed}
use Rattle.luks_format.proofs.header2_search.next_end2.Given as goal

abbrev pub invariant-loop-index : goal.invariant-loop-index
invariant-loop-index l = record { searched : IsSearchOf l.bytes l.search; at : l.search ≡ Passed l.index }
