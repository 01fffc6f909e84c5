use Rattle.std.proofs.Common.{List, ℕ, ap}
use Rattle.std.proofs.lemmas.List.{take-replicate}
use Rattle.luks_kdf.specs.Stripes.{AfSplitterModel}
use Rattle.luks_kdf.proofs.stripes.AfSplitter.new.Goals as goal

pub returns-clause-start : goal.returns-clause-start
returns-clause-start c =
    let with_block : List ℕ → AfSplitterModel = λ block. record { hash = c.args.hash; block = block } in
    ap with_block (take-replicate c.args.len 512 0 c.requires.capacity)
