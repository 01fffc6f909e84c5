use Rattle.std.proofs.Common.{◌≡◌, ◌∙◌, List, ℕ, ap, arith, length}
use Rattle.std.proofs.lemmas.List.{length-take}
use Rattle.luks_kdf.specs.Stripes.{AfSplitterModel, diffused}
use Rattle.luks_kdf.proofs.BytesLemmas.{take_prefix}
use Rattle.luks_kdf.proofs.stripes.AfSplitter.stripe.Goals as goal

pub returns-clause-next : goal.returns-clause-next
returns-clause-next c =
    let with_block : List ℕ → AfSplitterModel = λ block. record { hash = c.self.inside.hash; block = block } in
    let whole : length c.diffuse.new.block ≡ c.self.inside.len =
    omega (arith, length-take c.self.inside.len c.self.inside.block) in
    rw (← c.self.view_is) (ap with_block (take_prefix c.self.inside.len c.diffuse.new.block _ whole
    ∙ (c.diffuse.ensures ∙ ap (diffused c.self.inside.hash) c.xor_into.ensures)))
