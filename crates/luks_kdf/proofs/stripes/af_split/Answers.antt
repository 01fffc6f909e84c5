use Rattle.std.proofs.Common.{◌≡◌, ◌∙◌, ◌++◌, ◌/◌, List, ℕ, ap, arith, length}
use Rattle.luks_kdf.specs.Bytes.{xor}
use Rattle.luks_kdf.specs.Stripes.{AfSplitterModel, splitter_block}
use Rattle.luks_kdf.proofs.StripesLemmas.{merged_split, whole_stripes}
use Rattle.luks_kdf.proofs.stripes.af_split.Goals as goal

pub returns-clause-split : goal.returns-clause-split
returns-clause-split c =
    let len = length c.args.key.now in
    let random = c.args.random.now in
    let number = c.requires.out in
    let last : c.last.new.out ≡ xor (splitter_block c.args.hash len random (length random / len)) c.args.key.now =
    c.last.ensures ∙ ap (λ (splitter : AfSplitterModel). xor splitter.block c.args.key.now)
    c.splitter_after-splitter.ensures.start in (
      length random / len,
      whole_stripes len (length random) number.0 (omega arith) number.1 (c.requires.random ∙ number.3),
      ap (λ (prefix : List ℕ). prefix ++ c.last.new.out) c.copy_from_slice.ensures.after
          ∙ ap (λ (back : List ℕ). random ++ back) last,
    )

pub returns-clause-merges : goal.returns-clause-merges
returns-clause-merges c =
    merged_split c.args.hash c.args.random.now c.args.key.now _ (omega arith) (returns-clause-split c)
