use Rattle.std.proofs.Common.{◌∙◌, ◌-◌, ◌*◌, ◌/◌, ap, arith, drop, length, take}
use Rattle.luks_kdf.specs.Bytes.{xor}
use Rattle.luks_kdf.specs.Stripes.{AfSplitterModel, splitter_block, merged, stripe_at}
use Rattle.luks_kdf.proofs.StripesLemmas.{one_left}
use Rattle.luks_kdf.proofs.stripes.af_merge.Goals as goal

pub returns : goal.returns
unfolding merged stripe_at
returns c =
    let len = length c.args.out.now in
    let stripes = c.args.stripes.now in
    let before = length stripes / len - 1 in
    let d = splitter_block c.args.hash len stripes before in
    c.last.ensures ∙ (ap (λ (splitter : AfSplitterModel). xor splitter.block (take (length stripes - before * len) (drop
    (before * len) stripes))) c.splitter_after-splitter.ensures.start
    ∙ ap (λ n. xor d (take n (drop (before * len) stripes)))
    (one_left len (length stripes) c.requires.stripes.0 (omega arith) c.requires.stripes.1 c.requires.stripes.3))
