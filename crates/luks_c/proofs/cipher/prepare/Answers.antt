use Rattle.std.proofs.Common.{◌∙◌, List, ℕ, ap, rules, subst, sym}
use Rattle.std.proofs.lemmas.Option.{same_Some}
use Rattle.luks_cipher.specs.Expanded.{AreExpanded}
use Rattle.luks_format.specs.declared.segment.Segment.{Segment}
use Rattle.luks_c.specs.Stored.{key_in, segment_in}
use Rattle.luks_c.specs.declared.volume.LuksrdVolume.{LuksrdVolume}
use Rattle.luks_c.proofs.StoredLemmas.{filled_code}
use Rattle.luks_c.proofs.cipher.prepare.Goals as goal

pub returns-clause-prepared : goal.returns-clause-prepared
returns-clause-prepared c done = record {
  keys = λ s there.
      let segment = c.in-Some.segment in
      let new = c.store.new.self in
      let same = same_Some segment s (c.in-Some.ensures ∙ (ap segment_in (sym c.store.ensures.volume) ∙ there)) in
      let key = subst (λ (k : List ℕ). AreExpanded k segment.mode new.keys) c.in-Some-key.ensures.2 c.store.ensures.keys
      in
      subst (λ (w : LuksrdVolume). AreExpanded (key_in w) s.mode new.keys) (sym c.store.ensures.volume)
      (subst (λ (t : Segment). AreExpanded (key_in c.args.volume.now) t.mode new.keys) same key);
}

pub returns-in_default-clause-code : goal.returns-in_default-clause-code
returns-in_default-clause-code c = search rules

pub returns-in_default-clause-filled : goal.returns-in_default-clause-filled
returns-in_default-clause-filled c v filled =
    returns-in_default-clause-code c ∙ filled_code c.args.volume.now v filled

pub returns-in_default-key-clause-code : goal.returns-in_default-key-clause-code
returns-in_default-key-clause-code c = search rules

pub returns-in_default-key-clause-filled : goal.returns-in_default-key-clause-filled
returns-in_default-key-clause-filled c v filled =
    returns-in_default-key-clause-code c ∙ filled_code c.args.volume.now v filled
