use Rattle.std.proofs.Common.{◌≡◌}
use Rattle.std.specs.Prelude.{All}
use Rattle.luks_kdf.specs.Pbkdf2.{capped}
use Rattle.luks_open.specs.Opening.{blocks_of, evaluations_of}
use Rattle.luks_open.specs.declared.entry.Entry.{Entry}
use Rattle.luks_open.proofs.TrialLemmas.{CountedBefore, NoneOpenedBefore}
use Rattle.luks_open.proofs.opening.first_opening.Given as goal

-- none of the earlier key slots opened, and what they cost was counted
abbrev pub invariant-entries : goal.invariant-entries
invariant-entries g l = record {
  unopened : NoneOpenedBefore l.entries l.image l.pass l.entry-index;
  work : CountedBefore evaluations_of l.entries l.image l.pass l.entry-index l.fn.work l.work;
  count : l.work ≡ capped l.work;
  filled : CountedBefore blocks_of l.entries l.image l.pass l.entry-index (g.D.Derive.blocks l.fn.derive)
      (g.D.Derive.blocks l.derive);
  derives : All (λ (entry : Entry). g.D.Derive.derives l.derive entry.slot.parts.derivation l.pass
      entry.slot.parts.salt) l.entries;
}
