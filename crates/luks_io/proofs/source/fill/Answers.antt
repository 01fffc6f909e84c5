use Rattle.std.proofs.Common.{rules}
use Rattle.luks_io.proofs.EffectLemmas.{Consumes-next, consumed-prefix, consumed-kept, consumed-nothing, consumed-whole}
use Rattle.luks_io.proofs.source.fill.Goals as goal

pub loop-at-preserved : goal.loop-at-preserved
loop-at-preserved g c = record {
  within = search rules;
  consumed = Consumes-next _ _ _ c.loop-at.buf c.read.new.buf c.loop-at.at c.in-Ok.n c.loop-at.invariant.within
      c.in-Ok.ensures.bound.0 c.loop-at.invariant.consumed c.in-Ok.ensures.bytes.0;
  reads = search rules;
}

pub returns-in-Ok-eq0-clause-bytes : goal.returns-in-Ok-eq0-clause-bytes
returns-in-Ok-eq0-clause-bytes g c =
    consumed-nothing _ _ _ c.loop-at.buf c.read.new.buf c.loop-at.at c.in-Ok-eq0.field-0 c.in-Ok-eq0.field-0-test
    c.loop-at.invariant.within c.loop-at.invariant.consumed c.in-Ok-eq0.ensures.bytes.0

pub returns-in-Err-clause-bytes : goal.returns-in-Err-clause-bytes
returns-in-Err-clause-bytes g c =
    consumed-kept _ _ _ c.loop-at.buf c.read.new.buf c.loop-at.at c.loop-at.invariant.within
    c.loop-at.invariant.consumed c.in-Err.ensures.bytes

pub returns-clause-bytes : goal.returns-clause-bytes
returns-clause-bytes g c =
    consumed-prefix _ _ c.loop-at.buf c.loop-at.at c.loop-at.invariant.within c.loop-at.invariant.consumed

pub returns-clause-end : goal.returns-clause-end
returns-clause-end g c =
    consumed-whole _ _ c.loop-at.buf c.loop-at.at c.loop-at.invariant.within c.loop-at-test.false
    c.loop-at.invariant.consumed
