use Rattle.std.proofs.Common.{arith, rules, drop, length, length-take, length-drop, ◌-◌}
use Rattle.luks_io.proofs.EffectLemmas.{Appends-next, appended-all}
use Rattle.luks_io.proofs.sink.put_all.Goals as goal

pub loop-at-preserved : goal.loop-at-preserved
loop-at-preserved g c = record {
  within = omega (
    arith,
    length-take (length c.args.bytes.now - c.loop-at.at) (drop c.loop-at.at c.args.bytes.now),
    length-drop c.loop-at.at c.args.bytes.now,
    c.in-Ok.ensures.bound,
  );
  written = Appends-next _ _ _ c.args.bytes.now c.loop-at.at c.in-Ok.n c.loop-at.invariant.written
      c.in-Ok.ensures.bytes;
  writes = search rules;
}

pub returns-clause-ok : goal.returns-clause-ok
returns-clause-ok g c =
    appended-all _ _ c.args.bytes.now c.loop-at.at c.loop-at-test.false c.loop-at.invariant.written
