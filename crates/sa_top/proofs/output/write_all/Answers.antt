use Rattle.std.proofs.Common.{arith, length-drop}
use Rattle.sa_top.proofs.OutputLemmas.{rest-is, appends-more}
use Rattle.sa_top.proofs.output.write_all.Goals as goal

pub loop-at-preserved : goal.loop-at-preserved
loop-at-preserved g c =
    let some = rw (rest-is c.args.text.now c.loop-at.at) at c.in-Ok.ensures.some.1 in
    let taken = rw (rest-is c.args.text.now c.loop-at.at) at c.in-Ok.ensures.taken in
    let before = c.loop-at.invariant.count in
    let here = c.in-Ok.ensures.count in
    record {
      within = omega (arith, some, length-drop c.loop-at.at c.args.text.now);
      count = omega (arith, before, here);
      appends = appends-more _ _ _ c.args.text.now c.loop-at.at c.in-Ok.n c.loop-at.invariant.appends taken;
    }
