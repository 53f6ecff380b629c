use Rattle.std.proofs.Common.{arith}
use Rattle.sa_cells.proofs.SetLemmas.{placed-more, placed-end}
use Rattle.sa_cells.proofs.env.place.Goals as goal

pub overflow_add-first : goal.overflow_add-first
overflow_add-first c =
    let h = c.loop-k-test.true in
    let f = c.requires.fits in
    let w = c.requires.few in
    omega (arith, h, f, w)

pub loop-k-preserved : goal.loop-k-preserved
loop-k-preserved c =
    placed-more c.args.first c.loop-k.k c.args.new.now c.args.spans.now c.index-new-k.result c.index-new-k.result c.loop-k.spans c.set.new.self c.loop-k-test.true c.requires.fits c.index-new-k.is
    c.loop-k.invariant c.set.ensures

pub returns : goal.returns
returns c = placed-end c.args.first c.loop-k.k c.args.new.now c.args.spans.now c.loop-k.spans c.loop-k-test.false (omega arith) c.loop-k.invariant
