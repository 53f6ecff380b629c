use Rattle.sa_calls.proofs.VisitLemmas.{marks-more, order-more, marks-end, order-end}
use Rattle.sa_calls.proofs.recursion.Seen.visit_all.Goals as goal

pub loop-call-preserved : goal.loop-call-preserved
loop-call-preserved c = (
  marks-more _ c.loop-call.self.marks.items c.visit.new.self.marks.items c.args.calls.now c.loop-call.call-index _ c.loop-call-test.true c.in_ok-visit.ensures.marks c.loop-call.invariant.0,
  order-more _ c.loop-call.self.marks.items c.visit.new.self.marks.items c.loop-call.self.order.items c.visit.new.self.order.items c.args.calls.now c.loop-call.call-index _ c.loop-call-test.true c.in_ok-visit.ensures.marks
      c.in_ok-visit.ensures.order c.loop-call.invariant.1,
)

pub returns-clause-marks : goal.returns-clause-marks
returns-clause-marks c = marks-end _ c.loop-call.self.marks.items c.args.calls.now c.loop-call.call-index c.loop-call-test.false c.loop-call.invariant.0

pub returns-clause-order : goal.returns-clause-order
returns-clause-order c = order-end _ c.loop-call.self.marks.items c.loop-call.self.order.items c.args.calls.now c.loop-call.call-index c.loop-call-test.false c.loop-call.invariant.1
