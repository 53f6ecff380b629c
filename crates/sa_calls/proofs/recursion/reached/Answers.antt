use Rattle.std.proofs.Common.{rules, ◌≡◌, ◌<◌, ◌≤◌, ◌+◌, length, false, arith}
use Rattle.std.specs.Prelude.{replicate}
use Rattle.sa_calls.proofs.ReachLemmas.{begins-at, turn-at, order-few, all-marked}
use Rattle.sa_calls.proofs.recursion.reached.Goals as goal

pub loop-next-init : goal.loop-next-init
loop-next-init c =
    let none : c.in_ok-vec.field-0.items ≡ replicate (length c.args.graph.now) false = search rules in
    begins-at c.args.graph.now c.args.start c.in_ok-vec.field-0.items c.visit.new.self.marks.items c.new.result.items c.visit.new.self.order.items none c.new.ensures.items c.in_ok-visit.ensures.marks c.in_ok-visit.ensures.order

pub loop-next-smaller : goal.loop-next-smaller
loop-next-smaller c =
    let few = order-few c.args.graph.now c.args.start c.loop-next.seen.marks.items c.loop-next.seen.order.items c.loop-next.next c.loop-next.invariant.0 in
    let less : c.loop-next.next < length c.loop-next.seen.order.items = search rules in
    omega (arith, few, less)

pub loop-next-preserved : goal.loop-next-preserved
loop-next-preserved c =
    let less : c.loop-next.next < length c.loop-next.seen.order.items = search rules in
    turn-at c.args.graph.now c.args.start c.loop-next.seen.marks.items c.visit_all.new.self.marks.items c.loop-next.seen.order.items c.visit_all.new.self.order.items c.loop-next.next (c.loop-next.next + 1) c.index-f.result.now _ c.calls_at.result.now
    c.loop-next.invariant less c.index-f.ensures c.calls_at.ensures (omega arith) c.in_ok-visit_all.ensures.marks c.in_ok-visit_all.ensures.order

pub returns-clause-whole : goal.returns-clause-whole
returns-clause-whole c =
    let over : length c.loop-next.seen.order.items ≤ c.loop-next.next = search rules in
    λ h few leads. all-marked c.args.graph.now c.args.start c.loop-next.seen.marks.items c.loop-next.seen.order.items c.loop-next.next c.loop-next.invariant.0 over h c.args.start few c.loop-next.invariant.1 leads
