use Rattle.std.proofs.Common.{◌≡◌, drop}
use Rattle.sa_calls.specs.Recursion.{marks_all, order_all}
use Rattle.sa_calls.proofs.recursion.Seen.visit_all.Given as goal

abbrev pub invariant-loop-call : goal.invariant-loop-call
invariant-loop-call l =
    (marks_all (drop l.call-index l.calls) l.self.marks.items ≡ marks_all l.calls l.initial.self.marks.items)
    × (order_all (drop l.call-index l.calls) l.self.marks.items l.self.order.items ≡ order_all l.calls l.initial.self.marks.items l.initial.self.order.items)
