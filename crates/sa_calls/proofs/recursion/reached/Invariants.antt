use Rattle.std.proofs.Common.{◌≡◌, ◌<◌, ◌-◌, length, get_or, true, false}
use Rattle.sa_calls.proofs.ReachLemmas.{IsFront}
use Rattle.sa_calls.proofs.recursion.reached.Given as goal

abbrev pub invariant-loop-next : goal.invariant-loop-next
invariant-loop-next l = IsFront l.graph l.start l.seen.marks.items l.seen.order.items l.next × (l.start < length l.graph → get_or l.seen.marks.items l.start false ≡ true)

abbrev pub decreases-loop-next : goal.decreases-loop-next
decreases-loop-next l = length l.graph - l.next
