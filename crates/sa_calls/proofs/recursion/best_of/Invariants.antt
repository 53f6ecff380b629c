use Rattle.sa_calls.specs.Recursion.{IsFirstAmong, IsSeen}
use Rattle.sa_calls.proofs.recursion.best_of.Given as goal

abbrev pub invariant-loop-call : goal.invariant-loop-call
invariant-loop-call l = IsFirstAmong l.graph (IsSeen l.f l.call-index) l.best
