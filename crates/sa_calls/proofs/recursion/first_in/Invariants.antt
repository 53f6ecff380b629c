use Rattle.sa_calls.specs.Recursion.{IsFirstAmong, IsSeen}
use Rattle.sa_calls.proofs.recursion.first_in.Given as goal

abbrev pub invariant-loop-f : goal.invariant-loop-f
invariant-loop-f l = IsFirstAmong l.graph (IsSeen l.f 0) l.best
