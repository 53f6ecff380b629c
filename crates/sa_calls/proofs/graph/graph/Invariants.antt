use Rattle.std.proofs.Common.{◌≡◌, ◌++◌, drop}
use Rattle.sa_calls.specs.Recursion.{graph_of}
use Rattle.sa_calls.proofs.graph.graph.Given as goal

abbrev pub invariant-loop-func : goal.invariant-loop-func
invariant-loop-func l = l.graph.items ++ graph_of (drop l.func-index l.funcs) ≡ graph_of l.funcs
