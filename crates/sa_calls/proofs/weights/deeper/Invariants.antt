use Rattle.std.proofs.Common.{◌≡◌, ◌++◌, drop}
use Rattle.sa_calls.specs.Weights.{deeper}
use Rattle.sa_calls.proofs.weights.deeper.Given as goal

abbrev pub invariant-loop-func : goal.invariant-loop-func
invariant-loop-func l = l.next.items ++ deeper l.rows (drop l.func-index l.funcs) ≡ deeper l.rows l.funcs
