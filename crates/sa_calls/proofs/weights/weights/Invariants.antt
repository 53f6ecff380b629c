use Rattle.sa_calls.specs.Weights.{AreWeights}
use Rattle.sa_calls.proofs.weights.weights.Given as goal

abbrev pub invariant-loop-done : goal.invariant-loop-done
invariant-loop-done l = AreWeights l.program l.done l.rows.items
