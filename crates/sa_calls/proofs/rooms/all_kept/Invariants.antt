use Rattle.std.proofs.Common.{◌≡◌, ◌+◌, drop}
use Rattle.sa_typed.specs.Frames.{all_kept}
use Rattle.sa_calls.specs.Weights.{capped}
use Rattle.sa_calls.proofs.rooms.all_kept.Given as goal

abbrev pub invariant-loop-arg : goal.invariant-loop-arg
invariant-loop-arg l = (l.sum ≡ capped l.sum) × (capped (l.sum + all_kept (drop l.arg-index l.args)) ≡ capped (all_kept l.args))
