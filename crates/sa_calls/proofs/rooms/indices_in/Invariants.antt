use Rattle.std.proofs.Common.{◌≡◌, ◌+◌, drop}
use Rattle.sa_calls.specs.Rooms.{indices_in}
use Rattle.sa_calls.specs.Weights.{capped}
use Rattle.sa_calls.proofs.rooms.indices_in.Given as goal

abbrev pub invariant-loop-step : goal.invariant-loop-step
invariant-loop-step l = (l.sum ≡ capped l.sum) × (capped (l.sum + indices_in (drop l.step-index l.steps)) ≡ capped (indices_in l.steps))
