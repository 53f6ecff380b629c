use Rattle.std.proofs.Common.{◌≡◌, drop}
use Rattle.sa_transfer.specs.Lists.{fixed_reached, then_reached}
use Rattle.sa_transfer.proofs.fixed.fixed_reached.Given as goal

abbrev pub invariant-loop-step : goal.invariant-loop-step
invariant-loop-step l = then_reached l.reaches (fixed_reached (drop l.step-index l.steps)) ≡ fixed_reached l.steps
