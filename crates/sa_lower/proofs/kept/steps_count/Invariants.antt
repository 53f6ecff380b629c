use Rattle.std.proofs.Common.{◌≡◌, ◌+◌, ◌≤◌, drop}
use Rattle.sa_ir.specs.Sizes.{capped}
use Rattle.sa_lower.specs.Arguments.{list_count}
use Rattle.sa_lower.proofs.kept.steps_count.Given as goal

abbrev pub invariant-loop-step : goal.invariant-loop-step
invariant-loop-step l = (capped (l.count + list_count (drop l.step-index l.steps)) ≡ capped (list_count l.steps)) × (l.count ≤ 18446744073709551615)
