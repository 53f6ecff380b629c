use Rattle.std.proofs.Common.{◌≡◌, ◌++◌, drop}
use Rattle.std.specs.Prelude.{option_map}
use Rattle.sa_report.specs.Marks.{steps_taken}
use Rattle.sa_report.proofs.shown.steps_taken.Given as goal

abbrev pub invariant-loop-step : goal.invariant-loop-step
invariant-loop-step l = option_map (λ rs. l.reaches ++ rs) (steps_taken (drop l.step-index l.steps)) ≡ steps_taken l.steps
