use Rattle.std.proofs.Common.{◌≡◌, drop}
use Rattle.sa_typed.specs.Cells.{cells}
use Rattle.sa_report.specs.Marks.{by_links, by_steps}
use Rattle.sa_report.proofs.shown.+marks.Given as goal

abbrev pub invariant-mark_links-loop-link : goal.invariant-mark_links-loop-link
invariant-mark_links-loop-link l = by_links (cells l.program) (drop l.link-index l.links) l.marks ≡ by_links (cells l.program) l.links l.initial.marks

abbrev pub invariant-mark_steps-loop-step : goal.invariant-mark_steps-loop-step
invariant-mark_steps-loop-step l = by_steps (cells l.program) (drop l.step-index l.steps) l.marks ≡ by_steps (cells l.program) l.steps l.initial.marks
