use Rattle.std.proofs.Common.{rules, ◌≡◌, ◌∙◌, ◌++◌, ap, List}
use Rattle.std.proofs.lemmas.Result.{on_ok_weaker}
use Rattle.sa_interval.specs.Span.{Span}
use Rattle.sa_typed.specs.Lines.{ClockIn}
use Rattle.sa_report.specs.Loops.{cells_text}
use Rattle.sa_report.specs.Report.{line_text, lines_text, reached_text}
use Rattle.sa_report.proofs.ReportLemmas.{loop-whole}
use Rattle.sa_report.proofs.reports.push_reached.Goals as goal

pub returns : goal.returns
unfolding lines_text cells_text
returns c =
    let p = c.args.program.now in
    let q = c.args.place in
    let f = c.args.facts.now in
    let clock : c.push_clock.new.text.items ≡ c.push_header.new.text.items ++ line_text p (ClockIn f.state.clock.lo f.state.clock.hi) = search rules in
    on_ok_weaker c.push_cells.result
    (λ h. loop-whole _ c.push_header.new.text.items c.push_clock.new.text.items c.push_cells.new.text.items (reached_text q f.passes) (line_text p (ClockIn f.state.clock.lo f.state.clock.hi)) (cells_text p q f.state.cells)
    c.in_ok-push_header.ensures clock (h ∙ ap (λ (ss : List Span). c.push_clock.new.text.items ++ cells_text p q ss) c.as_slice.ensures))
    c.push_cells.ensures
