use Rattle.std.proofs.Common.{rules, ◌≡◌, ◌++◌}
use Rattle.std.specs.Prelude.{codes}
use Rattle.std.proofs.lemmas.Result.{on_ok_weaker}
use Rattle.sa_report.proofs.ReportLemmas.{cell-whole}
use Rattle.sa_report.proofs.reports.push_cell.Goals as goal

pub returns : goal.returns
returns c =
    let first : c.extend_from_slice.new.self.items ≡ c.args.text.now.items ++ codes "  " = search rules in
    on_ok_weaker c.push_span.result
    (λ h. cell-whole c.args.program.now c.args.spot c.args.span.lo c.args.span.hi _ c.extend_from_slice.new.self.items c.push_name.new.text.items c.push_span.new.text.items c.requires.spot first c.in_ok-push_name.ensures h) c.push_span.ensures
