use Rattle.std.proofs.Common.{rules, ◌≡◌, ◌++◌, [], length}
use Rattle.sa_iterate.specs.Analysis.{found_by}
use Rattle.sa_report.specs.Loops.{all_text}
use Rattle.sa_report.specs.Report.{alarms_text, count_text}
use Rattle.sa_report.proofs.ReportLemmas.{report-whole}
use Rattle.sa_report.proofs.reports.report.Goals as goal

pub returns : goal.returns
returns c =
    let p = c.args.program.now in
    let f = found_by c.args.analysis.now in
    let first : c.push_stmts.new.text.items ≡ [] ++ all_text p f c.main_body.result.now = search rules in
    let second : c.push_alarms.new.text.items ≡ c.push_stmts.new.text.items ++ alarms_text c.args.alarms.now = search rules in
    let third : c.push_count.new.text.items ≡ c.push_alarms.new.text.items ++ count_text (length c.args.alarms.now) = search rules in
    report-whole p f c.main_body.result.now c.push_stmts.new.text.items c.push_alarms.new.text.items c.push_count.new.text.items c.args.alarms.now c.main_body.ensures c.requires.alarms first second third
