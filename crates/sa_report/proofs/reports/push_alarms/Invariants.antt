use Rattle.std.proofs.Common.{◌≡◌, ◌++◌, drop}
use Rattle.sa_report.specs.Report.{alarms_text}
use Rattle.sa_report.proofs.reports.push_alarms.Given as goal

abbrev pub invariant-loop-alarm : goal.invariant-loop-alarm
invariant-loop-alarm l = l.text.items ++ alarms_text (drop l.alarm-index l.alarms) ≡ l.initial.text.items ++ alarms_text l.alarms
