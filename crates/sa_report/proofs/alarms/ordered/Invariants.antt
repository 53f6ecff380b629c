use Rattle.std.proofs.Common.{◌≡◌, drop}
use Rattle.sa_report.specs.Alarms.{with_alarms, rising}
use Rattle.sa_report.proofs.alarms.ordered.Given as goal

abbrev pub invariant-loop-alarm : goal.invariant-loop-alarm
invariant-loop-alarm l = with_alarms l.set.keys (drop l.alarm-index l.alarms) ≡ rising l.alarms
