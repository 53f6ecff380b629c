use Rattle.sa_report.proofs.ReportLemmas.{alarms-passed, alarms-over}
use Rattle.sa_report.proofs.reports.push_alarms.Goals as goal

pub loop-alarm-preserved : goal.loop-alarm-preserved
loop-alarm-preserved c = alarms-passed c.args.alarms.now c.loop-alarm.alarm-index _ _ _ _ c.loop-alarm-test.true c.in_ok-push_alarm.ensures c.loop-alarm.invariant

pub returns : goal.returns
returns c = alarms-over c.args.alarms.now c.loop-alarm.alarm-index _ _ c.loop-alarm-test.false c.loop-alarm.invariant
