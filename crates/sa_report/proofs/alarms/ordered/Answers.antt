use Rattle.std.proofs.Common.{◌∙◌, sym}
use Rattle.sa_report.proofs.AlarmLemmas.{with_alarms-step, with_alarms-over}
use Rattle.sa_report.proofs.alarms.ordered.Goals as goal

pub loop-alarm-preserved : goal.loop-alarm-preserved
loop-alarm-preserved c = with_alarms-step c.loop-alarm.set.keys c.insert.new.self.keys c.args.alarms.now _ c.loop-alarm.alarm-index _ c.loop-alarm-test.true c.in_ok-insert.ensures.keys c.loop-alarm.invariant

pub returns : goal.returns
returns c = sym (with_alarms-over c.loop-alarm.set.keys c.args.alarms.now c.loop-alarm.alarm-index c.loop-alarm-test.false) ∙ c.loop-alarm.invariant
