use Rattle.std.proofs.Common.{refl}
use Rattle.sa_listing.specs.Texts.{alarm_text}
use Rattle.sa_listing.proofs.Written.{passed, over}
use Rattle.sa_listing.proofs.texts.push_alarms.Goals as goal

pub loop-alarm-preserved : goal.loop-alarm-preserved
loop-alarm-preserved c = passed alarm_text c.args.alarms.now c.loop-alarm.alarm-index _ _ _ _ _ c.loop-alarm-test.true refl c.in_ok-push_alarm.ensures c.loop-alarm.invariant

pub returns : goal.returns
returns c = over alarm_text c.args.alarms.now c.loop-alarm.alarm-index _ _ c.loop-alarm-test.false c.loop-alarm.invariant
