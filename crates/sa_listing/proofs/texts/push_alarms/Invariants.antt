use Rattle.std.proofs.Common.{◌≡◌, ◌++◌, drop, flat_map}
use Rattle.sa_listing.specs.Texts.{alarm_text}
use Rattle.sa_listing.proofs.texts.push_alarms.Given as goal

abbrev pub invariant-loop-alarm : goal.invariant-loop-alarm
invariant-loop-alarm l = l.text.items ++ flat_map alarm_text (drop l.alarm-index l.alarms) ≡ l.initial.text.items ++ flat_map alarm_text l.alarms
