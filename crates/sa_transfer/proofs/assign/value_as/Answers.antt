use Rattle.std.proofs.Common.{rules}
use Rattle.std.proofs.lemmas.Result.{on_ok_weaker}
use Rattle.sa_transfer.proofs.ListLaws.{two_parts}
use Rattle.sa_transfer.proofs.assign.value_as.Goals as goal

pub returns-clause-alarms : goal.returns-clause-alarms
returns-clause-alarms c = on_ok_weaker c.converted.result (λ h. two_parts _ _ _ _ _ _ _ c.in_ok-s.ensures.alarms h (search rules)) c.converted.ensures.alarms
