use Rattle.std.proofs.Common.{rules}
use Rattle.std.proofs.lemmas.Result.{on_ok_weaker}
use Rattle.sa_transfer.proofs.ChangeLaws.{compound_left, compound_right, some_small}
use Rattle.sa_transfer.proofs.ListLaws.{two_noted, two_parts}
use Rattle.sa_transfer.proofs.assign.compound_value.Goals as goal

pub operated-requires-clause-left : goal.operated-requires-clause-left
operated-requires-clause-left c = compound_left c.args.op c.args.num c.args.work _ c.args.left c.requires.link c.requires.left

pub operated-requires-clause-right : goal.operated-requires-clause-right
operated-requires-clause-right c = compound_right c.args.op c.args.num c.args.work c.args.e.now c.in_ok-right.right c.requires.link c.in_ok-right.ensures.in_type

pub converted-requires : goal.converted-requires
converted-requires c = some_small _ c.in_ok-result.result c.in_ok-result.ensures.in_type

pub returns-clause-alarms : goal.returns-clause-alarms
returns-clause-alarms c =
    on_ok_weaker c.converted.result (λ h. two_parts _ _ _ _ _ _ _ c.in_ok-right.ensures.alarms (two_noted _ _ _ _ _ _ c.in_ok-result.ensures.alarms h) (search rules)) c.converted.ensures.alarms
