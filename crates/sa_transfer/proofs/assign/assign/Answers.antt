use Rattle.std.proofs.Common.{rules}
use Rattle.sa_transfer.proofs.FormLaws.{access_steps}
use Rattle.sa_transfer.proofs.ChangeLaws.{access_alike}
use Rattle.sa_transfer.proofs.ListLaws.{two_parts}
use Rattle.sa_transfer.proofs.assign.assign.Goals as goal

pub named_cells-requires-clause-typed : goal.named_cells-requires-clause-typed
named_cells-requires-clause-typed c = access_steps c.args.program.now _ c.args.access.now c.requires.access

pub assign_to-requires-clause-alike : goal.assign_to-requires-clause-alike
assign_to-requires-clause-alike c = rw c.in_ok-ks.ensures.value (access_alike c.args.program.now c.args.env.now c.requires.spans c.args.access.now c.args.num c.in_ok-s.s c.requires.access c.in_ok-s.ensures.in_type)

pub returns-clause-alarms : goal.returns-clause-alarms
returns-clause-alarms c = two_parts _ _ _ _ _ _ _ c.in_ok-ks.ensures.alarms c.in_ok-s.ensures.alarms (search rules)
