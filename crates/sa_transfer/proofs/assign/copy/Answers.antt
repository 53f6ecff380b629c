use Rattle.std.proofs.Common.{rules}
use Rattle.sa_transfer.proofs.ChangeLaws.{copy_steps_to, copy_steps_from}
use Rattle.sa_transfer.proofs.ListLaws.{two_noted}
use Rattle.sa_transfer.proofs.assign.copy.Goals as goal

pub note_indices-requires-clause-typed : goal.note_indices-requires-clause-typed
note_indices-requires-clause-typed c = copy_steps_to c.args.program.now c.args.to.now c.args.from.now c.requires.typed

pub note_indices-requires-2-clause-typed : goal.note_indices-requires-2-clause-typed
note_indices-requires-2-clause-typed c = copy_steps_from c.args.program.now c.args.to.now c.args.from.now c.requires.typed

pub returns-clause-alarms : goal.returns-clause-alarms
returns-clause-alarms c =
    let both = two_noted c.args.checking _ _ _ _ _ c.in_ok-note_indices.ensures c.in_ok-note_indices-2.ensures in
    search rules
