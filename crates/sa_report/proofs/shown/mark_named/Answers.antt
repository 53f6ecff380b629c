use Rattle.sa_report.proofs.shown.mark_named.Goals as goal

pub steps_taken-requires : goal.steps_taken-requires
steps_taken-requires c = record { program = c.args.program.now; typed = rw c.as_slice.ensures c.requires.typed }
