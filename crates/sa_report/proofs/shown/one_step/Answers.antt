use Rattle.sa_report.proofs.MarkLaws.{index_has}
use Rattle.sa_report.proofs.shown.one_step.Goals as goal

pub index_step-requires : goal.index_step-requires
index_step-requires c = rw c.get.ensures (index_has c.args.step.now _ c.in-At.n c.in-At.index c.in-At.is c.requires)
