use Rattle.sa_transfer.proofs.FixedLaws.{index_has}
use Rattle.sa_transfer.proofs.fixed.fixed_reach.Goals as goal

pub fixed_index-requires : goal.fixed_index-requires
fixed_index-requires c = rw c.get.ensures (index_has c.args.step.now c.in-At.field-0 c.in-At.n c.in-At.index c.in-At.is c.requires)
