use Rattle.sa_octagon.proofs.Ends.{doubled_fits, doubled_is}
use Rattle.sa_octagon.proofs.reads.doubled.Goals as goal

pub overflow_add-result : goal.overflow_add-result
overflow_add-result c = doubled_fits c.args.z c.requires

pub returns : goal.returns
returns c = doubled_is c.args.z c.requires
