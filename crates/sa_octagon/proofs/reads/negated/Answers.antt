use Rattle.sa_octagon.proofs.Ends.{negated_fits, negated}
use Rattle.sa_octagon.proofs.reads.negated.Goals as goal

pub overflow_sub-result : goal.overflow_sub-result
overflow_sub-result c = negated_fits c.args.z c.requires

pub returns : goal.returns
returns c = negated c.args.z c.requires
