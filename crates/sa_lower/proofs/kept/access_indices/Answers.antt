use Rattle.sa_lower.proofs.KeptLaws.{access_count}
use Rattle.sa_lower.proofs.kept.access_indices.Goals as goal

pub returns : goal.returns
returns c = access_count c.args.access.now c.as_slice.result.now c.steps_count.result c.as_slice.ensures c.steps_count.ensures
