use Rattle.std.proofs.Common.{refl}
use Rattle.sa_declarations.proofs.TrimLemmas.{stands_skip}
use Rattle.sa_declarations.proofs.initial.Values.skip.Goals as goal

pub returns : goal.returns
returns c = λ zs n s k. stands_skip c.args.self _ zs c.args.count n refl c.saturating_add.ensures s k
