use Rattle.sa_typed.proofs.DepthLaws.{calls-end}
use Rattle.sa_typed.proofs.laws.calls_end.Goals as goal

pub returns : goal.returns
returns c = calls-end
