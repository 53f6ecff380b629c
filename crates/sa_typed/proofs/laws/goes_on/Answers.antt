use Rattle.sa_typed.proofs.ProgressLaws.{goes-on}
use Rattle.sa_typed.proofs.laws.goes_on.Goals as goal

pub returns : goal.returns
returns c = goes-on
