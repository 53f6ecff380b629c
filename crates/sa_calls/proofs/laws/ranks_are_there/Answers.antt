use Rattle.sa_calls.proofs.RankLaws.{ranks-there}
use Rattle.sa_calls.proofs.laws.ranks_are_there.Goals as goal

pub returns : goal.returns
returns c = ranks-there
