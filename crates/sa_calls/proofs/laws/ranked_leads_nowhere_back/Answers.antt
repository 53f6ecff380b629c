use Rattle.sa_calls.proofs.RankLemmas.{none-back}
use Rattle.sa_calls.proofs.laws.ranked_leads_nowhere_back.Goals as goal

pub returns : goal.returns
returns c = none-back
