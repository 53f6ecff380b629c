use Rattle.sa_syntax.proofs.ExprComplete.{declrs-complete}
use Rattle.sa_syntax.proofs.laws.reads_declrs.Goals as goal

pub returns : goal.returns
returns c = λ ns n ts us x h e. declrs-complete h e
