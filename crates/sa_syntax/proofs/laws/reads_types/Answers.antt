use Rattle.sa_syntax.proofs.ExprComplete.{type-complete}
use Rattle.sa_syntax.proofs.laws.reads_types.Goals as goal

pub returns : goal.returns
returns c = λ ns n ts us x h e. type-complete h e
