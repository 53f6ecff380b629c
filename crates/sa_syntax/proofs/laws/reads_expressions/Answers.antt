use Rattle.sa_syntax.proofs.ExprComplete.{whole-complete}
use Rattle.sa_syntax.proofs.laws.reads_expressions.Goals as goal

pub returns : goal.returns
returns c = λ ns n ts us x h e. whole-complete h e
