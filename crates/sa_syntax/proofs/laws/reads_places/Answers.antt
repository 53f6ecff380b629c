use Rattle.sa_syntax.proofs.ExprComplete.{place-complete}
use Rattle.sa_syntax.proofs.laws.reads_places.Goals as goal

pub returns : goal.returns
returns c = λ ns n ts us x h e. place-complete h e
