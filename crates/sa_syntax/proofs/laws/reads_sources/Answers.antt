use Rattle.sa_syntax.proofs.UnitComplete.{source-complete}
use Rattle.sa_syntax.proofs.laws.reads_sources.Goals as goal

pub returns : goal.returns
returns c = source-complete
