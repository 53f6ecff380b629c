use Rattle.sa_syntax.proofs.Nesting.{told_depth}
use Rattle.sa_syntax.proofs.laws.tells_depth.Goals as goal

pub returns : goal.returns
returns c = told_depth
