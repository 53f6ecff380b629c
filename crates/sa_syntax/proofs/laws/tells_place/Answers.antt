use Rattle.sa_syntax.proofs.Nesting.{told_place}
use Rattle.sa_syntax.proofs.laws.tells_place.Goals as goal

pub returns : goal.returns
returns c = told_place
