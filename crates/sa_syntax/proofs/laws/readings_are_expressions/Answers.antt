use Rattle.sa_syntax.proofs.ExprSound.{expressions}
use Rattle.sa_syntax.proofs.laws.readings_are_expressions.Goals as goal

pub returns : goal.returns
returns c = expressions
