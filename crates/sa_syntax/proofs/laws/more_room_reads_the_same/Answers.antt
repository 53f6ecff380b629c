use Rattle.sa_syntax.proofs.NearExpr.{expressions_agree}
use Rattle.sa_syntax.proofs.laws.more_room_reads_the_same.Goals as goal

pub returns : goal.returns
returns c = expressions_agree
