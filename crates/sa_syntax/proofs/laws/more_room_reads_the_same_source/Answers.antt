use Rattle.sa_syntax.proofs.NearStmt.{sources_agree}
use Rattle.sa_syntax.proofs.laws.more_room_reads_the_same_source.Goals as goal

pub returns : goal.returns
returns c = sources_agree
