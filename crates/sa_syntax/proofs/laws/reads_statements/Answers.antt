use Rattle.sa_syntax.proofs.StmtComplete.{stmt-complete}
use Rattle.sa_syntax.proofs.laws.reads_statements.Goals as goal

pub returns : goal.returns
returns c = λ ns n ts us a x. stmt-complete x
