use Rattle.sa_typer.proofs.RefusalLaws.{refuses_the_least}
use Rattle.sa_typer.proofs.laws.refuses_the_least.Goals as goal

pub returns : goal.returns
returns c = refuses_the_least
