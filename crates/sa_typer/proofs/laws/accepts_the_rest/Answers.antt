use Rattle.sa_typer.proofs.RefusalLaws.{accepts_the_rest}
use Rattle.sa_typer.proofs.laws.accepts_the_rest.Goals as goal

pub returns : goal.returns
returns c = accepts_the_rest
