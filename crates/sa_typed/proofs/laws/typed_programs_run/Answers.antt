use Rattle.sa_typed.proofs.RunLaws.{typed-programs-run}
use Rattle.sa_typed.proofs.laws.typed_programs_run.Goals as goal

pub returns : goal.returns
returns c = typed-programs-run
