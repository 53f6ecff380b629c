use Rattle.sa_typed.proofs.ProgressLaws.{never-breaks}
use Rattle.sa_typed.proofs.laws.never_breaks.Goals as goal

pub returns : goal.returns
returns c = never-breaks
