use Rattle.sa_syntax.proofs.UnitSound.{sources}
use Rattle.sa_syntax.proofs.laws.readings_are_sources.Goals as goal

pub returns : goal.returns
returns c = sources
