use Rattle.sa_effects.proofs.Bridges.{agree}
use Rattle.sa_effects.proofs.laws.environments_are_flat.Goals as goal

pub returns : goal.returns
returns c = agree
