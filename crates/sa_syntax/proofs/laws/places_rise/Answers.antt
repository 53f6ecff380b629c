use Rattle.sa_syntax.proofs.Rising.{places-rise}
use Rattle.sa_syntax.proofs.laws.places_rise.Goals as goal

pub returns : goal.returns
returns c = places-rise
