use Rattle.std.proofs.Common.{refl}
use Rattle.sa_rules.specs.Rules.{misqualified}
use Rattle.sa_rules.proofs.Counts.{qualifier_rule}
use Rattle.sa_rules.proofs.Exact.{exact}
use Rattle.sa_rules.proofs.laws.qualifiers_stand_in_place.Goals as goal

pub returns : goal.returns
returns c = record { listed = qualifier_rule; exact = exact misqualified 21 refl qualifier_rule }
