use Rattle.std.proofs.Common.{refl}
use Rattle.sa_rules.specs.Rules.{declared_twice}
use Rattle.sa_rules.proofs.Counts.{twice_rule}
use Rattle.sa_rules.proofs.Exact.{exact}
use Rattle.sa_rules.proofs.laws.names_are_declared_once.Goals as goal

pub returns : goal.returns
returns c = record { listed = twice_rule; exact = exact declared_twice 2 refl twice_rule }
