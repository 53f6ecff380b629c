use Rattle.std.proofs.Common.{refl}
use Rattle.sa_rules.specs.Rules.{undeclared}
use Rattle.sa_rules.proofs.Counts.{undeclared_rule}
use Rattle.sa_rules.proofs.Exact.{exact}
use Rattle.sa_rules.proofs.laws.names_are_declared.Goals as goal

pub returns : goal.returns
returns c = record { listed = undeclared_rule; exact = exact undeclared 1 refl undeclared_rule }
