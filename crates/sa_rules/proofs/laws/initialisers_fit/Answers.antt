use Rattle.std.proofs.Common.{refl}
use Rattle.sa_rules.specs.Rules.{ill_begun}
use Rattle.sa_rules.proofs.Counts.{initialiser_rule}
use Rattle.sa_rules.proofs.Exact.{exact}
use Rattle.sa_rules.proofs.laws.initialisers_fit.Goals as goal

pub returns : goal.returns
returns c = record { listed = initialiser_rule; exact = exact ill_begun 20 refl initialiser_rule }
