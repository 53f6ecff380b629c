use Rattle.std.proofs.Common.{refl}
use Rattle.sa_rules.specs.Rules.{no_constant}
use Rattle.sa_rules.proofs.Counts.{constant_rule}
use Rattle.sa_rules.proofs.Exact.{exact}
use Rattle.sa_rules.proofs.laws.constants_are_constant.Goals as goal

pub returns : goal.returns
returns c = record { listed = constant_rule; exact = exact no_constant 18 refl constant_rule }
