use Rattle.std.proofs.Common.{refl}
use Rattle.sa_rules.specs.Rules.{no_type}
use Rattle.sa_rules.proofs.Counts.{type_rule}
use Rattle.sa_rules.proofs.Exact.{exact}
use Rattle.sa_rules.proofs.laws.types_are_types.Goals as goal

pub returns : goal.returns
returns c = record { listed = type_rule; exact = exact no_type 3 refl type_rule }
