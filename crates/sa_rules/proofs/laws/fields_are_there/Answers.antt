use Rattle.std.proofs.Common.{refl}
use Rattle.sa_rules.specs.Rules.{no_field}
use Rattle.sa_rules.proofs.Counts.{field_rule}
use Rattle.sa_rules.proofs.Exact.{exact}
use Rattle.sa_rules.proofs.laws.fields_are_there.Goals as goal

pub returns : goal.returns
returns c = record { listed = field_rule; exact = exact no_field 4 refl field_rule }
