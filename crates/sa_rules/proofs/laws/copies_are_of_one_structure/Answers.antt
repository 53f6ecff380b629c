use Rattle.std.proofs.Common.{refl}
use Rattle.sa_rules.specs.Rules.{ill_copied}
use Rattle.sa_rules.proofs.Counts.{copy_rule}
use Rattle.sa_rules.proofs.Exact.{exact}
use Rattle.sa_rules.proofs.laws.copies_are_of_one_structure.Goals as goal

pub returns : goal.returns
returns c = record { listed = copy_rule; exact = exact ill_copied 7 refl copy_rule }
