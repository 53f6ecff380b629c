use Rattle.std.proofs.Common.{refl}
use Rattle.sa_rules.specs.Rules.{unassignable}
use Rattle.sa_rules.proofs.Counts.{assignment_rule}
use Rattle.sa_rules.proofs.Exact.{exact}
use Rattle.sa_rules.proofs.laws.left_sides_are_free.Goals as goal

pub returns : goal.returns
returns c = record { listed = assignment_rule; exact = exact unassignable 6 refl assignment_rule }
