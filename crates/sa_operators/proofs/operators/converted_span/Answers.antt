use Rattle.std.proofs.Common.{◌≡◌}
use Rattle.sa_operators.specs.Operators.{converted_span}
use Rattle.sa_operators.proofs.FitLaws.{conversions_cover, conversions_stay}
use Rattle.sa_operators.proofs.operators.converted_span.Goals as goal

pub returns-clause-in_type : goal.returns-clause-in_type
returns-clause-in_type c = rw c.in_type_span.ensures (conversions_stay c.args.num c.args.s c.requires)

pub returns-clause-covers : goal.returns-clause-covers
returns-clause-covers c = λ p z w. rw c.in_type_span.ensures (conversions_cover c.args.num p c.args.s z c.requires w)
