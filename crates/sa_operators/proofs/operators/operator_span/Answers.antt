use Rattle.std.proofs.Common.{◌≡◌}
use Rattle.sa_operators.proofs.OperatorCovers.{operators_cover}
use Rattle.sa_operators.proofs.OperatorStays.{operators_stay}
use Rattle.sa_operators.proofs.operators.operator_span.Goals as goal

pub returns-clause-in_type : goal.returns-clause-in_type
returns-clause-in_type c = rw c.operator_row.ensures (operators_stay c.args.op c.args.num c.args.a c.args.b c.requires.left c.requires.right)

pub returns-clause-covers : goal.returns-clause-covers
returns-clause-covers c = λ p x y v w. rw c.operator_row.ensures (operators_cover c.args.op p c.args.num c.args.a c.args.b x y c.requires.left c.requires.right v w)
