use Rattle.std.proofs.Common.{◌≡◌}
use Rattle.sa_operators.proofs.OperatorCovers.{prefixes_cover}
use Rattle.sa_operators.proofs.OperatorStays.{prefixes_stay}
use Rattle.sa_operators.proofs.operators.prefix_span.Goals as goal

pub returns-clause-in_type : goal.returns-clause-in_type
returns-clause-in_type c = rw c.prefix_row.ensures (prefixes_stay c.args.op c.args.num c.args.a c.requires)

pub returns-clause-covers : goal.returns-clause-covers
returns-clause-covers c = λ p x w. rw c.prefix_row.ensures (prefixes_cover c.args.op p c.args.num c.args.a x c.requires w)
