use Rattle.sa_interval.proofs.BitOps.{ors_hold}
use Rattle.sa_interval.proofs.interval.Interval.or.Goals as goal

pub returns-clause-holds : goal.returns-clause-holds
returns-clause-holds c = rw c.or_row.ensures (ors_hold c.args.self c.args.o c.args.full c.requires.full c.requires.first c.requires.second)
