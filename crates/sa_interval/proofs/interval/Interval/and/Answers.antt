use Rattle.sa_interval.proofs.BitOps.{ands_hold}
use Rattle.sa_interval.proofs.interval.Interval.and.Goals as goal

pub returns-clause-holds : goal.returns-clause-holds
returns-clause-holds c = rw c.and_row.ensures (ands_hold c.args.self c.args.o c.args.full c.requires.full c.requires.first c.requires.second)
