use Rattle.sa_interval.proofs.BitOps.{xors_hold}
use Rattle.sa_interval.proofs.interval.Interval.xor.Goals as goal

pub returns-clause-holds : goal.returns-clause-holds
returns-clause-holds c = rw c.xor_row.ensures (xors_hold c.args.self c.args.o c.args.full c.requires.full c.requires.first c.requires.second)
