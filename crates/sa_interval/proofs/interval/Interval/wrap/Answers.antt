use Rattle.sa_interval.proofs.TypeRanges.{width-range}
use Rattle.sa_interval.proofs.Wraps.{residues_hold}
use Rattle.sa_interval.proofs.interval.Interval.wrap.Goals as goal

pub returns-clause-holds : goal.returns-clause-holds
returns-clause-holds c = rw c.wrap_row.ensures (residues_hold c.args.self c.args.bits (width-range c.args.bits c.requires).1)
