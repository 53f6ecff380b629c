use Rattle.sa_interval.proofs.Quotients.{least_quotient}
use Rattle.sa_interval.proofs.interval.Interval.div.Goals as goal

pub returns-clause-least : goal.returns-clause-least
returns-clause-least c = rw (c.join_some.ensures, c.quotients_below_zero.ensures, c.quotients_above_zero.ensures, ← c.self.view_is, ← c.o.view_is) (least_quotient _ _ c.self.invariant c.o.invariant)
