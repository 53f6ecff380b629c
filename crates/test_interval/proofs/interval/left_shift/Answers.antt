use Rattle.std.proofs.Common.{refl}
use Rattle.test_interval.proofs.interval.left_shift.Goals as goal

pub shl-requires-clause-values : goal.shl-requires-clause-values
shl-requires-clause-values c = rw c.new.ensures at (c.if-not-le.ensures.fact.0 refl)

pub shl-requires-clause-count : goal.shl-requires-clause-count
shl-requires-clause-count c = rw c.new-2.ensures at (c.if-not-le-2.ensures.fact.0 refl)
