use Rattle.std.proofs.Common.{◌≡◌, rules}
use Rattle.sa_interval.specs.BitRows.{right_shift_of}
use Rattle.sa_interval.proofs.Shifts.{least_right_shift}
use Rattle.sa_interval.proofs.interval.Interval.shr.Goals as goal

pub returns-clause-least : goal.returns-clause-least
returns-clause-least c =
    let row : c.hull.result ≡ right_shift_of c.args.self c.args.count = search rules in
    rw (row, ← c.self.view_is) (least_right_shift _ _ c.self.invariant c.as_counts-least.ensures.whole.ordered c.requires)
