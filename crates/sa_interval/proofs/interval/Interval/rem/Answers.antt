use Rattle.std.proofs.Common.{◌≢◌, ◌∙◌, pos, sym}
use Rattle.sa_interval.specs.Rows.{single}
use Rattle.sa_interval.specs.Span.{IsInterval}
use Rattle.sa_interval.proofs.Remainders.{remainders_hold, nonzero_from}
use Rattle.sa_interval.proofs.interval.Interval.rem.Goals as goal

pub returns-else-is_zero-clause-holds : goal.returns-else-is_zero-clause-holds
returns-else-is_zero-clause-holds c =
    let first : IsInterval c.args.self = rw (← c.self.view_is) c.self.invariant in
    let second : IsInterval c.args.o = rw (← c.o.view_is) c.o.invariant in
    let nonzero : c.args.o ≢ single (pos 0) = nonzero_from c.args.o (sym c.is_zero.ensures ∙ c.if-is_zero.false) in
    rw c.remainders.ensures (remainders_hold c.args.self c.args.o first second.ordered nonzero)
