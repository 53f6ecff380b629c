use Rattle.std.proofs.Common.{◌∙◌, sym, ap}
use Rattle.std.specs.Int.{w128, int_shr}
use Rattle.std.proofs.lemmas.Int.{to_z-of_z}
use Rattle.sa_dbm.specs.Bounds.{half}
use Rattle.sa_dbm.proofs.StoredLaws.{shown-none, shown-no_bound, shown_half, half_fits}
use Rattle.sa_dbm.proofs.stored.half.Goals as goal

pub returns-then-a-lt-NO_BOUND : goal.returns-then-a-lt-NO_BOUND
returns-then-a-lt-NO_BOUND c =
    let a = c.args.a in
    let is = to_z-of_z w128 a c.ranges.a in
    rw (is, to_z-of_z w128 (int_shr a 1) (half_fits a c.ranges.a)) (shown_half a (rw is at c.if-a-lt-NO_BOUND.true))

pub returns-else-a-lt-NO_BOUND : goal.returns-else-a-lt-NO_BOUND
returns-else-a-lt-NO_BOUND c = shown-no_bound ∙ sym (ap half (shown-none c.args.a (rw (to_z-of_z w128 c.args.a c.ranges.a) at c.if-a-lt-NO_BOUND.false)))
