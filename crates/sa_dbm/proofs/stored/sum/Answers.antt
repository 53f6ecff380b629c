use Rattle.std.proofs.Common.{◌+ℤ◌, ◌∙◌, sym}
use Rattle.std.specs.Int.{w128}
use Rattle.std.proofs.lemmas.Int.{to_z-of_z}
use Rattle.sa_dbm.specs.Stored.{shown}
use Rattle.sa_dbm.proofs.BoundLaws.{plus_none}
use Rattle.sa_dbm.proofs.StoredLaws.{shown-none, shown-no_bound, shown_sum, sum_fits}
use Rattle.sa_dbm.proofs.stored.sum.Goals as goal
use Rattle.sa_dbm.proofs.stored.sum.Goals.{else-a-lt-NO_BOUND-via-then-a-lt-NO_BOUND+else-b-lt-NO_BOUND, else-a-lt-NO_BOUND-via-else-a-lt-NO_BOUND}

pub overflow_add-result : goal.overflow_add-result
overflow_add-result c =
    let p = to_z-of_z w128 c.args.a c.ranges.a in
    let q = to_z-of_z w128 c.args.b c.ranges.b in
    rw (p, q) (sum_fits c.args.a c.args.b (rw p at c.if-a-lt-NO_BOUND.true) (rw q at c.if-b-lt-NO_BOUND.true) c.requires.first c.requires.second)

pub returns-then-b-lt-NO_BOUND : goal.returns-then-b-lt-NO_BOUND
returns-then-b-lt-NO_BOUND c =
    let p = to_z-of_z w128 c.args.a c.ranges.a in
    let q = to_z-of_z w128 c.args.b c.ranges.b in
    let h = rw p at c.if-a-lt-NO_BOUND.true in
    let k = rw q at c.if-b-lt-NO_BOUND.true in
    let fits = sum_fits c.args.a c.args.b h k c.requires.first c.requires.second in
    rw (p, q, to_z-of_z w128 (c.args.a +ℤ c.args.b) fits) (shown_sum c.args.a c.args.b h k c.requires.first c.requires.second)

pub returns-else-a-lt-NO_BOUND : goal.returns-else-a-lt-NO_BOUND
returns-else-a-lt-NO_BOUND c =
    elim c.else-a-lt-NO_BOUND.branch [
      | else-a-lt-NO_BOUND-via-then-a-lt-NO_BOUND+else-b-lt-NO_BOUND w ↦
          rw (shown-none c.args.b (rw (to_z-of_z w128 c.args.b c.ranges.b) at w.if-b-lt-NO_BOUND.false)) (shown-no_bound ∙ sym (plus_none (shown c.args.a)))
      | else-a-lt-NO_BOUND-via-else-a-lt-NO_BOUND w ↦
          rw (shown-none c.args.a (rw (to_z-of_z w128 c.args.a c.ranges.a) at w.if-a-lt-NO_BOUND.false)) shown-no_bound
    ]
