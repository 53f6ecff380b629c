use Rattle.std.proofs.Common.{◌≡◌, ◌∙◌, ◌+ℤ◌, to_z, of_z, refl, arith}
use mir.Syntax.{w128}
use Rattle.std.proofs.lemmas.Int.{ints}
use Rattle.sa_interval.proofs.Sums.{least_sum}
use Rattle.sa_interval.proofs.interval.Interval.add.Goals as goal

pub returns-clause-row : goal.returns-clause-row
returns-clause-row c =
    let lo : to_z w128 (of_z w128 (to_z w128 (of_z w128 c.self.inside.lo) +ℤ to_z w128 (of_z w128 c.o.inside.lo))) ≡ c.self.inside.lo +ℤ c.o.inside.lo = omega (arith, ints) in
    let hi : to_z w128 (of_z w128 (to_z w128 (of_z w128 c.self.inside.hi) +ℤ to_z w128 (of_z w128 c.o.inside.hi))) ≡ c.self.inside.hi +ℤ c.o.inside.hi = omega (arith, ints) in
    c.cut_between.ensures ∙ rw (lo, hi, ← c.self.view_is, ← c.o.view_is) refl

pub returns-clause-least : goal.returns-clause-least
returns-clause-least c = rw (returns-clause-row c, ← c.self.view_is, ← c.o.view_is) (least_sum _ _ c.self.invariant.ordered c.o.invariant.ordered)
