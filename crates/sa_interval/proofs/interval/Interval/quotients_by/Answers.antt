use Rattle.std.proofs.Common.{◌≡◌, ◌∙◌, to_z, of_z, refl, arith}
use mir.Syntax.{w128}
use Rattle.std.proofs.lemmas.Int.{ints, to_z-of_z}
use Rattle.sa_interval.specs.Rows.{quotients_by}
use Rattle.sa_interval.proofs.interval.Interval.quotients_by.Goals as goal

pub returns : goal.returns
unfolding quotients_by
returns c =
    let a : to_z w128 (of_z w128 c.self.inside.lo) ≡ c.self.inside.lo = omega (arith, ints) in
    let b : to_z w128 (of_z w128 c.self.inside.hi) ≡ c.self.inside.hi = omega (arith, ints) in
    let d : to_z w128 (of_z w128 c.o.inside.lo) ≡ c.o.inside.lo = omega (arith, ints) in
    let e : to_z w128 (of_z w128 c.o.inside.hi) ≡ c.o.inside.hi = omega (arith, ints) in
    let p = to_z-of_z w128 c.quotient.result (record { sfits = c.quotient.type_inv }) ∙ rw (a, d) at c.quotient.ensures.value in
    let q = to_z-of_z w128 c.quotient-2.result (record { sfits = c.quotient-2.type_inv }) ∙ rw (a, e) at c.quotient-2.ensures.value in
    let r = to_z-of_z w128 c.quotient-3.result (record { sfits = c.quotient-3.type_inv }) ∙ rw (b, d) at c.quotient-3.ensures.value in
    let s = to_z-of_z w128 c.quotient-4.result (record { sfits = c.quotient-4.type_inv }) ∙ rw (b, e) at c.quotient-4.ensures.value in
    c.hull.ensures ∙ rw (p, q, r, s, ← c.self.view_is, ← c.o.view_is) refl
