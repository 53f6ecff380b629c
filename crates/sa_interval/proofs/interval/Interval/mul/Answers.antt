use Rattle.std.proofs.Common.{◌≡◌, ◌∙◌, to_z, of_z, refl, arith}
use mir.Syntax.{w128}
use Rattle.std.proofs.lemmas.Int.{ints, to_z-of_z}
use Rattle.sa_interval.proofs.Products.{least_product}
use Rattle.sa_interval.proofs.interval.Interval.mul.Goals as goal

pub returns-clause-row : goal.returns-clause-row
returns-clause-row c =
    let a : to_z w128 (of_z w128 c.self.inside.lo) ≡ c.self.inside.lo = omega (arith, ints) in
    let b : to_z w128 (of_z w128 c.self.inside.hi) ≡ c.self.inside.hi = omega (arith, ints) in
    let d : to_z w128 (of_z w128 c.o.inside.lo) ≡ c.o.inside.lo = omega (arith, ints) in
    let e : to_z w128 (of_z w128 c.o.inside.hi) ≡ c.o.inside.hi = omega (arith, ints) in
    let p = to_z-of_z w128 c.product.result (record { sfits = c.product.type_inv }) ∙ rw (a, d) at c.product.ensures.value in
    let q = to_z-of_z w128 c.product-2.result (record { sfits = c.product-2.type_inv }) ∙ rw (a, e) at c.product-2.ensures.value in
    let r = to_z-of_z w128 c.product-3.result (record { sfits = c.product-3.type_inv }) ∙ rw (b, d) at c.product-3.ensures.value in
    let s = to_z-of_z w128 c.product-4.result (record { sfits = c.product-4.type_inv }) ∙ rw (b, e) at c.product-4.ensures.value in
    c.hull.ensures ∙ rw (p, q, r, s, ← c.self.view_is, ← c.o.view_is) refl

pub returns-clause-least : goal.returns-clause-least
returns-clause-least c = rw (returns-clause-row c, ← c.self.view_is, ← c.o.view_is) (least_product _ _ c.self.invariant.ordered c.o.invariant.ordered)
