-- Products are least.
use Rattle.std.proofs.Common.{◌≤ℤ◌, refl}
use Rattle.sa_interval.specs.Span.{Span, IsLeast}
use Rattle.sa_interval.specs.Rows.{Products, product_of}
use Rattle.sa_interval.proofs.Hulls.{least_hull}
use Rattle.sa_interval.proofs.Least.{within_lo, within_hi}
use Rattle.sa_numbers.proofs.Products.{product-corners}

pub least_product : (a b : Span) → a.lo ≤ℤ a.hi → b.lo ≤ℤ b.hi → IsLeast (Products a b) (product_of a b)
least_product a b p q =
    let al = within_lo a p in
    let ah = within_hi a p in
    let bl = within_lo b q in
    let bh = within_hi b q in
    least_hull (Products a b) _ _ _ _
    (a.lo, b.lo, al, bl, refl)
    (a.lo, b.hi, al, bh, refl)
    (a.hi, b.lo, ah, bl, refl)
    (a.hi, b.hi, ah, bh, refl)
    (λ z (x, y, in_a, in_b, is). rw is (product-corners a.lo a.hi b.lo b.hi x y in_a.above in_a.below in_b.above in_b.below))
