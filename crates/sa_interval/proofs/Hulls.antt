-- The hull of four corners.
use Rattle.std.proofs.Common.{◌≡◌, ℤ, ◌≤ℤ◌}
use Rattle.sa_interval.specs.Span.{IsBound, IsInterval, IsLeast, cut, low_limit, high_limit}
use Rattle.sa_interval.specs.Rows.{hull}
use Rattle.sa_numbers.specs.Corners.{least_of_four, greatest_of_four}
use Rattle.sa_numbers.proofs.Corners.{below_least, above_greatest, least_below, greatest_above, cut-least_of_four, cut-greatest_of_four}
use Rattle.sa_numbers.proofs.Cut.{cut-monotone, cut-inside}
use Rattle.sa_numbers.proofs.Order.{≤ℤ_trans}

-- the hull of the cuts of four results is least, where all results lie between the four
pub least_hull : (R : ℤ → Type 0) (p q r s : ℤ) → R p → R q → R r → R s →
    ((z : ℤ) → R z → (least_of_four p q r s ≤ℤ z) × (z ≤ℤ greatest_of_four p q r s)) → IsLeast R (hull (cut p) (cut q) (cut r) (cut s))
least_hull R p q r s at_p at_q at_r at_s between = record {
  holds = λ z k. record {
    above = rw (cut-least_of_four p q r s) (cut-monotone _ z (between z k).0);
    below = rw (cut-greatest_of_four p q r s) (cut-monotone z _ (between z k).1);
  };
  least = λ t all. record {
    above = below_least t.lo _ _ _ _ (all p at_p).above (all q at_q).above (all r at_r).above (all s at_s).above;
    below = above_greatest t.hi _ _ _ _ (all p at_p).below (all q at_q).below (all r at_r).below (all s at_s).below;
  };
}

-- the same for results that are within the limits
pub least_hull_inside : (R : ℤ → Type 0) (p q r s : ℤ) → R p → R q → R r → R s → ((z : ℤ) → R z → IsBound z) →
    ((z : ℤ) → R z → (least_of_four p q r s ≤ℤ z) × (z ≤ℤ greatest_of_four p q r s)) → IsLeast R (hull p q r s)
least_hull_inside R p q r s at_p at_q at_r at_s small between =
    let keeps : (z : ℤ) → R z → cut z ≡ z = λ z k. cut-inside z (small z k).low (small z k).high in
    rw (keeps p at_p, keeps q at_q, keeps r at_r, keeps s at_s) at (least_hull R p q r s at_p at_q at_r at_s between)

pub hull_is_interval : (p q r s : ℤ) → IsBound p → IsBound q → IsBound r → IsBound s → IsInterval (hull p q r s)
hull_is_interval p q r s a b c d = record {
  ordered = ≤ℤ_trans _ p _ (least_below p q r s).0 (greatest_above p q r s).0;
  low = below_least low_limit p q r s a.low b.low c.low d.low;
  high = above_greatest high_limit p q r s a.high b.high c.high d.high;
}
