-- What lies between four corners.
use Rattle.std.proofs.Common.{◌≡◌, ℤ, ◌≤ℤ◌, arith}
use Rattle.std.specs.Int.{int_min, int_max}
use Rattle.std.proofs.lemmas.Int.{ints, clamps}
use Rattle.sa_numbers.specs.Corners.{least_of_four, greatest_of_four}
use Rattle.sa_numbers.specs.Cut.{cut}

-- the number is at least one of the two, and at most one of the two
pub record Between (p q x : ℤ) : Type 0 where
  pub low : int_min p q ≤ℤ x
  pub high : x ≤ℤ int_max p q

-- between two numbers that lie between corners
pub between_corners : (x l h p q r s : ℤ) → Between l h x → Between p q l → Between r s h → (least_of_four p q r s ≤ℤ x) × (x ≤ℤ greatest_of_four p q r s)
unfolding least_of_four greatest_of_four
between_corners x l h p q r s a b c = (omega (arith, ints, clamps), omega (arith, ints, clamps))

-- a bound below each corner is below the least, and a bound above each is above the greatest
pub below_least : (t p q r s : ℤ) → t ≤ℤ p → t ≤ℤ q → t ≤ℤ r → t ≤ℤ s → t ≤ℤ least_of_four p q r s
unfolding least_of_four
below_least t p q r s a b c d = omega (arith, ints, clamps)

pub above_greatest : (t p q r s : ℤ) → p ≤ℤ t → q ≤ℤ t → r ≤ℤ t → s ≤ℤ t → greatest_of_four p q r s ≤ℤ t
unfolding greatest_of_four
above_greatest t p q r s a b c d = omega (arith, ints, clamps)

pub least_below : (p q r s : ℤ) → (least_of_four p q r s ≤ℤ p) × (least_of_four p q r s ≤ℤ q) × (least_of_four p q r s ≤ℤ r) × (least_of_four p q r s ≤ℤ s)
unfolding least_of_four
least_below p q r s = (omega (arith, ints, clamps), omega (arith, ints, clamps), omega (arith, ints, clamps), omega (arith, ints, clamps))

pub greatest_above : (p q r s : ℤ) → (p ≤ℤ greatest_of_four p q r s) × (q ≤ℤ greatest_of_four p q r s) × (r ≤ℤ greatest_of_four p q r s) × (s ≤ℤ greatest_of_four p q r s)
unfolding greatest_of_four
greatest_above p q r s = (omega (arith, ints, clamps), omega (arith, ints, clamps), omega (arith, ints, clamps), omega (arith, ints, clamps))

-- the cut keeps order, so it may be made before or after
pub cut-least_of_four : (p q r s : ℤ) → least_of_four (cut p) (cut q) (cut r) (cut s) ≡ cut (least_of_four p q r s)
unfolding least_of_four
cut-least_of_four p q r s = rw (two p q, two r s) (two (int_min p q) (int_min r s))
  where
    two : (p q : ℤ) → int_min (cut p) (cut q) ≡ cut (int_min p q)
    two p q = omega (arith, ints, clamps)

pub cut-greatest_of_four : (p q r s : ℤ) → greatest_of_four (cut p) (cut q) (cut r) (cut s) ≡ cut (greatest_of_four p q r s)
unfolding greatest_of_four
cut-greatest_of_four p q r s = rw (two p q, two r s) (two (int_max p q) (int_max r s))
  where
    two : (p q : ℤ) → int_max (cut p) (cut q) ≡ cut (int_max p q)
    two p q = omega (arith, ints, clamps)
