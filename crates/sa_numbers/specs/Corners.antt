-- The least and the greatest of four numbers, as those at the four corners of two rows of numbers.
use Rattle.std.specs.Prelude.{ℤ}
use Rattle.std.specs.Int.{int_min, int_max}

unfoldable pub least_of_four : ℤ → ℤ → ℤ → ℤ → ℤ
least_of_four p q r s = int_min (int_min p q) (int_min r s)

unfoldable pub greatest_of_four : ℤ → ℤ → ℤ → ℤ → ℤ
greatest_of_four p q r s = int_max (int_max p q) (int_max r s)
