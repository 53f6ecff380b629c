-- Bounds from above: a whole number, or none.
use Rattle.std.specs.Prelude.{ℕ, zero, suc, ℤ, pos, ◌+ℤ◌, ◌≤ℤ◌, int_lt, int_le, Bool, true, false, Option, Some, None, option_map}
use Rattle.std.specs.Int.{int_min, int_max, int_shr}

-- `Some c` bounds by c; `None` is no bound and stands above all others
abbrev pub Bound : Type 0
Bound = Option ℤ

-- the sum of two bounds; none where one of them is none
abbrev pub plus : Bound → Bound → Bound
plus None b = None
plus (Some x) None = None
plus (Some x) (Some y) = Some (x +ℤ y)

abbrev pub lesser : Bound → Bound → Bound
lesser None b = b
lesser (Some x) None = Some x
lesser (Some x) (Some y) = Some (int_min x y)

abbrev pub greater : Bound → Bound → Bound
greater None b = None
greater (Some x) None = None
greater (Some x) (Some y) = Some (int_max x y)

-- a is at most b, as a test and as a fact
abbrev pub at_most : Bound → Bound → Bool
at_most a None = true
at_most None (Some y) = false
at_most (Some x) (Some y) = int_le x y

abbrev pub AtMost : Bound → Bound → Type 0
AtMost a None = Unit {0}
AtMost None (Some y) = ⊥
AtMost (Some x) (Some y) = x ≤ℤ y

abbrev pub is_negative : Bound → Bool
is_negative None = false
is_negative (Some x) = int_lt x (pos 0)

-- a bound that 0 meets
abbrev pub IsFlat : Bound → Type 0
IsFlat b = AtMost (Some (pos 0)) b

-- the least of f 0 to f (n - 1)
abbrev pub least : ℕ → (ℕ → Bound) → Bound
least zero f = None
least (suc n) f = lesser (least n f) (f n)

-- half of a bound on a whole number's double, as a bound on the number: rounded down
abbrev pub half : Bound → Bound
half b = option_map (λ z. int_shr z 1) b

-- the greatest even number that is at most the bound
abbrev pub even : Bound → Bound
even b = plus (half b) (half b)
