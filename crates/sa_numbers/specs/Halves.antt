-- No promise of the top calls rests on this page: it is for laws beside them, for proofs and for inner functions.
-- Halves rounded down, as `>> 1` rounds them, and even bounds.
use Rattle.std.specs.Prelude.{ℤ, ◌+ℤ◌}
use Rattle.std.specs.Int.{int_shr}

-- the half of a number, rounded down
abbrev pub half : ℤ → ℤ
half z = int_shr z 1

-- the greatest even number at most z
abbrev pub even_below : ℤ → ℤ
even_below z = half z +ℤ half z
