-- The limits of a bound, and the cut at them, which is this project's own choice.
use Rattle.std.specs.Prelude.{ℤ, pos, negsuc, ◌^◌, ◌-◌}
use Rattle.std.specs.Int.{int_max, int_min}

-- a bound of this size means that there is no bound on its side; `negsuc n` is -n - 1
abbrev pub high_limit : ℤ
high_limit = pos (2 ^ 100)

abbrev pub low_limit : ℤ
low_limit = negsuc (2 ^ 100 - 1)

-- the number, or the limit that it lies past
abbrev pub cut : ℤ → ℤ
cut z = int_max low_limit (int_min z high_limit)
