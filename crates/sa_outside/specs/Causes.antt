-- When a fault may be answered.
use Rattle.std.specs.Prelude.{ℕ, ◌+◌, ◌-◌, ◌^◌, ◌≤◌, min}

-- one more, up to the end of 64 bits, where a count stands still
abbrev pub one_more : ℕ → ℕ
one_more count = min (count + 1) (2 ^ 64 - 1)

-- a count of faults has risen, or stands at its end
abbrev pub Rose : ℕ → ℕ → Type 0
Rose before now = one_more before ≤ now
