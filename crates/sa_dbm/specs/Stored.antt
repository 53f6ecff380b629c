-- How bounds are stored: as numbers, of which the greatest one stands for no bound.
use Rattle.std.specs.Prelude.{◌≡◌, ℕ, ◌*◌, ◌≤◌, length, unsigned_abs, slice_index_or, ◌-◌, ◌^◌, ℤ, pos, int_lt, if◌then◌else◌, List, map, Some, None}
use Rattle.sa_dbm.specs.Bounds.{Bound}
use Rattle.sa_dbm.specs.Tables.{Table, IsMatrix}

-- the greatest number of 128 bits
abbrev pub no_bound : ℤ
no_bound = pos (2 ^ 127 - 1)

-- the bound that a stored number stands for
unfoldable pub shown : ℤ → Bound
shown z = if int_lt z no_bound then Some z else None

-- the table that stored numbers stand for
unfoldable pub stored : ℕ → List ℤ → Table
stored vars xs = record { vars = vars; bounds = map shown xs }

-- the bound that is stored at a place; none past the end
abbrev pub shown_at : List ℤ → ℕ → Bound
shown_at xs i = shown (slice_index_or xs i no_bound)

-- a bound that can be added to another one
abbrev pub IsSummable : Bound → Type 0
IsSummable b = (z : ℤ) → b ≡ Some z → unsigned_abs z ≤ 2 ^ 120

-- a bound to which three others can be added
abbrev pub IsSmall : Bound → Type 0
IsSmall b = (z : ℤ) → b ≡ Some z → unsigned_abs z ≤ 2 ^ 102

-- what is stored is a matrix
pub record IsStored (vars : ℕ) (xs : List ℤ) : Type 0 where
  pub few : vars ≤ 8
  pub square : length xs ≡ 2 * vars * (2 * vars)
  pub matrix : IsMatrix (stored vars xs)
