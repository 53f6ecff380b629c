-- The lines of a report on a loop, as inequalities, and when one is true of a store and a clock.
use Rattle.std.specs.Prelude.{ℤ, ◌≤ℤ◌, IsTrue}
use Rattle.sa_typed.specs.declared.program.Place.{Place}
use Rattle.sa_typed.specs.Evaluation.{Store}
use Rattle.sa_typed.specs.Cells.{Cell, names}

-- the number is from lo to hi
pub record IsFrom (lo hi z : ℤ) : Type 0 where
  pub above : lo ≤ℤ z
  pub below : z ≤ℤ hi

pub data Line : Type 0 where
  -- clock in [lo, hi]
  ClockIn : (lo hi : ℤ) → Line
  -- the cell in [lo, hi]
  CellIn : Cell → (lo hi : ℤ) → Line

-- the inequality holds of the clock, or of the number at each place that the cell names
abbrev pub IsTrueLine : Line → Store → ℤ → Type 0
IsTrueLine (ClockIn lo hi) store clock = IsFrom lo hi clock
IsTrueLine (CellIn c lo hi) store clock = (a : Place) → IsTrue (names c a) → IsFrom lo hi (store a)
