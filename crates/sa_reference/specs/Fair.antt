-- No promise of the top calls rests on this page: it is for laws beside them, for proofs and for inner functions.
-- Environments as the passes keep them: the clock is one that may be, and each cell's span lies in its type.
use Rattle.std.specs.Prelude.{ℤ, ◌≤ℤ◌, List, [], ◌∷◌, Bool, true, false, Option, Some, None}
use Rattle.sa_interval.specs.Span.{Span, IsPart}
use Rattle.sa_typed.specs.Cells.{Cell, cells}
use Rattle.sa_typed.specs.declared.program.Program.{Program}
use Rattle.sa_reference.specs.declared.flat.Flat.{Flat}
use Rattle.sa_operators.specs.Operators.{IsIn}
use Rattle.sa_reference.specs.Environments.{whole_clock}

unfoldable pub AreIn : List Cell → List Span → Type 0
AreIn [] [] = Unit {0}
AreIn [] (s ∷ ss) = ⊥
AreIn (c ∷ cs) [] = ⊥
AreIn (c ∷ cs) (s ∷ ss) = IsIn c.num s × AreIn cs ss

pub record IsFair (p : Program) (max_clock : ℤ) (e : Flat) : Type 0 where
  pub ordered : e.clock.lo ≤ℤ e.clock.hi
  pub clock : IsPart e.clock (whole_clock max_clock)
  pub cells : AreIn (cells p) e.cells

-- alive, or dead whatever the environment says
abbrev pub alive_env : Bool → Flat → Option Flat
alive_env true e = Some e
alive_env false e = None
