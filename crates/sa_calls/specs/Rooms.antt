-- The cells that a call brings, as code counts them: the locals of the called function are given, the rest is counted.
use Rattle.std.specs.Prelude.{ℕ, ◌+◌, ◌≡◌, List, [], ◌∷◌, get_or}
use Rattle.sa_typed.specs.Frames.{home_cells}
use Rattle.sa_typed.specs.declared.expr.Step.{Step, At', Field}
use Rattle.sa_typed.specs.declared.program.Home.TheVariants as home
use Rattle.sa_typed.specs.declared.program.Program.{Program}
use Rattle.sa_calls.specs.Weights.{capped}

unfoldable pub one_index : Step → ℕ
one_index (At' q n m a) = 1
one_index (Field f) = 0

unfoldable pub indices_in : List Step → ℕ
indices_in [] = 0
indices_in (s ∷ ss) = one_index s + indices_in ss

-- of each function, by its number, the cells of its parameters and locals
abbrev pub AreLocals : Program → List ℕ → Type 0
AreLocals p locals = (f : ℕ) → get_or locals f 0 ≡ capped (home_cells p (home.Local f))
