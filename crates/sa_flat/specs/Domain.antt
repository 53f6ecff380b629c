-- No promise of the top calls rests on this page: it is for laws beside them, for proofs and for inner functions.
-- What the reference analysis knows of an abstract domain (Cousot and Cousot 1977). An environment isn't dead; None stands for
-- the dead one. Cells are numbers, and no program stands here.
use Rattle.std.specs.Prelude.{ℕ, ℤ, Bool, List, Option}
use Rattle.sa_interval.specs.Span.{Span}
use Rattle.sa_env.specs.declared.form.Form.{Form}

pub record Domain : Type 1 where
  pub Env : Type 0
  -- the numbers of a cell, and of the clock
  pub cell : ℕ → Env → Span
  pub clock : Env → Span
  -- a span that holds the number of a form, met with what is known of the form; None where nothing is left
  pub within : Form → Span → Env → Option Span
  -- one cell set to a number of the span, which is the number of the form where there is one
  pub assign : ℕ → Span → Option Form → Env → Option Env
  -- the form is at most the number
  pub impose : Form → ℤ → Env → Option Env
  -- after the wait
  pub tick : Env → Option Env
  -- what is known of these cells made as tight as the domain can
  pub reduce : List ℕ → Env → Option Env
  pub merge : Env → Env → Env
  pub le : Env → Env → Bool
  -- what pass p from 4 to 30 makes of the iterate before it and of the merge of the entry with the turn's end
  pub widen : ℕ → Env → Env → Env
  -- each cell in its type, with this clock
  pub top : Span → Env
  -- these numbers of the cells, at this clock, lie in the environment
  pub Point : Env → (ℕ → ℤ) → ℤ → Type 0
