-- No promise of the top calls rests on this page: it is for laws beside them, for proofs and for inner functions.
-- What executions of typed programs have, over every form of the language.
use Rattle.std.specs.Prelude.{ℕ, ℤ, ◌≡◌, ◌≤◌, List, length}
use Rattle.sa_typed.specs.Evaluation.{Setting}
use Rattle.sa_typed.specs.Executions.{State, Activation, bodies_of, execution}
use Rattle.sa_typed.specs.Depth.{execution_within}
use Rattle.sa_typed.specs.Progress.{IsUnbroken}
use Rattle.sa_typed.specs.TypedPrograms.{IsTypedProgram}
use Rattle.sa_typed.specs.declared.program.Program.{Program}

-- no break gets out of a call, and no execution is cut off for want of depth
pub record RunsOf (p : Program) (w : Setting) : Type 0 where
  pub unbroken : (depth f : ℕ) (act : Activation) (st : State) → IsUnbroken (bodies_of p w depth f act st)
  pub deep : (depth : ℕ) → length p.funcs ≤ depth → (tape : List ℤ) (n : ℕ) → execution_within p depth w tape n ≡ execution p w tape n

abbrev pub TypedProgramsRun : Type 0
TypedProgramsRun = (p : Program) (w : Setting) → IsTypedProgram p → RunsOf p w
