-- No promise of the top calls rests on this page: it is for laws beside them, for proofs and for inner functions.
-- How deep calls go: no function calls itself, so the number of functions is deep enough.
use Rattle.std.specs.Prelude.{ℕ, ℤ, ◌≡◌, ◌≤◌, List, length}
use Rattle.sa_typed.specs.Evaluation.{Setting}
use Rattle.sa_typed.specs.Executions.{Run, ended, run, bodies_of, main_activation, main_of, start, execution}
use Rattle.sa_typed.specs.TypedPrograms.{AreRanked}
use Rattle.sa_typed.specs.declared.program.Program.{Program}

-- the execution in which calls inside calls go so deep
abbrev pub execution_within : Program → ℕ → Setting → List ℤ → ℕ → Run
execution_within p depth w tape n = ended (run p w (bodies_of p w depth) (main_activation p) (main_of p) (start p tape n))

-- where each function calls functions of lower rank alone, an execution is the same however much deeper calls may go: none is cut
-- off for want of depth
abbrev pub CallsEnd : Type 0
CallsEnd = (p : Program) (rank : ℕ → ℕ) → AreRanked p rank → (w : Setting) (depth : ℕ) → length p.funcs ≤ depth → (tape : List ℤ) (n : ℕ) → execution_within p depth w tape n ≡ execution p w tape n
