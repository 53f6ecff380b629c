-- Each break of a typed function stands in a loop.
use Rattle.std.proofs.Common.{◌≡◌, ℕ, Bool, true, false, List, refl, Option, Some, None, inl, inr, ◌⊎◌}
use Rattle.std.specs.Prelude.{slice_get, ◌==◌}
use Rattle.sa_base.specs.declared.num.Num.{Num}
use Rattle.sa_typed.specs.Evaluation.{Setting}
use Rattle.sa_typed.specs.Executions.{block_of}
use Rattle.sa_typed.specs.Progress.{IsClosed, AreClosed, HaveClosed}
use Rattle.sa_typed.specs.TypedPrograms.{IsStatement, AreStatements, AreGroups, IsReturn, IsEmpty, IsBlock, IsClockLoop, IsAfterClock, IsMainBlock, IsBody, IsMainBody, IsMainOr, IsTypedProgram}
use Rattle.sa_typed.specs.TypedRuns.{TypedProgramsRun}
use Rattle.sa_typed.specs.declared.program.Func.{Func}
use Rattle.sa_typed.specs.declared.program.Program.{Program}
use Rattle.sa_typed.specs.declared.stmt.Stmt.{Stmt, Row_of-Stmt, end_of-Stmt, more_of-Stmt, Row_of-Group, end_of-Group, more_of-Group}
use Rattle.sa_typed.specs.declared.stmt.Stmt.TheVariants as stmt
use Rattle.sa_typed.proofs.ProgressLaws.{bodies_unbroken}
use Rattle.sa_typed.proofs.DepthLaws.{calls-end}

module _ (p : Program) (f : ℕ) where
  mutual
    unfolding IsStatement IsClosed

    closed : (s : Stmt) → IsStatement p f false s → IsClosed s
    closed (Stmt.Block' n all) h = all_closed all h
    closed (Stmt.If' a n (more_of-Stmt b end_of-Stmt) m (more_of-Stmt c end_of-Stmt) marked) h = (closed b h.1.0, closed c h.1.1)
    closed (Stmt.Switch' a num n groups marked) h = groups_closed groups h.1.1
    closed Stmt.Break h = cc
    closed _ h = tt

    all_closed : {n : _} (r : Row_of-Stmt n) → AreStatements p f false r → AreClosed r
    all_closed end_of-Stmt h = tt
    all_closed (more_of-Stmt s rest) h = (closed s h.0, all_closed rest h.1)

    groups_closed : {n : _} (r : Row_of-Group n) → AreGroups p f r → HaveClosed r
    groups_closed end_of-Group h = tt
    groups_closed (more_of-Group labels n (more_of-Stmt body end_of-Stmt) rest) h = (closed body h.0, groups_closed rest h.1)

  empty_closed : {n : _} (r : Row_of-Stmt n) → IsEmpty r → AreClosed r
  unfolding IsClosed
  empty_closed end_of-Stmt h = tt
  empty_closed (more_of-Stmt s rest) h = absurd h

  return_closed : (result : Option Num) (s : Stmt) → IsReturn p f result s → IsClosed s
  unfolding IsClosed
  return_closed result (Stmt.Return q num a) h = tt
  return_closed result _ h = absurd h

  clock_closed : (s : Stmt) → IsClockLoop p f s → IsClosed s
  unfolding IsClosed
  clock_closed (Stmt.Loop' q kind cond n body step) h = tt
  clock_closed _ h = absurd h

  after_closed : (result : Option Num) {n : _} (r : Row_of-Stmt n) → IsAfterClock p f result r → AreClosed r
  unfolding IsClosed
  after_closed result end_of-Stmt h = tt
  after_closed result (more_of-Stmt s rest) h = (return_closed result s h.0, empty_closed rest h.1)

  block_closed : (result : Option Num) {n : _} (r : Row_of-Stmt n) → IsBlock p f result r → AreClosed r
  unfolding IsBlock IsClosed
  block_closed result end_of-Stmt h = tt
  block_closed result (more_of-Stmt s rest) (inl h) = (return_closed result s h.0, empty_closed rest h.1)
  block_closed result (more_of-Stmt s rest) (inr h) = (closed s h.0, block_closed result rest h.1)

  main_closed : (result : Option Num) {n : _} (r : Row_of-Stmt n) → IsMainBlock p f result r → AreClosed r
  unfolding IsMainBlock IsClosed
  main_closed result end_of-Stmt h = absurd h
  main_closed result (more_of-Stmt s rest) (inl h) = (clock_closed s h.0, after_closed result rest h.1)
  main_closed result (more_of-Stmt s rest) (inr h) = (closed s h.0, main_closed result rest h.1)

  body_closed : (result : Option Num) (s : Stmt) → IsBody p f result s → IsClosed s
  unfolding IsClosed
  body_closed result (Stmt.Block' n all) h = block_closed result all h
  body_closed result _ h = absurd h

  main_body_closed : (result : Option Num) (s : Stmt) → IsMainBody p f result s → IsClosed s
  unfolding IsClosed
  main_body_closed result (Stmt.Block' n all) h = main_closed result all h
  main_body_closed result _ h = absurd h

either_closed : (p : Program) (k : ℕ) (f : Func) (b : Bool) → IsMainOr p k f b → IsClosed (stmt.Block f.body)
either_closed p k f true h = main_body_closed p p.entry f.result (stmt.Block f.body) h.body
either_closed p k f false h = body_closed p k f.result (stmt.Block f.body) h

each_closed : (p : Program) → IsTypedProgram p → (k : ℕ) (o : Option Func) → slice_get p.funcs k ≡ o → IsClosed (block_of o)
unfolding IsClosed Rattle.sa_typed.specs.declared.stmt.Stmt.TheBlock.hidden-the_row-Stmt-0 denote.Hole.Carrier.hidden
each_closed p t k None is = tt
each_closed p t k (Some f) is = either_closed p k f (k == p.entry) (t.funcs k f is).body

pub typed-programs-run : TypedProgramsRun
typed-programs-run p w t = record {
  unbroken = bodies_unbroken p w (λ k. each_closed p t k (slice_get p.funcs k) refl);
  deep = λ depth l tape n. calls-end p t.ranks.0 t.ranks.1 w depth l tape n;
}
