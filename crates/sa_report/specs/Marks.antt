-- No promise of the top calls rests on this page: it is for laws beside them, for proofs and for inner functions.
-- Marks for the cells that occur, one for each cell: what each part of a program adds to them, with its rows as lists, as code
-- goes over them. `proofs/MarkLaws.antt` ties this to the rows of a tree.
use Rattle.std.specs.Prelude.{ℕ, pos, ◌-ℤ◌, List, [], ◌∷◌, Bool, ◌||◌, if◌then◌else◌, length, Option, Some, option_map, nat_lt, set, true}
use Rattle.std.specs.Int.{int_min}
use Rattle.std.specs.List.{All}
use Rattle.sa_base.specs.declared.pos.Pos.{Pos}
use Rattle.sa_interval.specs.Span.{Span}
use Rattle.sa_interval.specs.Rows.{single}
use Rattle.sa_typed.specs.Constants.{is_constant, fixed_index}
use Rattle.sa_typed.specs.Cells.{Cell}
use Rattle.sa_typed.specs.WellTyped.{IsTypedExpr, IsTypedStep}
use Rattle.sa_typed.specs.declared.expr.Access.{Access, out-Access}
use Rattle.sa_typed.specs.declared.expr.Expr.{Expr, end_of-Expr, more_of-Expr}
use Rattle.sa_typed.specs.declared.expr.Link.{Link, out-Link}
use Rattle.sa_typed.specs.declared.expr.Step.{Step, At', Field}
use Rattle.sa_typed.specs.declared.stmt.Simple.{Simple}
use Rattle.sa_typed.specs.declared.stmt.Start.{Start}
use Rattle.sa_typed.specs.declared.stmt.Stmt.{Stmt}
use Rattle.sa_typed.specs.declared.program.Program.{Program}
use Rattle.sa_reference.specs.declared.reach.Reach.{Reach}
use Rattle.sa_reference.specs.declared.reach.Reach.TheVariants as reach
use Rattle.sa_reference.specs.Passes.{alive_then}
use Rattle.sa_report.specs.Shown.{is_named, in_expr, in_step, in_access, in_start, in_simple, in_stmt, in_loop}

-- besides those that are marked, each cell of which the test says so
unfoldable pub marked : (Cell → Bool) → List Cell → List Bool → List Bool
marked test [] bs = bs
marked test (c ∷ cs) [] = []
marked test (c ∷ cs) (b ∷ bs) = (b || test c) ∷ marked test cs bs

-- those with these numbers, as far as there are so many
unfoldable pub mark_at : ℕ → List Bool → List Bool
mark_at k bs = if nat_lt k (length bs) then set bs k true else bs

unfoldable pub mark_each : List ℕ → List Bool → List Bool
mark_each [] bs = bs
mark_each (k ∷ ks) bs = mark_each ks (mark_at k bs)

-- ---- steps
-- the indices of an array; of one without elements a number that is no index
unfoldable pub some_indices : ℕ → Span
some_indices n = record { lo = int_min (pos 0) (pos n -ℤ pos 1); hi = pos n -ℤ pos 1 }

unfoldable pub index_step : ℕ → Expr → Option Reach
index_step n a = if is_constant a then option_map (λ i. reach.At (single (pos i))) (fixed_index n a) else Some (reach.At (some_indices n))

unfoldable pub one_step : Step → Option Reach
one_step (At' q n m (more_of-Expr a end_of-Expr)) = index_step n a
one_step (Field f) = Some (reach.Into f)

unfoldable pub steps_taken : List Step → Option (List Reach)
steps_taken [] = Some []
steps_taken (s ∷ ss) = alive_then (one_step s) (λ r. option_map (λ rs. r ∷ rs) (steps_taken ss))

-- steps of some program
pub record IsSomeStep (s : Step) : Type 0 where
  pub program : Program
  pub typed : IsTypedStep program s

pub record AreSomeSteps (ss : List Step) : Type 0 where
  pub program : Program
  pub typed : All (IsTypedStep program) ss

abbrev pub HasTypedSteps : Program → Access → Type 0
HasTypedSteps p x = All (IsTypedStep p) (out-Access x).steps

abbrev pub HasTypedOperand : Program → Link → Type 0
HasTypedOperand p l = IsTypedExpr p (out-Link l).operand

-- ---- what each part marks
unfoldable pub by_named : List Cell → ℕ → Option (List Reach) → List Bool → List Bool
by_named cs v o bs = marked (λ c. is_named c v o) cs bs

unfoldable pub by_expr : List Cell → Expr → List Bool → List Bool
by_expr cs e bs = marked (λ c. in_expr c e) cs bs

unfoldable pub by_links : List Cell → List Link → List Bool → List Bool
by_links cs [] bs = bs
by_links cs (l ∷ ls) bs = by_links cs ls (by_expr cs (out-Link l).operand bs)

unfoldable pub by_step : List Cell → Step → List Bool → List Bool
by_step cs s bs = marked (λ c. in_step c s) cs bs

unfoldable pub by_steps : List Cell → List Step → List Bool → List Bool
by_steps cs [] bs = bs
by_steps cs (s ∷ ss) bs = by_steps cs ss (by_step cs s bs)

unfoldable pub by_access : List Cell → Access → List Bool → List Bool
by_access cs x bs = marked (λ c. in_access c x) cs bs

unfoldable pub by_start : List Cell → Start → List Bool → List Bool
by_start cs s bs = marked (λ c. in_start c s) cs bs

unfoldable pub by_simple : List Cell → Simple → List Bool → List Bool
by_simple cs s bs = marked (λ c. in_simple c s) cs bs

unfoldable pub by_stmt : List Cell → Stmt → List Bool → List Bool
by_stmt cs s bs = marked (λ c. in_stmt c s) cs bs

unfoldable pub by_stmts : List Cell → List Stmt → List Bool → List Bool
by_stmts cs [] bs = bs
by_stmts cs (s ∷ ss) bs = by_stmts cs ss (by_stmt cs s bs)

-- of the loops whose word stands there
unfoldable pub by_loop : Pos → List Cell → Stmt → List Bool → List Bool
by_loop q cs s bs = marked (λ c. in_loop q c s) cs bs

unfoldable pub by_loops : Pos → List Cell → List Stmt → List Bool → List Bool
by_loops q cs [] bs = bs
by_loops q cs (s ∷ ss) bs = by_loops q cs ss (by_loop q cs s bs)
