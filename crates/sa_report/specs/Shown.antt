-- Which cells a report shows of a loop: those of variables that are declared before the loop and that occur in it. An access
-- makes the cells occur that it may name: with a constant index the one element, none where that errs or names no element, and
-- with another index each. This project's own choice.
use Rattle.std.specs.Prelude.{ℕ, pos, ◌==◌, List, [], ◌∷◌, Bool, false, ◌&&◌, ◌||◌, nat_lt, if◌then◌else◌, slice_get, Option, Some, None, option_map}
use Rattle.sa_base.specs.declared.num.Num.TheVariants.{I32}
use Rattle.sa_base.specs.declared.pos.Pos.{Pos}
use Rattle.sa_interval.specs.Rows.{single}
use Rattle.sa_typed.specs.Constants.{is_constant, fixed_index}
use Rattle.sa_typed.specs.Executions.{same_pos, main_of}
use Rattle.sa_typed.specs.Cells.{Cell}
use Rattle.sa_typed.specs.declared.expr.Expr.{Expr, Number, Read', Input, Prefix', Cast', Chain', And', Or', Choice', end_of-Expr, more_of-Expr, Row_of-Link, end_of-Link, more_of-Link, Row_of-Step, end_of-Step, more_of-Step}
use Rattle.sa_typed.specs.declared.expr.Expr.TheVariants as e
use Rattle.sa_typed.specs.declared.expr.Access.{Access}
use Rattle.sa_typed.specs.declared.expr.Step.{Step, At', Field}
use Rattle.sa_typed.specs.declared.stmt.Start.{Start}
use Rattle.sa_typed.specs.declared.stmt.Start.TheVariants as begins
use Rattle.sa_typed.specs.declared.stmt.LoopKind.TheVariants as kind
use Rattle.sa_typed.specs.declared.stmt.Simple.{Simple}
use Rattle.sa_typed.specs.declared.stmt.Simple.TheVariants.{Declare, Assign, Compound, Copy}
use Rattle.sa_typed.specs.declared.stmt.Stmt.{Stmt, Row_of-Stmt, end_of-Stmt, more_of-Stmt}
use Rattle.sa_typed.specs.declared.program.Var.{Var}
use Rattle.sa_typed.specs.declared.program.Program.{Program}
use Rattle.sa_reference.specs.declared.reach.Reach.{Reach}
use Rattle.sa_reference.specs.declared.reach.Reach.TheVariants as reach
use Rattle.sa_reference.specs.Passes.{alive_then}
use Rattle.sa_reference.specs.Values.{indices, reaches}

-- the steps that an access may take, none where a constant index names no element
unfoldable pub may_reach : Step → Option Reach
may_reach (At' q n m (more_of-Expr a end_of-Expr)) = if is_constant a then option_map (λ i. reach.At (single (pos i))) (fixed_index n a) else Some (reach.At (indices n))
may_reach (Field f) = Some (reach.Into f)

unfoldable pub may_reaches : {n : _} → Row_of-Step n → Option (List Reach)
may_reaches end_of-Step = Some []
may_reaches (more_of-Step s rest) = alive_then (may_reach s) (λ r. option_map (λ rs. r ∷ rs) (may_reaches rest))

abbrev pub is_named : Cell → ℕ → Option (List Reach) → Bool
is_named c v None = false
is_named c v (Some rs) = c.var == v && reaches rs c.steps

unfoldable mutual
  pub in_expr : Cell → Expr → Bool
  in_expr c (Number n num) = false
  in_expr c (Read' v n steps num) = is_named c v (may_reaches steps) || in_steps c steps
  in_expr c (Input k num) = false
  in_expr c (Prefix' op q num n (more_of-Expr a end_of-Expr)) = in_expr c a
  in_expr c (Cast' q num n (more_of-Expr a end_of-Expr)) = in_expr c a
  in_expr c (Chain' n (more_of-Expr a end_of-Expr) m ls) = in_expr c a || in_links c ls
  -- typing gives none of these yet
  in_expr c (And' n a m rest) = false
  in_expr c (Or' n a m rest) = false
  in_expr c (Choice' n a m b l d num) = false

  pub in_links : {n : _} → Cell → Row_of-Link n → Bool
  in_links c end_of-Link = false
  in_links c (more_of-Link op q num b rest) = in_expr c b || in_links c rest

  pub in_steps : {n : _} → Cell → Row_of-Step n → Bool
  in_steps c end_of-Step = false
  in_steps c (more_of-Step s rest) = in_step c s || in_steps c rest

  pub in_step : Cell → Step → Bool
  in_step c (At' q n m (more_of-Expr a end_of-Expr)) = in_expr c a
  in_step c (Field f) = false

abbrev pub in_access : Cell → Access → Bool
in_access c x = in_expr c (e.Read x I32)

abbrev pub in_start : Cell → Start → Bool
in_start c begins.Any = false
in_start c (begins.Value q a) = in_expr c a
in_start c begins.Items = false

unfoldable pub in_simple : Cell → Simple → Bool
in_simple c (Declare v s) = in_start c s
in_simple c (Assign x num q a) = in_access c x || in_expr c a
in_simple c (Compound x num op q work a) = in_access c x || in_expr c a
in_simple c (Copy k x q y) = in_access c x || in_access c y

unfoldable mutual
  pub in_stmt : Cell → Stmt → Bool
  in_stmt c (Stmt.Simple s) = in_simple c s
  in_stmt c (Stmt.Block' n all) = in_stmts c all
  in_stmt c (Stmt.Loop' q kind.Clock None n (more_of-Stmt body end_of-Stmt) None) = in_stmt c body
  -- in a wait there is none, and typing gives no other form yet
  in_stmt c _ = false

  pub in_stmts : {n : _} → Cell → Row_of-Stmt n → Bool
  in_stmts c end_of-Stmt = false
  in_stmts c (more_of-Stmt s rest) = in_stmt c s || in_stmts c rest

-- the cell occurs in a loop whose word stands there
unfoldable mutual
  pub in_loop : Pos → Cell → Stmt → Bool
  in_loop q c (Stmt.Block' n all) = in_loops q c all
  in_loop q c (Stmt.Loop' r kind.Clock None n (more_of-Stmt body end_of-Stmt) None) = if same_pos r q then in_stmt c body else in_loop q c body
  -- typing gives no other form with loops in it yet
  in_loop q c _ = false

  pub in_loops : {n : _} → Pos → Cell → Row_of-Stmt n → Bool
  in_loops q c end_of-Stmt = false
  in_loops q c (more_of-Stmt s rest) = in_loop q c s || in_loops q c rest

-- before in the text
abbrev pub is_before : Pos → Pos → Bool
is_before p q = nat_lt p.line q.line || (p.line == q.line && nat_lt p.col q.col)

abbrev pub declared_before : Pos → Option Var → Bool
declared_before q None = false
declared_before q (Some v) = is_before v.pos q

unfoldable pub is_shown : Program → Pos → Cell → Bool
is_shown p q c = declared_before q (slice_get p.vars c.var) && in_loop q c (main_of p)
