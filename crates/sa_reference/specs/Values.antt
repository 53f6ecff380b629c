-- What an expression is in an environment: an interval of its numbers, none where it has no value, and the alarms that
-- checking mode finds. Operations go by the intervals of their operands alone (Cousot and Cousot 1977).
use Rattle.std.specs.Prelude.{ℕ, ◌+◌, ◌-ℤ◌, ◌==◌, pos, List, [], ◌∷◌, ◌++◌, Bool, true, false, ◌&&◌, if◌then◌else◌, get_or, Option, Some, None, option_map}
use Rattle.std.specs.Int.RustNames.{int_le}
use Rattle.sa_base.specs.declared.num.Num.{Num}
use Rattle.sa_base.specs.declared.num.Num.TheVariants.{I32}
use Rattle.sa_base.specs.declared.pos.Pos.{Pos}
use Rattle.sa_base.specs.declared.alarm.Alarm.{Alarm}
use Rattle.sa_base.specs.declared.alarm.Kind.TheVariants.{Index}
use Rattle.sa_interval.specs.Span.{Span}
use Rattle.sa_interval.specs.Rows.{single, join_of, meet_of, is_part}
use Rattle.sa_typed.specs.Evaluation.{Setting, Range}
use Rattle.sa_typed.specs.Evaluation as concrete
use Rattle.sa_typed.specs.Constants.{fixed_index}
use Rattle.sa_typed.specs.Cells.{Cell, one, all, of, cells}
use Rattle.sa_typed.specs.Cells as cell
use Rattle.sa_typed.specs.declared.expr.Expr.{Expr, Number, Read', Input, Prefix', Cast', Chain', And', Or', Choice', end_of-Expr, more_of-Expr, Row_of-Link, end_of-Link, more_of-Link, Row_of-Step, end_of-Step, more_of-Step}
use Rattle.sa_typed.specs.declared.expr.Expr.TheVariants as e
use Rattle.sa_typed.specs.declared.expr.Access.{Access}
use Rattle.sa_typed.specs.declared.expr.Operator.{Operator}
use Rattle.sa_typed.specs.declared.expr.Step.{Step, At', Field}
use Rattle.sa_typed.specs.declared.program.Program.{Program}
use Rattle.sa_reference.specs.declared.flat.Flat.{Flat}
use Rattle.sa_reference.specs.declared.reach.Reach.{Reach}
use Rattle.sa_reference.specs.declared.reach.Reach.TheVariants.{At, Into}
use Rattle.sa_reference.specs.Passes.{alive_then}
use Rattle.sa_operators.specs.Operators.{converted_span, conversion_alarms, operator_span, operator_alarms, prefix_span, prefix_alarms, alarm_if}

-- ---- places
-- the indices of an array
abbrev pub indices : ℕ → Span
indices n = record { lo = pos 0; hi = pos n -ℤ pos 1 }

abbrev pub reaches_step : Reach → cell.Step → Bool
reaches_step (At s) (one k) = int_le s.lo (pos k) && int_le (pos k) s.hi
reaches_step (At s) (all n) = true
reaches_step (Into f) (of k) = f == k
reaches_step _ _ = false

-- a cell that stands there or inside of what stands there
unfoldable pub reaches : List Reach → List cell.Step → Bool
reaches [] ss = true
reaches (r ∷ rs) [] = false
reaches (r ∷ rs) (s ∷ ss) = reaches_step r s && reaches rs ss

-- the numbers of the cells that an access names, of the cells with numbers from k on
unfoldable pub named_from : ℕ → List Cell → ℕ → List Reach → List ℕ
named_from k [] v rs = []
named_from k (c ∷ cs) v rs = if c.var == v && reaches rs c.steps then k ∷ named_from (k + 1) cs v rs else named_from (k + 1) cs v rs

unfoldable pub named : Program → ℕ → List Reach → List ℕ
named p v rs = named_from 0 (cells p) v rs

-- ---- numbers that are read
abbrev pub cell_span : List Span → ℕ → Span
cell_span spans c = get_or spans c (single (pos 0))

-- the least span that holds those of the cells, none where there is no cell
unfoldable pub joined : List Span → List ℕ → Option Span
joined spans [] = None
joined spans (c ∷ cs) = Some (elim (joined spans cs) as (λ _. Span) [ None ↦ cell_span spans c | Some s ↦ join_of (cell_span spans c) s ])

abbrev pub input_span : Setting → ℕ → Span
input_span w k = record { lo = (concrete.range_of w k).lo; hi = (concrete.range_of w k).hi }

abbrev pub with_both : {A : Type 0} → Option Span → Option Span → (Span → Span → List A) → List A
with_both None b f = []
with_both (Some a) None f = []
with_both (Some a) (Some b) f = f a b

abbrev pub with_one : {A : Type 0} → Option Span → (Span → List A) → List A
with_one None f = []
with_one (Some a) f = f a

abbrev pub linked : Operator → Num → Option Span → Option Span → Option Span
linked op num a b = alive_then a (λ a. alive_then b (λ b. operator_span op num a b))

abbrev pub index_reach : ℕ → Option Span → Option Reach
index_reach n i = alive_then i (λ i. option_map At (meet_of i (indices n)))

unfoldable mutual
  pub span_of : Program → Setting → Flat → Expr → Option Span
  span_of p w env (Number n num) = Some (single (pos n))
  span_of p w env (Read' v n steps num) = alive_then (reaches_of p w env steps) (λ rs. joined env.cells (named p v rs))
  span_of p w env (Input k num) = Some (input_span w k)
  span_of p w env (Prefix' op q num n (more_of-Expr a end_of-Expr)) = alive_then (span_of p w env a) (prefix_span op num)
  span_of p w env (Cast' q num n (more_of-Expr a end_of-Expr)) = alive_then (span_of p w env a) (converted_span num)
  span_of p w env (Chain' n (more_of-Expr a end_of-Expr) m ls) = links_span p w env ls (span_of p w env a)
  -- typing gives none of these yet
  span_of p w env (And' n a m rest) = None
  span_of p w env (Or' n a m rest) = None
  span_of p w env (Choice' n a m b l c num) = None

  -- operators from left to right, from the value so far
  pub links_span : {n : _} → Program → Setting → Flat → Row_of-Link n → Option Span → Option Span
  links_span p w env end_of-Link o = o
  links_span p w env (more_of-Link op q num b rest) o = links_span p w env rest (linked op num o (span_of p w env b))

  -- each index is met with those of its array; an index without a value names nothing
  pub reaches_of : {n : _} → Program → Setting → Flat → Row_of-Step n → Option (List Reach)
  reaches_of p w env end_of-Step = Some []
  reaches_of p w env (more_of-Step s rest) = alive_then (reach_of p w env s) (λ r. option_map (λ rs. r ∷ rs) (reaches_of p w env rest))

  pub reach_of : Program → Setting → Flat → Step → Option Reach
  reach_of p w env (At' q n m (more_of-Expr a end_of-Expr)) = index_reach n (span_of p w env a)
  reach_of p w env (Field f) = Some (Into f)

-- ---- alarms: those of all parts, and of an operation whose operands have values
abbrev pub index_alarms : Pos → ℕ → Span → List Alarm
index_alarms q n i = alarm_if (if is_part i (indices n) then false else true) q Index

unfoldable mutual
  pub alarms_of : Program → Setting → Flat → Expr → List Alarm
  alarms_of p w env (Number n num) = []
  alarms_of p w env (Read' v n steps num) = steps_alarms p w env steps
  alarms_of p w env (Input k num) = []
  alarms_of p w env (Prefix' op q num n (more_of-Expr a end_of-Expr)) = alarms_of p w env a ++ with_one (span_of p w env a) (prefix_alarms op q num)
  alarms_of p w env (Cast' q num n (more_of-Expr a end_of-Expr)) = alarms_of p w env a ++ with_one (span_of p w env a) (conversion_alarms num q)
  alarms_of p w env (Chain' n (more_of-Expr a end_of-Expr) m ls) = alarms_of p w env a ++ links_alarms p w env ls (span_of p w env a)
  -- typing gives none of these yet
  alarms_of p w env (And' n a m rest) = []
  alarms_of p w env (Or' n a m rest) = []
  alarms_of p w env (Choice' n a m b l c num) = []

  pub links_alarms : {n : _} → Program → Setting → Flat → Row_of-Link n → Option Span → List Alarm
  links_alarms p w env end_of-Link o = []
  links_alarms p w env (more_of-Link op q num b rest) o =
      alarms_of p w env b ++ (with_both o (span_of p w env b) (operator_alarms op q num) ++ links_alarms p w env rest (linked op num o (span_of p w env b)))

  -- every index is evaluated and checked by itself
  pub steps_alarms : {n : _} → Program → Setting → Flat → Row_of-Step n → List Alarm
  steps_alarms p w env end_of-Step = []
  steps_alarms p w env (more_of-Step s rest) = step_alarms p w env s ++ steps_alarms p w env rest

  pub step_alarms : Program → Setting → Flat → Step → List Alarm
  step_alarms p w env (At' q n m (more_of-Expr a end_of-Expr)) = alarms_of p w env a ++ with_one (span_of p w env a) (index_alarms q n)
  step_alarms p w env (Field f) = []

-- the element that a constant index names
unfoldable pub fixed_reach : Step → Option Reach
fixed_reach (At' q n m (more_of-Expr a end_of-Expr)) = option_map (λ i. At (single (pos i))) (fixed_index n a)
fixed_reach (Field f) = Some (Into f)

-- ---- the cells of an access, none where an index has no value, and the alarms of its indices
unfoldable pub read_cells : Program → Setting → Flat → Expr → Option (List ℕ)
read_cells p w env (Read' v n steps num) = option_map (named p v) (reaches_of p w env steps)
read_cells p w env _ = None

abbrev pub access_cells : Program → Setting → Flat → Access → Option (List ℕ)
access_cells p w env x = read_cells p w env (e.Read x I32)

abbrev pub access_alarms : Program → Setting → Flat → Access → List Alarm
access_alarms p w env x = alarms_of p w env (e.Read x I32)

-- ---- accesses whose indices are all constant, and those that may be
-- the steps of an access that leads to one place in every execution, none where an index errs or names no element
unfoldable pub fixed_reaches : {n : _} → Row_of-Step n → Option (List Reach)
fixed_reaches end_of-Step = Some []
fixed_reaches (more_of-Step s rest) = alive_then (fixed_reach s) (λ r. option_map (λ rs. r ∷ rs) (fixed_reaches rest))

unfoldable pub fixed_cells : Program → Expr → Option (List ℕ)
fixed_cells p (Read' v n steps num) = option_map (named p v) (fixed_reaches steps)
fixed_cells p _ = None

abbrev pub fixed_access_cells : Program → Access → Option (List ℕ)
fixed_access_cells p x = fixed_cells p (e.Read x I32)
