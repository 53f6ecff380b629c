-- What statements that change the store alone make of an environment, and the alarms that checking mode finds in them.
use Rattle.std.specs.Prelude.{ℕ, ◌==◌, List, [], ◌∷◌, ◌++◌, Bool, true, false, if◌then◌else◌, slice_get, Option, Some, None}
use Rattle.sa_base.specs.declared.num.Num.{Num}
use Rattle.sa_base.specs.declared.num.Num.TheVariants.{I32}
use Rattle.sa_base.specs.declared.pos.Pos.{Pos}
use Rattle.sa_base.specs.declared.alarm.Alarm.{Alarm}
use Rattle.sa_interval.specs.Span.{Span}
use Rattle.sa_interval.specs.Rows.{join_of}
use Rattle.sa_typed.specs.Layouts.{layout_of, num_in}
use Rattle.sa_typed.specs.Evaluation.{Setting}
use Rattle.sa_typed.specs.Cells.{Cell, cells, is_starred}
use Rattle.sa_typed.specs.declared.expr.Expr.{Expr}
use Rattle.sa_typed.specs.declared.expr.Access.{Access}
use Rattle.sa_typed.specs.declared.expr.Operator.{Operator}
use Rattle.sa_typed.specs.declared.stmt.Start.{Start}
use Rattle.sa_typed.specs.declared.stmt.Start.TheVariants as begins
use Rattle.sa_typed.specs.declared.stmt.Simple.{Simple}
use Rattle.sa_typed.specs.declared.stmt.Simple.TheVariants.{Declare, Assign, Compound, Copy}
use Rattle.sa_typed.specs.declared.program.Program.{Program}
use Rattle.sa_reference.specs.declared.flat.Flat.{Flat}
use Rattle.sa_reference.specs.Passes.{alive_then}
use Rattle.sa_operators.specs.Operators.{converted_span, conversion_alarms, operator_span, operator_alarms}
use Rattle.sa_reference.specs.Environments.{put, cell_range, items_span}
use Rattle.sa_reference.specs.Values.{named, cell_span, joined, span_of, alarms_of, access_cells, access_alarms, fixed_access_cells, linked, with_one, with_both}

-- ---- cells that are changed
abbrev pub starred_cell : Option Cell → Bool
starred_cell None = true
starred_cell (Some c) = is_starred c.steps

abbrev pub starred_at : List Cell → ℕ → Bool
starred_at cs k = starred_cell (slice_get cs k)

-- the merge of an environment with itself after the assignment of a span to one cell changes this cell alone, and so for
-- each of the cells in their order
unfoldable pub weakly : List ℕ → Span → List Span → List Span
weakly [] s spans = spans
weakly (k ∷ ks) s spans = weakly ks s (put k (join_of (cell_span spans k) s) spans)

-- one cell that stands for one element is assigned the span itself
unfoldable pub assigned : List Cell → List ℕ → Span → List Span → List Span
assigned cs (k ∷ []) s spans = if starred_at cs k then weakly (k ∷ []) s spans else put k s spans
assigned cs ks s spans = weakly ks s spans

-- cells of one structure assigned those of another, each by itself, as these were before
unfoldable pub copied : List Cell → List ℕ → List ℕ → List Span → List Span → List Span
copied cs (k ∷ ks) (d ∷ ds) old spans =
    copied cs ks ds old (put k (if starred_at cs k then join_of (cell_span spans k) (cell_span old d) else cell_span old d) spans)
copied cs _ _ old spans = spans

-- each cell of a variable set to what a function of the cell gives
unfoldable pub set_cells : (Cell → Span) → ℕ → List Cell → List Span → List Span
set_cells f v (c ∷ cs) (s ∷ spans) = (if c.var == v then f c else s) ∷ set_cells f v cs spans
set_cells f v _ spans = spans

abbrev pub with_cells : Flat → List Span → Flat
with_cells env spans = record env { cells = spans }

-- ---- statements
abbrev pub assign_to : Program → Flat → Option (List ℕ) → Option Span → Option Flat
assign_to p env o s = alive_then o (λ ks. alive_then s (λ s. Some (with_cells env (assigned (cells p) ks s env.cells))))

-- a value as it is assigned to a type
abbrev pub value_as : Num → Option Span → Option Span
value_as num o = alive_then o (converted_span num)

unfoldable pub declare_of : Program → Setting → ℕ → Start → Flat → Option Flat
declare_of p w v begins.Any env = Some (with_cells env (set_cells cell_range v (cells p) env.cells))
declare_of p w v (begins.Value q a) env = assign_to p env (Some (named p v [])) (value_as (num_in (layout_of p v)) (span_of p w env a))
declare_of p w v begins.Items env = Some (with_cells env (set_cells (items_span p) v (cells p) env.cells))

-- what is read of a place for a compound assignment
abbrev pub read_of : Flat → Option (List ℕ) → Option Span
read_of env o = alive_then o (joined env.cells)

unfoldable pub simple_of : Program → Setting → Simple → Flat → Option Flat
simple_of p w (Declare v s) env = declare_of p w v s env
simple_of p w (Assign x num q a) env = assign_to p env (access_cells p w env x) (value_as num (span_of p w env a))
simple_of p w (Compound x num op q work a) env =
    assign_to p env (access_cells p w env x) (value_as num (linked op work (read_of env (access_cells p w env x)) (span_of p w env a)))
simple_of p w (Copy k x q y) env =
    alive_then (fixed_access_cells p x) (λ ks. alive_then (fixed_access_cells p y) (λ ds. Some (with_cells env (copied (cells p) ks ds env.cells env.cells))))

-- ---- alarms
abbrev pub assign_alarms : Num → Pos → Option Span → List Alarm
assign_alarms num q o = with_one o (conversion_alarms num q)

unfoldable pub declare_alarms : Program → Setting → ℕ → Start → Flat → List Alarm
declare_alarms p w v begins.Any env = []
declare_alarms p w v (begins.Value q a) env = alarms_of p w env a ++ assign_alarms (num_in (layout_of p v)) q (span_of p w env a)
declare_alarms p w v begins.Items env = []

unfoldable pub simple_alarms : Program → Setting → Simple → Flat → List Alarm
simple_alarms p w (Declare v s) env = declare_alarms p w v s env
simple_alarms p w (Assign x num q a) env = access_alarms p w env x ++ (alarms_of p w env a ++ assign_alarms num q (span_of p w env a))
simple_alarms p w (Compound x num op q work a) env =
    access_alarms p w env x
    ++ (alarms_of p w env a
    ++ (with_both (read_of env (access_cells p w env x)) (span_of p w env a) (operator_alarms op q work)
    ++ assign_alarms num q (linked op work (read_of env (access_cells p w env x)) (span_of p w env a))))
simple_alarms p w (Copy k x q y) env = access_alarms p w env x ++ access_alarms p w env y
