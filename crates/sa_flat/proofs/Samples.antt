-- A lowered program, computed: an inner loop with a break, under the clock loop.
-- while (1) { int i = 0; while (i < 10) { if (u == 1) break; i = i + 1; } assert(i == 10); wait }
use Rattle.std.proofs.Common.{◌≡◌, ℕ, pos, negsuc, [], ◌∷◌, refl, Some, None, false}
use Rattle.sa_base.specs.declared.num.Num.TheVariants.{I32}
use Rattle.sa_base.specs.declared.pos.Pos.{Pos}
use Rattle.sa_base.specs.declared.alarm.Kind.TheVariants as k
use Rattle.sa_operators.specs.Operators.{range_of, operator_span, operator_alarms, in_type_span, fit_alarms, as_span}
use Rattle.sa_typed.specs.declared.expr.Operator.TheVariants as o
use Rattle.sa_typed.specs.declared.stmt.LoopKind.TheVariants as kind
use Rattle.sa_ir.specs.declared.expr.IrExpr.{IrExpr}
use Rattle.sa_ir.specs.declared.expr.IrExpr.TheVariants as e
use Rattle.sa_ir.specs.declared.expr.IrPlace.{IrPlace}
use Rattle.sa_ir.specs.declared.node.IrAssign.{IrAssign}
use Rattle.sa_ir.specs.declared.node.IrAssign.TheVariants as assign
use Rattle.sa_ir.specs.declared.node.Node.{Node}
use Rattle.sa_ir.specs.declared.node.Node.TheVariants as node
use Rattle.sa_ir.specs.declared.node.Node.TheBlock.{hidden-the_row-Node-0, hidden-the_row-Node-1}
use Rattle.sa_ir.specs.declared.expr.IrExpr.TheBlock.{hidden-the_row-Row-0, hidden-the_row-IrExpr-1, hidden-the_row-IrLink-2}
use Rattle.sa_interval.specs.Widening.{nearest_above, nearest_below}
use Rattle.sa_flat.specs.Forms.{form_of, sum_form}
use Rattle.sa_flat.specs.Expressions.{meaning, read_target}
use Rattle.sa_flat.specs.Meanings.{Cells, operation_form, truth, compared, bound, joined_cells}
use Rattle.sa_flat.specs.Assignments.{change, stored}
use Rattle.sa_flat.specs.Pieces.{Found}
use Rattle.sa_flat.specs.Nodes.{piece}
use Rattle.sa_flat.specs.Reference.{record_at}
use Rattle.sa_flat.specs.Passes.{facts_of, passes_from}
use Rattle.sa_flat.specs.Intervals.{Flat, Limits, whole_clock, widened_spans, intervals}

abbrev at : ℕ → Pos
at col = record { line = 1; col = col }

abbrev cell : ℕ → IrPlace
cell c = record { first = c; rows = [] }

abbrev int : ℕ → IrExpr
int n = e.Number n I32

abbrev i : IrExpr
i = e.Read (cell 0) I32

abbrev limits : Limits
limits = record { nums = I32 ∷ []; max_clock = pos 3; thresholds = negsuc 127 ∷ negsuc 0 ∷ pos 0 ∷ pos 1 ∷ pos 10 ∷ pos 127 ∷ [] }

abbrev cells : Cells
cells = record { all = 0 ∷ []; num = λ c. I32; starred = λ c. false; input = λ k s. range_of I32; clocks = whole_clock limits }

abbrev add_one : IrAssign
add_one = assign.Value (cell 0) I32 (at 5) (e.Chain i (record { op = o.Plus; pos = at 6; num = I32; operand = int 1 } ∷ []))

abbrev stop : Node
stop = node.If (e.Chain (e.Input 0 I32) (record { op = o.Equal; pos = at 7; num = I32; operand = int 1 } ∷ [])) (node.Block (node.Break ∷ [])) (node.Block []) false

abbrev inner : Node
inner = node.Loop 1 kind.While (Some (e.Chain i (record { op = o.Less; pos = at 8; num = I32; operand = int 10 } ∷ []))) (node.Block (stop ∷ node.Assign add_one ∷ [])) None

abbrev check : Node
check = node.Assert (at 9) (e.Chain i (record { op = o.Equal; pos = at 10; num = I32; operand = int 10 } ∷ []))

abbrev outer : Node
outer = node.Loop 0 kind.Clock None (node.Block (node.Assign (assign.Value (cell 0) I32 (at 3) (int 0)) ∷ inner ∷ check ∷ node.Wait ∷ [])) None

abbrev start : Flat
start = record { clock = record { lo = pos 0; hi = pos 0 }; cells = range_of I32 ∷ [] }

abbrev found : Found Flat
found = (piece (intervals limits) cells (node.Block (outer ∷ []))).found start

alarms : found.alarms ≡ record { pos = at 9; kind = k.Assert } ∷ []
unfolding piece meaning read_target change stored operation_form sum_form form_of truth compared bound joined_cells facts_of passes_from widened_spans in_type_span fit_alarms as_span operator_span operator_alarms nearest_above nearest_below hidden-the_row-Node-0 hidden-the_row-Node-1 hidden-the_row-Row-0 hidden-the_row-IrExpr-1 hidden-the_row-IrLink-2 denote.Hole.Carrier.hidden
alarms = refl

-- the inner loop takes five passes, and leaves with 10 or by the break
inner_loop : record_at (intervals limits) found.records 1 ≡ Some (record { loop = 1; passes = 5; state = record { clock = record { lo = pos 0; hi = pos 3 }; cells = record { lo = pos 0; hi = pos 10 } ∷ [] } })
unfolding piece meaning read_target change stored operation_form sum_form form_of truth compared bound joined_cells facts_of passes_from widened_spans in_type_span fit_alarms as_span operator_span operator_alarms nearest_above nearest_below hidden-the_row-Node-0 hidden-the_row-Node-1 hidden-the_row-Row-0 hidden-the_row-IrExpr-1 hidden-the_row-IrLink-2 denote.Hole.Carrier.hidden
inner_loop = refl
