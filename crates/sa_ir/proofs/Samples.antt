-- Programs of a few lines, lowered: their cells, their statements and what their loops show.
use Rattle.std.proofs.Common.{◌≡◌, ℕ, List, [], ◌∷◌, ◌++◌, refl, Option, None, Some, true, false}
use Rattle.std.specs.Prelude.{codes}
use Rattle.sa_base.specs.declared.num.Num.{Num}
use Rattle.sa_base.specs.declared.num.Num.TheVariants.{I32}
use Rattle.sa_base.specs.declared.pos.Pos.{Pos}
use Rattle.sa_typed.specs.declared.expr.Access.{Access}
use Rattle.sa_typed.specs.declared.expr.Expr.{Expr}
use Rattle.sa_typed.specs.declared.expr.Expr.TheVariants as e
use Rattle.sa_typed.specs.declared.expr.Operator.TheVariants as o
use Rattle.sa_typed.specs.declared.expr.Step.TheVariants as step
use Rattle.sa_typed.specs.declared.program.Func.{Func}
use Rattle.sa_typed.specs.declared.program.Home.{Home}
use Rattle.sa_typed.specs.declared.program.Home.TheVariants as home
use Rattle.sa_typed.specs.declared.program.Param.{Param}
use Rattle.sa_typed.specs.declared.program.Program.{Program}
use Rattle.sa_typed.specs.declared.program.Var.{Var}
use Rattle.sa_typed.specs.declared.shape.Plain.TheVariants as plain
use Rattle.sa_typed.specs.declared.stmt.Arg.TheVariants.{Value as ByValue, Object as ByReference}
use Rattle.sa_typed.specs.declared.stmt.LoopKind.TheVariants as kind
use Rattle.sa_typed.specs.declared.stmt.Simple.TheVariants.{Declare, Assign}
use Rattle.sa_typed.specs.declared.stmt.Start.TheVariants as begins
use Rattle.sa_typed.specs.declared.stmt.Stmt.{Stmt}
use Rattle.sa_typed.specs.declared.stmt.Stmt.TheVariants as stmt
use Rattle.sa_ir.specs.declared.ir.Cell.{Cell}
use Rattle.sa_ir.specs.declared.expr.IrExpr.TheVariants as ir
use Rattle.sa_ir.specs.declared.expr.IrPlace.{IrPlace}
use Rattle.sa_ir.specs.declared.expr.Row.TheVariants as rows
use Rattle.sa_ir.specs.declared.node.IrAssign.TheVariants as assign
use Rattle.sa_ir.specs.declared.node.Node.{Node}
use Rattle.sa_ir.specs.declared.node.Node.TheVariants as node
use Rattle.sa_typed.specs.Cells.{inner_cells, each_behind, all_behind, is_starred}
use Rattle.sa_typed.specs.Constants.{is_constant, constant_value, fixed_index}
use Rattle.sa_typed.specs.Frames.{size, refers, some_refers, cells_from, indices_of, read_indices, all_kept, frame_cells, cells_in, loops_in, body_cells as count_cells, body_loops}
use Rattle.sa_typed.specs.Layouts.{layout_of, layout_with, rows as rows_around}
use Rattle.sa_typed.specs.WellTyped.{type_of, links_type}
use Rattle.sa_typed.specs.declared.expr.Expr.TheBlock.{hidden-the_row-Step-0, hidden-the_row-Expr-1, hidden-the_row-Link-2, hidden-the_row-Expr-3}
use Rattle.sa_typed.specs.declared.stmt.Stmt.TheBlock.{hidden-the_row-Stmt-0, hidden-the_row-Stmt-1, hidden-the_row-Group-2}
use Rattle.sa_ir.specs.declared.expr.IrExpr.TheBlock as ir_block
use Rattle.sa_ir.specs.declared.node.Node.TheBlock as node_block
use Rattle.sa_ir.specs.Frames.{program_cells, cells_at, object_cells, call_cells, body_cells, stmt_cells, index_cells, read_cells, own_target}
use Rattle.sa_ir.specs.Names.{pos_text, steps_text, var_text, call_text, loop_text}
use Rattle.sa_ir.specs.Nodes.{simple, bound, called_frame, kept, read_kept, all_passed, called, nodes, all_nodes, in_block, body_nodes}
use Rattle.sa_ir.specs.Occurrences.{is_constant as is_settled, every, led, rows_cells, expr_cells, read_cells as named_cells, assign_cells, node_cells}
use Rattle.sa_ir.specs.Places.{only, stride_of, cells_to, lowered, read_lowered, fields_cells, kept_rows, read_target}
use Rattle.sa_ir.specs.Shown.{body_infos, loops, shown, with_all, places_at, is_within, in_scope, param_spans}
use Rattle.sa_ir.specs.Lowered.{lowered_program}

abbrev at : ℕ → ℕ → Pos
at line col = record { line = line; col = col }

abbrev variable : List ℕ → Pos → List ℕ → Home → Var
variable name q dims h = record { name = name; pos = q; shape = record { dims = dims; plain = plain.Scalar I32 }; home = h; constant = false; initial = [] }

abbrev reference : ℕ → Param
reference v = record { var = v; reference = true }

abbrev function : List ℕ → List Param → Option Num → List Stmt → Func
function name params result body = record { name = name; params = params; result = result; body = body }

abbrev whole : ℕ → Access
whole v = record { var = v; steps = [] }

abbrev element : ℕ → Pos → ℕ → Expr → Access
element v q n i = record { var = v; steps = step.At q n i ∷ [] }

abbrev number : ℕ → Expr
number n = e.Number n I32

abbrev value : ℕ → Expr
value v = e.Read (whole v) I32

abbrev plus : Expr → ℕ → Expr
plus a n = e.Chain a (record { op = o.Plus; pos = at 9 9; num = I32; operand = number n } ∷ [])

-- `v = v + 1;`
abbrev count : ℕ → Stmt
count v = stmt.Simple (Assign (whole v) I32 (at 8 8) (plus (value v) 1))

abbrev program : List Var → List Func → Program
program vars funcs = record { structs = []; vars = vars; inputs = []; funcs = funcs; entry = 0; thresholds = [] }

-- a main whose clock loop does this
abbrev turning : List Stmt → Func
turning body = function (codes "main") [] None (stmt.Loop (at 3 3) kind.Clock None (stmt.Block (body ++ stmt.Wait ∷ [])) None ∷ [])

-- ---- lowered
abbrev cell : List ℕ → Cell
cell name = record { name = name; num = I32; starred = false; hidden = false }

abbrev hidden : Cell
hidden = record { name = []; num = I32; starred = false; hidden = true }

abbrev counted : IrPlace → Node
counted x = node.Assign (assign.Value x I32 (at 8 8) (ir.Chain (ir.Read x I32) (record { op = o.Plus; pos = at 9 9; num = I32; operand = ir.Number 1 I32 } ∷ [])))

-- ---- `void add(int *p, int *q) { *p = *p + 1; *q = *q + 1; }`, and in each turn `add(&s, &t); add(&s, &s);`
abbrev aliased : Program
aliased = program
    (variable (codes "s") (at 1 5) [] home.Global ∷ variable (codes "t") (at 2 5) [] home.Global ∷ variable (codes "p") (at 2 10) [] (home.Local 1) ∷ variable (codes "q") (at 2 20) [] (home.Local 1) ∷ [])
    (turning (stmt.Call (at 4 5) 1 (ByReference (whole 0) ∷ ByReference (whole 1) ∷ []) None ∷ stmt.Call (at 5 5) 1 (ByReference (whole 0) ∷ ByReference (whole 0) ∷ []) None ∷ [])
    ∷ function (codes "add") (reference 2 ∷ reference 3 ∷ []) None (count 2 ∷ count 3 ∷ []) ∷ [])

aliased_cells : (lowered_program aliased).cells ≡ cell (codes "s") ∷ cell (codes "t") ∷ []
unfolding lowered_program each_behind all_behind is_settled inner_cells is_starred is_constant constant_value fixed_index size refers some_refers cells_from indices_of read_indices all_kept frame_cells cells_in loops_in count_cells body_loops layout_of layout_with rows_around type_of links_type hidden-the_row-Step-0 hidden-the_row-Expr-1 hidden-the_row-Link-2 hidden-the_row-Expr-3 hidden-the_row-Stmt-0 hidden-the_row-Stmt-1 hidden-the_row-Group-2 denote.Hole.Carrier.hidden ir_block.hidden-the_row-Row-0 ir_block.hidden-the_row-IrExpr-1 ir_block.hidden-the_row-IrLink-2 node_block.hidden-the_row-Node-0 node_block.hidden-the_row-Node-1 program_cells cells_at object_cells call_cells body_cells stmt_cells index_cells read_cells own_target steps_text var_text call_text loop_text simple bound called_frame kept read_kept all_passed called nodes all_nodes in_block body_nodes every led rows_cells expr_cells named_cells assign_cells node_cells stride_of cells_to lowered read_lowered fields_cells kept_rows read_target body_infos loops shown with_all places_at is_within in_scope param_spans
aliased_cells = refl

aliased_body : (lowered_program aliased).body ≡
    node.Loop 0 kind.Clock None (node.Block (node.Block (counted (only 0) ∷ counted (only 1) ∷ []) ∷ node.Block (counted (only 0) ∷ counted (only 0) ∷ []) ∷ node.Wait ∷ [])) None ∷ []
unfolding lowered_program each_behind all_behind is_settled inner_cells is_starred is_constant constant_value fixed_index size refers some_refers cells_from indices_of read_indices all_kept frame_cells cells_in loops_in count_cells body_loops layout_of layout_with rows_around type_of links_type hidden-the_row-Step-0 hidden-the_row-Expr-1 hidden-the_row-Link-2 hidden-the_row-Expr-3 hidden-the_row-Stmt-0 hidden-the_row-Stmt-1 hidden-the_row-Group-2 denote.Hole.Carrier.hidden ir_block.hidden-the_row-Row-0 ir_block.hidden-the_row-IrExpr-1 ir_block.hidden-the_row-IrLink-2 node_block.hidden-the_row-Node-0 node_block.hidden-the_row-Node-1 program_cells cells_at object_cells call_cells body_cells stmt_cells index_cells read_cells own_target steps_text var_text call_text loop_text simple bound called_frame kept read_kept all_passed called nodes all_nodes in_block body_nodes every led rows_cells expr_cells named_cells assign_cells node_cells stride_of cells_to lowered read_lowered fields_cells kept_rows read_target body_infos loops shown with_all places_at is_within in_scope param_spans
aliased_body = refl

aliased_loops : (lowered_program aliased).loops ≡ record { name = [] ++ pos_text (at 3 3); shown = 0 ∷ 1 ∷ [] } ∷ []
unfolding lowered_program each_behind all_behind is_settled inner_cells is_starred is_constant constant_value fixed_index size refers some_refers cells_from indices_of read_indices all_kept frame_cells cells_in loops_in count_cells body_loops layout_of layout_with rows_around type_of links_type hidden-the_row-Step-0 hidden-the_row-Expr-1 hidden-the_row-Link-2 hidden-the_row-Expr-3 hidden-the_row-Stmt-0 hidden-the_row-Stmt-1 hidden-the_row-Group-2 denote.Hole.Carrier.hidden ir_block.hidden-the_row-Row-0 ir_block.hidden-the_row-IrExpr-1 ir_block.hidden-the_row-IrLink-2 node_block.hidden-the_row-Node-0 node_block.hidden-the_row-Node-1 program_cells cells_at object_cells call_cells body_cells stmt_cells index_cells read_cells own_target steps_text var_text call_text loop_text simple bound called_frame kept read_kept all_passed called nodes all_nodes in_block body_nodes every led rows_cells expr_cells named_cells assign_cells node_cells stride_of cells_to lowered read_lowered fields_cells kept_rows read_target body_infos loops shown with_all places_at is_within in_scope param_spans
aliased_loops = refl

-- ---- `void f(void) { static int n; n = n + 1; }`, called at two places: n is one cell, and isn't in scope at main's loop
abbrev counting : Program
counting = program (variable (codes "n") (at 7 14) [] home.Static ∷ [])
    (turning (stmt.Call (at 4 5) 1 [] None ∷ stmt.Call (at 5 5) 1 [] None ∷ []) ∷ function (codes "f") [] None (stmt.Scope 0 ∷ count 0 ∷ []) ∷ [])

counting_cells : (lowered_program counting).cells ≡ cell ((codes "n" ++ (codes "@" ++ pos_text (at 7 14))) ++ []) ∷ []
unfolding lowered_program each_behind all_behind is_settled inner_cells is_starred is_constant constant_value fixed_index size refers some_refers cells_from indices_of read_indices all_kept frame_cells cells_in loops_in count_cells body_loops layout_of layout_with rows_around type_of links_type hidden-the_row-Step-0 hidden-the_row-Expr-1 hidden-the_row-Link-2 hidden-the_row-Expr-3 hidden-the_row-Stmt-0 hidden-the_row-Stmt-1 hidden-the_row-Group-2 denote.Hole.Carrier.hidden ir_block.hidden-the_row-Row-0 ir_block.hidden-the_row-IrExpr-1 ir_block.hidden-the_row-IrLink-2 node_block.hidden-the_row-Node-0 node_block.hidden-the_row-Node-1 program_cells cells_at object_cells call_cells body_cells stmt_cells index_cells read_cells own_target steps_text var_text call_text loop_text simple bound called_frame kept read_kept all_passed called nodes all_nodes in_block body_nodes every led rows_cells expr_cells named_cells assign_cells node_cells stride_of cells_to lowered read_lowered fields_cells kept_rows read_target body_infos loops shown with_all places_at is_within in_scope param_spans
counting_cells = refl

counting_body : (lowered_program counting).body ≡
    node.Loop 0 kind.Clock None (node.Block (node.Block (counted (only 0) ∷ []) ∷ node.Block (counted (only 0) ∷ []) ∷ node.Wait ∷ [])) None ∷ []
unfolding lowered_program each_behind all_behind is_settled inner_cells is_starred is_constant constant_value fixed_index size refers some_refers cells_from indices_of read_indices all_kept frame_cells cells_in loops_in count_cells body_loops layout_of layout_with rows_around type_of links_type hidden-the_row-Step-0 hidden-the_row-Expr-1 hidden-the_row-Link-2 hidden-the_row-Expr-3 hidden-the_row-Stmt-0 hidden-the_row-Stmt-1 hidden-the_row-Group-2 denote.Hole.Carrier.hidden ir_block.hidden-the_row-Row-0 ir_block.hidden-the_row-IrExpr-1 ir_block.hidden-the_row-IrLink-2 node_block.hidden-the_row-Node-0 node_block.hidden-the_row-Node-1 program_cells cells_at object_cells call_cells body_cells stmt_cells index_cells read_cells own_target steps_text var_text call_text loop_text simple bound called_frame kept read_kept all_passed called nodes all_nodes in_block body_nodes every led rows_cells expr_cells named_cells assign_cells node_cells stride_of cells_to lowered read_lowered fields_cells kept_rows read_target body_infos loops shown with_all places_at is_within in_scope param_spans
counting_body = refl

counting_loops : (lowered_program counting).loops ≡ record { name = [] ++ pos_text (at 3 3); shown = [] } ∷ []
unfolding lowered_program each_behind all_behind is_settled inner_cells is_starred is_constant constant_value fixed_index size refers some_refers cells_from indices_of read_indices all_kept frame_cells cells_in loops_in count_cells body_loops layout_of layout_with rows_around type_of links_type hidden-the_row-Step-0 hidden-the_row-Expr-1 hidden-the_row-Link-2 hidden-the_row-Expr-3 hidden-the_row-Stmt-0 hidden-the_row-Stmt-1 hidden-the_row-Group-2 denote.Hole.Carrier.hidden ir_block.hidden-the_row-Row-0 ir_block.hidden-the_row-IrExpr-1 ir_block.hidden-the_row-IrLink-2 node_block.hidden-the_row-Node-0 node_block.hidden-the_row-Node-1 program_cells cells_at object_cells call_cells body_cells stmt_cells index_cells read_cells own_target steps_text var_text call_text loop_text simple bound called_frame kept read_kept all_passed called nodes all_nodes in_block body_nodes every led rows_cells expr_cells named_cells assign_cells node_cells stride_of cells_to lowered read_lowered fields_cells kept_rows read_target body_infos loops shown with_all places_at is_within in_scope param_spans
counting_loops = refl

-- ---- `void g(int k) { while (k) k = k + 1; }`, called at two places: k is a cell on each path, and so is the loop
abbrev looping : Program
looping = program (variable (codes "k") (at 7 12) [] (home.Local 1) ∷ [])
    (turning (stmt.Call (at 4 5) 1 (ByValue (at 4 6) (number 1) ∷ []) None ∷ stmt.Call (at 5 5) 1 (ByValue (at 5 6) (number 2) ∷ []) None ∷ [])
    ∷ function (codes "g") (record { var = 0; reference = false } ∷ []) None (stmt.Loop (at 7 17) kind.While (Some (value 0)) (count 0) None ∷ []) ∷ [])

abbrev path : ℕ → List ℕ
path line = [] ++ (codes "g" ++ (codes "@" ++ (pos_text (at line 5) ++ codes "/")))

abbrev waits : ℕ → ℕ → Node
waits loop k = node.Block (node.Loop loop kind.While (Some (ir.Read (only k) I32)) (node.Block (counted (only k) ∷ [])) None ∷ [])

looping_cells : (lowered_program looping).cells ≡ cell ((path 4 ++ (codes "k" ++ (codes "@" ++ pos_text (at 7 12)))) ++ []) ∷ cell ((path 5 ++ (codes "k" ++ (codes "@" ++ pos_text (at 7 12)))) ++ []) ∷ []
unfolding lowered_program each_behind all_behind is_settled inner_cells is_starred is_constant constant_value fixed_index size refers some_refers cells_from indices_of read_indices all_kept frame_cells cells_in loops_in count_cells body_loops layout_of layout_with rows_around type_of links_type hidden-the_row-Step-0 hidden-the_row-Expr-1 hidden-the_row-Link-2 hidden-the_row-Expr-3 hidden-the_row-Stmt-0 hidden-the_row-Stmt-1 hidden-the_row-Group-2 denote.Hole.Carrier.hidden ir_block.hidden-the_row-Row-0 ir_block.hidden-the_row-IrExpr-1 ir_block.hidden-the_row-IrLink-2 node_block.hidden-the_row-Node-0 node_block.hidden-the_row-Node-1 program_cells cells_at object_cells call_cells body_cells stmt_cells index_cells read_cells own_target steps_text var_text call_text loop_text simple bound called_frame kept read_kept all_passed called nodes all_nodes in_block body_nodes every led rows_cells expr_cells named_cells assign_cells node_cells stride_of cells_to lowered read_lowered fields_cells kept_rows read_target body_infos loops shown with_all places_at is_within in_scope param_spans
looping_cells = refl

looping_body : (lowered_program looping).body ≡
    node.Loop 0 kind.Clock None (node.Block (node.Assign (assign.Value (only 0) I32 (at 4 6) (ir.Number 1 I32)) ∷ waits 1 0
    ∷ node.Assign (assign.Value (only 1) I32 (at 5 6) (ir.Number 2 I32)) ∷ waits 2 1 ∷ node.Wait ∷ [])) None ∷ []
unfolding lowered_program each_behind all_behind is_settled inner_cells is_starred is_constant constant_value fixed_index size refers some_refers cells_from indices_of read_indices all_kept frame_cells cells_in loops_in count_cells body_loops layout_of layout_with rows_around type_of links_type hidden-the_row-Step-0 hidden-the_row-Expr-1 hidden-the_row-Link-2 hidden-the_row-Expr-3 hidden-the_row-Stmt-0 hidden-the_row-Stmt-1 hidden-the_row-Group-2 denote.Hole.Carrier.hidden ir_block.hidden-the_row-Row-0 ir_block.hidden-the_row-IrExpr-1 ir_block.hidden-the_row-IrLink-2 node_block.hidden-the_row-Node-0 node_block.hidden-the_row-Node-1 program_cells cells_at object_cells call_cells body_cells stmt_cells index_cells read_cells own_target steps_text var_text call_text loop_text simple bound called_frame kept read_kept all_passed called nodes all_nodes in_block body_nodes every led rows_cells expr_cells named_cells assign_cells node_cells stride_of cells_to lowered read_lowered fields_cells kept_rows read_target body_infos loops shown with_all places_at is_within in_scope param_spans
looping_body = refl

looping_loops : (lowered_program looping).loops ≡
    record { name = [] ++ pos_text (at 3 3); shown = [] } ∷ record { name = path 4 ++ pos_text (at 7 17); shown = 0 ∷ [] } ∷ record { name = path 5 ++ pos_text (at 7 17); shown = 1 ∷ [] } ∷ []
unfolding lowered_program each_behind all_behind is_settled inner_cells is_starred is_constant constant_value fixed_index size refers some_refers cells_from indices_of read_indices all_kept frame_cells cells_in loops_in count_cells body_loops layout_of layout_with rows_around type_of links_type hidden-the_row-Step-0 hidden-the_row-Expr-1 hidden-the_row-Link-2 hidden-the_row-Expr-3 hidden-the_row-Stmt-0 hidden-the_row-Stmt-1 hidden-the_row-Group-2 denote.Hole.Carrier.hidden ir_block.hidden-the_row-Row-0 ir_block.hidden-the_row-IrExpr-1 ir_block.hidden-the_row-IrLink-2 node_block.hidden-the_row-Node-0 node_block.hidden-the_row-Node-1 program_cells cells_at object_cells call_cells body_cells stmt_cells index_cells read_cells own_target steps_text var_text call_text loop_text simple bound called_frame kept read_kept all_passed called nodes all_nodes in_block body_nodes every led rows_cells expr_cells named_cells assign_cells node_cells stride_of cells_to lowered read_lowered fields_cells kept_rows read_target body_infos loops shown with_all places_at is_within in_scope param_spans
looping_loops = refl

-- ---- `int a[3]; void g(int *p) { *p = *p + 1; } void f(int *q) { g(q); }`, and `f(&a[0])` in each turn: the index is kept once
abbrev chained : Program
chained = program (variable (codes "a") (at 1 5) (3 ∷ []) home.Global ∷ variable (codes "p") (at 2 13) [] (home.Local 1) ∷ variable (codes "q") (at 3 13) [] (home.Local 2) ∷ [])
    (turning (stmt.Call (at 4 5) 2 (ByReference (element 0 (at 4 9) 3 (number 0)) ∷ []) None ∷ [])
    ∷ function (codes "g") (reference 1 ∷ []) None (count 1 ∷ []) ∷ function (codes "f") (reference 2 ∷ []) None (stmt.Call (at 3 18) 1 (ByReference (whole 2) ∷ []) None ∷ []) ∷ [])

abbrev kept_place : IrPlace
kept_place = record { first = 0; rows = rows.Kept 3 3 1 ∷ [] }

chained_body : (lowered_program chained).body ≡
    node.Loop 0 kind.Clock None (node.Block (node.Assign (assign.Keep 3 (at 4 9) 3 (ir.Number 0 I32)) ∷ node.Block (node.Block (counted kept_place ∷ []) ∷ []) ∷ node.Wait ∷ [])) None ∷ []
unfolding lowered_program each_behind all_behind is_settled inner_cells is_starred is_constant constant_value fixed_index size refers some_refers cells_from indices_of read_indices all_kept frame_cells cells_in loops_in count_cells body_loops layout_of layout_with rows_around type_of links_type hidden-the_row-Step-0 hidden-the_row-Expr-1 hidden-the_row-Link-2 hidden-the_row-Expr-3 hidden-the_row-Stmt-0 hidden-the_row-Stmt-1 hidden-the_row-Group-2 denote.Hole.Carrier.hidden ir_block.hidden-the_row-Row-0 ir_block.hidden-the_row-IrExpr-1 ir_block.hidden-the_row-IrLink-2 node_block.hidden-the_row-Node-0 node_block.hidden-the_row-Node-1 program_cells cells_at object_cells call_cells body_cells stmt_cells index_cells read_cells own_target steps_text var_text call_text loop_text simple bound called_frame kept read_kept all_passed called nodes all_nodes in_block body_nodes every led rows_cells expr_cells named_cells assign_cells node_cells stride_of cells_to lowered read_lowered fields_cells kept_rows read_target body_infos loops shown with_all places_at is_within in_scope param_spans
chained_body = refl

chained_loops : (lowered_program chained).loops ≡ record { name = [] ++ pos_text (at 3 3); shown = 0 ∷ 1 ∷ 2 ∷ [] } ∷ []
unfolding lowered_program each_behind all_behind is_settled inner_cells is_starred is_constant constant_value fixed_index size refers some_refers cells_from indices_of read_indices all_kept frame_cells cells_in loops_in count_cells body_loops layout_of layout_with rows_around type_of links_type hidden-the_row-Step-0 hidden-the_row-Expr-1 hidden-the_row-Link-2 hidden-the_row-Expr-3 hidden-the_row-Stmt-0 hidden-the_row-Stmt-1 hidden-the_row-Group-2 denote.Hole.Carrier.hidden ir_block.hidden-the_row-Row-0 ir_block.hidden-the_row-IrExpr-1 ir_block.hidden-the_row-IrLink-2 node_block.hidden-the_row-Node-0 node_block.hidden-the_row-Node-1 program_cells cells_at object_cells call_cells body_cells stmt_cells index_cells read_cells own_target steps_text var_text call_text loop_text simple bound called_frame kept read_kept all_passed called nodes all_nodes in_block body_nodes every led rows_cells expr_cells named_cells assign_cells node_cells stride_of cells_to lowered read_lowered fields_cells kept_rows read_target body_infos loops shown with_all places_at is_within in_scope param_spans
chained_loops = refl

-- ---- `for (int i = 0; i < 9; ) a[i] = i;`, the local declared before its loop: it is shown at it, and not at main's
abbrev stepping : Program
stepping = program (variable (codes "a") (at 1 5) (2 ∷ []) home.Global ∷ variable (codes "i") (at 4 14) [] (home.Local 0) ∷ [])
    (turning (stmt.Block (stmt.Simple (Declare 1 (begins.Value (at 4 16) (number 0))) ∷ stmt.Loop (at 4 5) kind.While None (stmt.Simple (Assign (element 0 (at 4 30) 2 (value 1)) I32 (at 4 33) (value 1))) None ∷ []) ∷ []) ∷ [])

stepping_loops : (lowered_program stepping).loops ≡ record { name = [] ++ pos_text (at 3 3); shown = 0 ∷ 1 ∷ [] } ∷ record { name = [] ++ pos_text (at 4 5); shown = 0 ∷ 1 ∷ 2 ∷ [] } ∷ []
unfolding lowered_program each_behind all_behind is_settled inner_cells is_starred is_constant constant_value fixed_index size refers some_refers cells_from indices_of read_indices all_kept frame_cells cells_in loops_in count_cells body_loops layout_of layout_with rows_around type_of links_type hidden-the_row-Step-0 hidden-the_row-Expr-1 hidden-the_row-Link-2 hidden-the_row-Expr-3 hidden-the_row-Stmt-0 hidden-the_row-Stmt-1 hidden-the_row-Group-2 denote.Hole.Carrier.hidden ir_block.hidden-the_row-Row-0 ir_block.hidden-the_row-IrExpr-1 ir_block.hidden-the_row-IrLink-2 node_block.hidden-the_row-Node-0 node_block.hidden-the_row-Node-1 program_cells cells_at object_cells call_cells body_cells stmt_cells index_cells read_cells own_target steps_text var_text call_text loop_text simple bound called_frame kept read_kept all_passed called nodes all_nodes in_block body_nodes every led rows_cells expr_cells named_cells assign_cells node_cells stride_of cells_to lowered read_lowered fields_cells kept_rows read_target body_infos loops shown with_all places_at is_within in_scope param_spans
stepping_loops = refl
