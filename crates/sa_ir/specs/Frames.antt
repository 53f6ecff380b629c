-- Frames: what is known of one call while its function is lowered, and the cells that it has. The cells of the program are those
-- of globals and static locals, then of main, then of each call in the order of the text, a call before those inside it: this
-- project's own choice.
use Rattle.std.specs.Prelude.{ℕ, zero, suc, ◌+◌, List, [], ◌∷◌, ◌++◌, map, length, true, false, if◌then◌else◌, slice_get, Option, Some, None}
use Rattle.std.specs.List.{flat_map}
use Rattle.sa_base.specs.declared.num.Num.{Num}
use Rattle.sa_base.specs.declared.num.Num.TheVariants.{I32}
use Rattle.sa_typed.specs.Cells.{Inner, inner_cells, is_starred}
use Rattle.sa_typed.specs.Executions.{block_of}
use Rattle.sa_typed.specs.Frames.{has_cells, home_cells, offset_of, all_kept, result_of}
use Rattle.sa_typed.specs.Layouts.{Layout, layout_of}
use Rattle.sa_typed.specs.WellTyped.{type_of}
use Rattle.sa_typed.specs.declared.expr.Expr.{Expr, Read', Row_of-Step, end_of-Step, more_of-Step, more_of-Expr, end_of-Expr}
use Rattle.sa_typed.specs.declared.expr.Expr.TheVariants as e
use Rattle.sa_typed.specs.declared.expr.Step.{At', Field}
use Rattle.sa_typed.specs.declared.program.Home.{Home}
use Rattle.sa_typed.specs.declared.program.Home.TheVariants as home
use Rattle.sa_typed.specs.declared.program.Var.{Var}
use Rattle.sa_typed.specs.declared.program.Program.{Program}
use Rattle.sa_typed.specs.declared.stmt.Arg.{Arg}
use Rattle.sa_typed.specs.declared.stmt.Arg.TheVariants.{Value as ByValue, Object as ByReference}
use Rattle.sa_typed.specs.declared.stmt.Stmt.{Stmt, Row_of-Stmt, end_of-Stmt, more_of-Stmt, Row_of-Group, end_of-Group, more_of-Group}
use Rattle.sa_ir.specs.declared.frame.Target.{Target}
use Rattle.sa_ir.specs.declared.ir.Cell.{Cell}
use Rattle.sa_ir.specs.declared.ir.Ends.{Ends}
use Rattle.sa_ir.specs.Initial.{object_ends}
use Rattle.sa_ir.specs.Names.{steps_text, var_text, call_text}

-- one call: the text of the path that leads to it, the cell of its result, and what each variable stands for in it. A reference
-- stands for the place of its argument, with the cells that keep its indices; every other variable for its own first cell
pub record Frame : Type 0 where
  pub prefix : List ℕ
  pub result : ℕ
  pub base : ℕ → Target

-- ---- numbers of cells
-- the first cell of a variable in a call whose cells begin there
abbrev pub first_at : Program → ℕ → ℕ → Home → ℕ
first_at p first v home.Global = offset_of p home.Global v
first_at p first v home.Static = home_cells p home.Global + offset_of p home.Static v
first_at p first v (home.Local f) = first + offset_of p (home.Local f) v

abbrev pub first_of_var : Program → ℕ → ℕ → Option Var → ℕ
first_of_var p first v None = 0
first_of_var p first v (Some x) = first_at p first v x.home

unfoldable pub own_target : Program → ℕ → ℕ → Target
own_target p first v = record { first = first_of_var p first v (slice_get p.vars v); rows = [] }

-- ---- lists of cells
-- a cell of an object, with the name of the object before its own
abbrev pub cell_in : List ℕ → Layout → Inner → Cell
cell_in name l c = record { name = name ++ steps_text l c.steps; num = c.num; starred = is_starred c.steps; hidden = false }

unfoldable pub object_cells : Program → List ℕ → ℕ → List Cell
object_cells p prefix v = map (cell_in (var_text prefix (slice_get p.vars v)) (layout_of p v)) (inner_cells (layout_of p v))

-- of the variables with numbers from k on that live there, in a call to which the path with this text leads
unfoldable pub cells_at : Program → List ℕ → Home → ℕ → List Var → List Cell
cells_at p prefix h k [] = []
cells_at p prefix h k (x ∷ xs) = (if has_cells p h k x then object_cells p prefix k else []) ++ cells_at p prefix h (k + 1) xs

abbrev pub cells_of_home : Program → List ℕ → Home → List Cell
cells_of_home p prefix h = cells_at p prefix h 0 p.vars

-- a cell that no report names
abbrev pub hidden : Num → Cell
hidden num = record { name = []; num = num; starred = false; hidden = true }

-- an index has a hidden cell of its own type
unfoldable pub index_cells : {n : _} → Row_of-Step n → List Cell
index_cells end_of-Step = []
index_cells (more_of-Step (At' q n m (more_of-Expr a end_of-Expr)) rest) = hidden (type_of a) ∷ index_cells rest
index_cells (more_of-Step (Field f) rest) = index_cells rest

unfoldable pub read_cells : Expr → List Cell
read_cells (Read' v n steps num) = index_cells steps
read_cells _ = []

abbrev pub arg_cells : Arg → List Cell
arg_cells (ByValue q a) = []
arg_cells (ByReference x) = read_cells (e.Read x I32)

abbrev pub result_cells : Option Num → List Cell
result_cells None = []
result_cells (Some num) = hidden num ∷ []

-- of one call: parameters and locals in the order of their declarations, then the indices that are kept, then the result
unfoldable pub call_cells : Program → List ℕ → ℕ → List Arg → List Cell
call_cells p prefix f args = cells_of_home p prefix (home.Local f) ++ (flat_map arg_cells args ++ result_cells (result_of (slice_get p.funcs f)))

-- what a statement brings in a call to which the path with this text leads, given what the bodies of functions bring
unfoldable mutual
  pub stmt_cells : Program → (ℕ → List ℕ → List Cell) → List ℕ → Stmt → List Cell
  stmt_cells p bodies prefix (Stmt.Block' n all) = all_cells p bodies prefix all
  stmt_cells p bodies prefix (Stmt.Call q f args dest) = call_cells p (call_text p prefix q f) f args ++ bodies f (call_text p prefix q f)
  stmt_cells p bodies prefix (Stmt.If' e n (more_of-Stmt a end_of-Stmt) m (more_of-Stmt b end_of-Stmt) marked) = stmt_cells p bodies prefix a ++ stmt_cells p bodies prefix b
  stmt_cells p bodies prefix (Stmt.Switch' e num n groups marked) = group_cells p bodies prefix groups
  stmt_cells p bodies prefix (Stmt.Loop' q kind cond n (more_of-Stmt body end_of-Stmt) step) = stmt_cells p bodies prefix body
  stmt_cells p bodies prefix _ = []

  pub all_cells : {n : _} → Program → (ℕ → List ℕ → List Cell) → List ℕ → Row_of-Stmt n → List Cell
  all_cells p bodies prefix end_of-Stmt = []
  all_cells p bodies prefix (more_of-Stmt s rest) = stmt_cells p bodies prefix s ++ all_cells p bodies prefix rest

  pub group_cells : {n : _} → Program → (ℕ → List ℕ → List Cell) → List ℕ → Row_of-Group n → List Cell
  group_cells p bodies prefix end_of-Group = []
  group_cells p bodies prefix (more_of-Group labels n (more_of-Stmt body end_of-Stmt) rest) = stmt_cells p bodies prefix body ++ group_cells p bodies prefix rest

unfoldable pub body_cells : Program → ℕ → ℕ → List ℕ → List Cell
body_cells p zero f prefix = []
body_cells p (suc depth) f prefix = stmt_cells p (body_cells p depth) prefix (block_of (slice_get p.funcs f))

-- ---- of the program
unfoldable pub program_cells : Program → List Cell
program_cells p =
    cells_of_home p [] home.Global ++ (cells_of_home p [] home.Static ++ (call_cells p [] p.entry [] ++ body_cells p (length p.funcs) p.entry []))

-- what the cells of globals and static locals begin with
unfoldable pub ends_at : Program → Home → ℕ → List Var → List Ends
ends_at p h k [] = []
ends_at p h k (x ∷ xs) = (if has_cells p h k x then object_ends x.initial (layout_of p k) else []) ++ ends_at p h (k + 1) xs

unfoldable pub initial_ends_of : Program → List Ends
initial_ends_of p = ends_at p home.Global 0 p.vars ++ ends_at p home.Static 0 p.vars

-- the call of main, whose cells stand behind those of globals and static locals
abbrev pub main_first : Program → ℕ
main_first p = home_cells p home.Global + home_cells p home.Static

abbrev pub main_frame : Program → Frame
main_frame p = record { prefix = []; result = main_first p + (home_cells p (home.Local p.entry) + all_kept []); base = own_target p (main_first p) }
