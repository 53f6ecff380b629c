-- Lowered statements, call by call: an argument is an assignment to its parameter, or keeps the indices of a reference's place; the
-- called body is a block; the result is assigned from its hidden cell. Numbers of cells and loops are sums of what stands before.
use Rattle.std.specs.Prelude.{ℕ, zero, suc, ◌+◌, ◌==◌, List, [], ◌∷◌, ◌++◌, reverse, if◌then◌else◌, slice_get, Option, Some, None, option_map}
use Rattle.sa_base.specs.declared.num.Num.{Num}
use Rattle.sa_base.specs.declared.num.Num.TheVariants.{I32}
use Rattle.sa_base.specs.declared.pos.Pos.{Pos}
use Rattle.sa_typed.specs.Executions.{initial_of, params_of, block_of}
use Rattle.sa_typed.specs.Frames.{size, home_cells, all_kept, kept_indices, access_indices, frame_cells, result_of, cells_in, loops_in, body_cells, body_loops}
use Rattle.sa_typed.specs.Layouts.{layout_of, num_in, struct_layout}
use Rattle.sa_typed.specs.declared.expr.Expr.{Expr, Read', Row_of-Step, end_of-Step, more_of-Step, more_of-Expr, end_of-Expr}
use Rattle.sa_typed.specs.declared.expr.Expr.TheVariants as e
use Rattle.sa_typed.specs.declared.expr.Step.{At', Field}
use Rattle.sa_typed.specs.declared.program.Home.TheVariants as home
use Rattle.sa_typed.specs.declared.program.Param.{Param}
use Rattle.sa_typed.specs.declared.program.Program.{Program}
use Rattle.sa_typed.specs.declared.stmt.Start.{Start}
use Rattle.sa_typed.specs.declared.stmt.Start.TheVariants as begins
use Rattle.sa_typed.specs.declared.stmt.Simple.{Simple}
use Rattle.sa_typed.specs.declared.stmt.Simple.TheVariants.{Declare, Assign, Compound, Copy}
use Rattle.sa_typed.specs.declared.stmt.Arg.{Arg}
use Rattle.sa_typed.specs.declared.stmt.Arg.TheVariants.{Value as ByValue, Object as ByReference}
use Rattle.sa_typed.specs.declared.stmt.Destination.{Destination}
use Rattle.sa_typed.specs.declared.stmt.Stmt.{Stmt, Row_of-Stmt, end_of-Stmt, more_of-Stmt, Row_of-Group, end_of-Group, more_of-Group}
use Rattle.sa_ir.specs.declared.expr.IrExpr.TheVariants as ir
use Rattle.sa_ir.specs.declared.frame.Target.{Target}
use Rattle.sa_ir.specs.declared.node.IrAssign.{IrAssign}
use Rattle.sa_ir.specs.declared.node.IrAssign.TheVariants as assign
use Rattle.sa_ir.specs.declared.node.Node.{Node}
use Rattle.sa_ir.specs.declared.node.Node.TheVariants as node
use Rattle.sa_ir.specs.declared.node.IrGroup.{IrGroup}
use Rattle.sa_ir.specs.Initial.{object_ends}
use Rattle.sa_ir.specs.Names.{call_text}
use Rattle.sa_ir.specs.Frames.{Frame, own_target}
use Rattle.sa_ir.specs.Places.{place_at, lowered, place, only, target}

-- ---- simple statements
abbrev pub declared_as : Program → Frame → ℕ → Start → IrAssign
declared_as p fr v begins.Any = assign.Any (fr.base v).first (size (layout_of p v))
declared_as p fr v (begins.Value q a) = assign.Value (place_at (fr.base v)) (num_in (layout_of p v)) q (lowered p fr a)
declared_as p fr v begins.Items = assign.Items (fr.base v).first (object_ends (initial_of (slice_get p.vars v)) (layout_of p v))

unfoldable pub simple : Program → Frame → Simple → IrAssign
simple p fr (Declare v s) = declared_as p fr v s
simple p fr (Assign x num q a) = assign.Value (place p fr x) num q (lowered p fr a)
simple p fr (Compound x num op q work a) = assign.Compound (place p fr x) num op q work (lowered p fr a)
simple p fr (Copy k x q y) = assign.Copy (place p fr x) (place p fr y) (size (struct_layout (reverse p.structs) k))

-- ---- calls
-- the call of a function whose cells begin at k
abbrev pub kept_from : Program → ℕ → ℕ → ℕ
kept_from p f k = k + home_cells p (home.Local f)

-- what the variables of the called function stand for, where the indices of arguments are kept in the cells from h on
unfoldable pub bound : Program → Frame → ℕ → List Param → List Arg → (ℕ → Target) → ℕ → Target
bound p fr h [] args base = base
bound p fr h (q ∷ params) [] base = base
bound p fr h (q ∷ params) (ByValue at a ∷ args) base = bound p fr h params args base
bound p fr h (q ∷ params) (ByReference x ∷ args) base =
    bound p fr (h + access_indices x) params args (λ v. if v == q.var then target p fr h x else base v)

unfoldable pub called_frame : Program → Frame → ℕ → Pos → ℕ → List Arg → Frame
called_frame p fr k q f args = record {
  prefix = call_text p fr.prefix q f;
  result = kept_from p f k + all_kept args;
  base = bound p fr (kept_from p f k) (params_of (slice_get p.funcs f)) args (own_target p k);
}

unfoldable pub kept : {n : _} → Program → Frame → ℕ → Row_of-Step n → List Node
kept p fr h end_of-Step = []
kept p fr h (more_of-Step (At' q n m (more_of-Expr a end_of-Expr)) rest) = node.Assign (assign.Keep h q n (lowered p fr a)) ∷ kept p fr (h + 1) rest
kept p fr h (more_of-Step (Field f) rest) = kept p fr h rest

unfoldable pub read_kept : Program → Frame → ℕ → Expr → List Node
read_kept p fr h (Read' v n steps num) = kept p fr h steps
read_kept p fr h _ = []

-- of one argument, whose parameter has its cells in a call whose cells begin at k
abbrev pub passed : Program → Frame → ℕ → ℕ → Param → Arg → List Node
passed p fr k h q (ByValue at a) = node.Assign (assign.Value (place_at (own_target p k q.var)) (num_in (layout_of p q.var)) at (lowered p fr a)) ∷ []
passed p fr k h q (ByReference x) = read_kept p fr h (e.Read x I32)

-- of all arguments from left to right
unfoldable pub all_passed : Program → Frame → ℕ → ℕ → List Param → List Arg → List Node
all_passed p fr k h [] args = []
all_passed p fr k h (q ∷ params) [] = []
all_passed p fr k h (q ∷ params) (a ∷ args) = passed p fr k h q a ++ all_passed p fr k (h + kept_indices a) params args

abbrev pub stored : Program → Frame → ℕ → Num → Option Destination → List Node
stored p fr k num None = []
stored p fr k num (Some d) = node.Assign (assign.Value (place p fr d.place) d.num d.pos (ir.Read (only k) num)) ∷ []

-- the result goes to its place
abbrev pub delivered : Program → Frame → ℕ → Option Num → Option Destination → List Node
delivered p fr k None dest = []
delivered p fr k (Some num) dest = stored p fr k num dest

-- the nodes of a function's body, by its number, the call, and the numbers of the next cell and loop
abbrev pub Bodies : Type 0
Bodies = ℕ → Frame → ℕ → ℕ → List Node

-- a call whose cells begin at k
unfoldable pub called : Program → Bodies → Frame → ℕ → ℕ → Pos → ℕ → List Arg → Option Destination → List Node
called p bodies fr k l q f args dest =
    all_passed p fr k (kept_from p f k) (params_of (slice_get p.funcs f)) args
    ++ (node.Block (bodies f (called_frame p fr k q f args) (k + frame_cells p f args) l)
    ∷ delivered p fr (kept_from p f k + all_kept args) (result_of (slice_get p.funcs f)) dest)

-- ---- statements
-- the nodes of a branch, a loop's body or a group as one block: one in braces is no block within a block
abbrev pub as_block : Stmt → List Node → Node
as_block (Stmt.Block' n all) (b ∷ []) = b
as_block s ns = node.Block ns

-- in a call, with the numbers k and l of the next cell and loop; calls inside go `depth` deep
unfoldable mutual
  pub nodes : Program → ℕ → Bodies → Frame → ℕ → ℕ → Stmt → List Node
  nodes p depth bodies fr k l (Stmt.Simple s) = node.Assign (simple p fr s) ∷ []
  nodes p depth bodies fr k l (Stmt.Scope v) = []
  nodes p depth bodies fr k l (Stmt.Block' n all) = node.Block (all_nodes p depth bodies fr k l all) ∷ []
  nodes p depth bodies fr k l (Stmt.Call q f args dest) = called p bodies fr k l q f args dest
  nodes p depth bodies fr k l (Stmt.If' c n (more_of-Stmt a end_of-Stmt) m (more_of-Stmt b end_of-Stmt) marked) =
      node.If (lowered p fr c) (as_block a (nodes p depth bodies fr k l a))
      (as_block b (nodes p depth bodies fr (k + cells_in p (body_cells p depth) a) (l + loops_in (body_loops p depth) a) b)) marked ∷ []
  nodes p depth bodies fr k l (Stmt.Switch' c num n groups marked) = node.Switch (lowered p fr c) num (group_nodes p depth bodies fr k l groups) marked ∷ []
  nodes p depth bodies fr k l (Stmt.Loop' q kind cond n (more_of-Stmt body end_of-Stmt) step) =
      node.Loop l kind (option_map (lowered p fr) cond) (as_block body (nodes p depth bodies fr k (l + 1) body)) (option_map (simple p fr) step) ∷ []
  nodes p depth bodies fr k l (Stmt.Known c) = node.Known (lowered p fr c) ∷ []
  nodes p depth bodies fr k l (Stmt.Assert q c) = node.Assert q (lowered p fr c) ∷ []
  nodes p depth bodies fr k l Stmt.Wait = node.Wait ∷ []
  nodes p depth bodies fr k l Stmt.Break = node.Break ∷ []
  nodes p depth bodies fr k l (Stmt.Return q num a) = node.Assign (assign.Value (only fr.result) num q (lowered p fr a)) ∷ []

  pub all_nodes : {n : _} → Program → ℕ → Bodies → Frame → ℕ → ℕ → Row_of-Stmt n → List Node
  all_nodes p depth bodies fr k l end_of-Stmt = []
  all_nodes p depth bodies fr k l (more_of-Stmt s rest) =
      nodes p depth bodies fr k l s ++ all_nodes p depth bodies fr (k + cells_in p (body_cells p depth) s) (l + loops_in (body_loops p depth) s) rest

  pub group_nodes : {n : _} → Program → ℕ → Bodies → Frame → ℕ → ℕ → Row_of-Group n → List IrGroup
  group_nodes p depth bodies fr k l end_of-Group = []
  group_nodes p depth bodies fr k l (more_of-Group labels n (more_of-Stmt body end_of-Stmt) rest) =
      record { labels = labels; body = as_block body (nodes p depth bodies fr k l body) }
      ∷ group_nodes p depth bodies fr (k + cells_in p (body_cells p depth) body) (l + loops_in (body_loops p depth) body) rest

-- what is in the block of a statement
unfoldable pub in_block : Program → ℕ → Bodies → Frame → ℕ → ℕ → Stmt → List Node
in_block p depth bodies fr k l (Stmt.Block' n all) = all_nodes p depth bodies fr k l all
in_block p depth bodies fr k l s = nodes p depth bodies fr k l s

-- the bodies of all functions, where calls inside calls go so deep
unfoldable pub body_nodes : Program → ℕ → Bodies
body_nodes p zero f fr k l = []
body_nodes p (suc depth) f fr k l = in_block p depth (body_nodes p depth) fr k l (block_of (slice_get p.funcs f))
