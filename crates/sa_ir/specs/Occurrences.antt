-- No promise of the top calls rests on this page: it is for laws beside them, for proofs and for inner functions.
-- Which cells occur in what is lowered. A place makes the cells occur that it may name: each index names every element of its
-- dimension, but for a constant one, which names none where it wasn't folded. This project's own choice.
use Rattle.std.specs.Prelude.{ℕ, zero, suc, ◌+◌, ◌==◌, List, [], ◌∷◌, ◌++◌, Bool, true, false, ◌&&◌, if◌then◌else◌, Option, Some, None}
use Rattle.std.specs.List.{flat_map}
use Rattle.sa_base.specs.declared.num.Num.TheVariants.{I32}
use Rattle.sa_ir.specs.declared.expr.IrExpr.{IrExpr, Number, Read', Input, Prefix', Cast', Chain', And', Or', Choice', end_of-IrExpr, more_of-IrExpr, Row_of-IrExpr, Row_of-IrLink, end_of-IrLink, more_of-IrLink, Row_of-Row, end_of-Row, more_of-Row}
use Rattle.sa_ir.specs.declared.expr.IrExpr.TheVariants as ir
use Rattle.sa_ir.specs.declared.expr.IrPlace.{IrPlace}
use Rattle.sa_ir.specs.declared.expr.Row.{At', Kept}
use Rattle.sa_ir.specs.declared.node.IrAssign.{IrAssign}
use Rattle.sa_ir.specs.declared.node.IrAssign.TheVariants as assign
use Rattle.sa_ir.specs.declared.node.Node.{Node, Row_of-Node, end_of-Node, more_of-Node, Row_of-IrGroup, end_of-IrGroup, more_of-IrGroup}

-- ---- constant expressions
unfoldable mutual
  pub is_constant : IrExpr → Bool
  is_constant (Number n num) = true
  is_constant (Read' first n rows num) = false
  is_constant (Input k num) = false
  is_constant (Prefix' op q num n (more_of-IrExpr a end_of-IrExpr)) = is_constant a
  is_constant (Cast' q num n (more_of-IrExpr a end_of-IrExpr)) = is_constant a
  is_constant (Chain' n (more_of-IrExpr a end_of-IrExpr) m ls) = is_constant a && are_constant ls
  is_constant (And' n (more_of-IrExpr a end_of-IrExpr) m rest) = is_constant a && all_constant rest
  is_constant (Or' n (more_of-IrExpr a end_of-IrExpr) m rest) = is_constant a && all_constant rest
  is_constant (Choice' n (more_of-IrExpr a end_of-IrExpr) m (more_of-IrExpr b end_of-IrExpr) l (more_of-IrExpr c end_of-IrExpr) num) = is_constant a && (is_constant b && is_constant c)

  pub all_constant : {n : _} → Row_of-IrExpr n → Bool
  all_constant end_of-IrExpr = true
  all_constant (more_of-IrExpr b rest) = is_constant b && all_constant rest

  pub are_constant : {n : _} → Row_of-IrLink n → Bool
  are_constant end_of-IrLink = true
  are_constant (more_of-IrLink op q num b rest) = is_constant b && are_constant rest

-- ---- places
-- so many cells, each further than the one before by the stride
unfoldable pub every : ℕ → ℕ → ℕ → List ℕ
every zero stride c = []
every (suc n) stride c = c ∷ every n stride (c + stride)

-- those to which an index leads from some cells
unfoldable pub led : ℕ → ℕ → List ℕ → List ℕ
led n stride cs = if stride == 0 then cs else flat_map (every n stride) cs

unfoldable pub rows_cells : {n : _} → Row_of-Row n → List ℕ → List ℕ
rows_cells end_of-Row cs = cs
rows_cells (more_of-Row (At' q n stride m (more_of-IrExpr a end_of-IrExpr)) rest) cs = rows_cells rest (if is_constant a then [] else led n stride cs)
rows_cells (more_of-Row (Kept c n stride) rest) cs = rows_cells rest (led n stride cs)

-- ---- expressions
unfoldable mutual
  pub expr_cells : IrExpr → List ℕ
  expr_cells (Number n num) = []
  expr_cells (Read' first n rows num) = rows_cells rows (first ∷ []) ++ index_cells rows
  expr_cells (Input k num) = []
  expr_cells (Prefix' op q num n (more_of-IrExpr a end_of-IrExpr)) = expr_cells a
  expr_cells (Cast' q num n (more_of-IrExpr a end_of-IrExpr)) = expr_cells a
  expr_cells (Chain' n (more_of-IrExpr a end_of-IrExpr) m ls) = expr_cells a ++ links_cells ls
  expr_cells (And' n (more_of-IrExpr a end_of-IrExpr) m rest) = expr_cells a ++ all_expr_cells rest
  expr_cells (Or' n (more_of-IrExpr a end_of-IrExpr) m rest) = expr_cells a ++ all_expr_cells rest
  expr_cells (Choice' n (more_of-IrExpr a end_of-IrExpr) m (more_of-IrExpr b end_of-IrExpr) l (more_of-IrExpr c end_of-IrExpr) num) =
      expr_cells a ++ (expr_cells b ++ expr_cells c)

  pub all_expr_cells : {n : _} → Row_of-IrExpr n → List ℕ
  all_expr_cells end_of-IrExpr = []
  all_expr_cells (more_of-IrExpr b rest) = expr_cells b ++ all_expr_cells rest

  pub links_cells : {n : _} → Row_of-IrLink n → List ℕ
  links_cells end_of-IrLink = []
  links_cells (more_of-IrLink op q num b rest) = expr_cells b ++ links_cells rest

  -- in the indices of a place
  pub index_cells : {n : _} → Row_of-Row n → List ℕ
  index_cells end_of-Row = []
  index_cells (more_of-Row (At' q n stride m (more_of-IrExpr a end_of-IrExpr)) rest) = expr_cells a ++ index_cells rest
  index_cells (more_of-Row (Kept c n stride) rest) = index_cells rest

-- the cells of an object of so many cells
unfoldable pub read_cells : ℕ → IrExpr → List ℕ
read_cells count (Read' first n rows num) = rows_cells rows (every count 1 first) ++ index_cells rows
read_cells count _ = []

abbrev pub place_cells : ℕ → IrPlace → List ℕ
place_cells count x = read_cells count (ir.Read x I32)

-- ---- statements
unfoldable pub assign_cells : IrAssign → List ℕ
assign_cells (assign.Value x num q a) = place_cells 1 x ++ expr_cells a
assign_cells (assign.Compound x num op q work a) = place_cells 1 x ++ expr_cells a
assign_cells (assign.Copy x y count) = place_cells count x ++ place_cells count y
assign_cells (assign.Any first count) = []
assign_cells (assign.Items first ends) = []
assign_cells (assign.Keep h q n a) = expr_cells a

abbrev pub some_expr_cells : Option IrExpr → List ℕ
some_expr_cells None = []
some_expr_cells (Some a) = expr_cells a

abbrev pub some_assign_cells : Option IrAssign → List ℕ
some_assign_cells None = []
some_assign_cells (Some a) = assign_cells a

unfoldable mutual
  pub node_cells : Node → List ℕ
  node_cells (Node.Assign a) = assign_cells a
  node_cells (Node.Block' n all) = all_node_cells all
  node_cells (Node.If' c n (more_of-Node a end_of-Node) m (more_of-Node b end_of-Node) marked) = expr_cells c ++ (node_cells a ++ node_cells b)
  node_cells (Node.Switch' c num n groups marked) = expr_cells c ++ group_cells groups
  node_cells (Node.Loop' l kind cond n (more_of-Node body end_of-Node) step) = some_expr_cells cond ++ (node_cells body ++ some_assign_cells step)
  node_cells (Node.Known c) = expr_cells c
  node_cells (Node.Assert q c) = expr_cells c
  node_cells Node.Wait = []
  node_cells Node.Break = []

  pub all_node_cells : {n : _} → Row_of-Node n → List ℕ
  all_node_cells end_of-Node = []
  all_node_cells (more_of-Node a rest) = node_cells a ++ all_node_cells rest

  pub group_cells : {n : _} → Row_of-IrGroup n → List ℕ
  group_cells end_of-IrGroup = []
  group_cells (more_of-IrGroup labels n (more_of-Node body end_of-Node) rest) = node_cells body ++ group_cells rest
