-- The cells of each form of an expression, an assignment and a statement, as code puts them into a set.
use Rattle.std.proofs.Common.{◌≡◌, ℕ, List, [], ◌++◌, refl, sym, ap, ◌∙◌, Bool, Option}
use Rattle.std.specs.List.{flat_map}
use Rattle.std.specs.Prelude.{None}
use Rattle.sa_base.specs.declared.num.Num.{Num}
use Rattle.sa_base.specs.declared.num.Num.TheVariants.{I32}
use Rattle.sa_base.specs.declared.pos.Pos.{Pos}
use Rattle.sa_typed.specs.declared.expr.Operator.{Operator}
use Rattle.sa_typed.specs.declared.expr.Prefix.{Prefix}
use Rattle.sa_typed.specs.declared.stmt.LoopKind.{LoopKind}
use Rattle.sa_ir.specs.declared.expr.IrExpr.{IrExpr, Row_of-IrExpr, end_of-IrExpr, more_of-IrExpr, items-the_row-IrExpr, items_hidden-the_row-IrExpr-3, Row_of-IrLink, end_of-IrLink, more_of-IrLink, items-the_row-IrLink, items_hidden-the_row-IrLink-2, Row_of-Row, end_of-Row, more_of-Row, items-the_row-Row, items_hidden-the_row-Row-0}
use Rattle.sa_ir.specs.declared.expr.IrExpr.TheVariants as e
use Rattle.sa_ir.specs.declared.expr.IrExpr.TheBlock.{hidden-the_row-IrExpr-1}
use Rattle.sa_ir.specs.declared.expr.IrLink.{IrLink}
use Rattle.sa_ir.specs.declared.expr.IrPlace.{IrPlace}
use Rattle.sa_ir.specs.declared.expr.Row.{Row, At', Kept}
use Rattle.sa_ir.specs.declared.expr.Row.TheVariants as r
use Rattle.sa_ir.specs.declared.ir.Ends.{Ends}
use Rattle.sa_ir.specs.declared.node.IrAssign.{IrAssign}
use Rattle.sa_ir.specs.declared.node.IrAssign.TheVariants as assign
use Rattle.sa_ir.specs.declared.node.IrGroup.{IrGroup}
use Rattle.sa_ir.specs.declared.node.Node.{Node, Block', Switch', Row_of-Node, end_of-Node, more_of-Node, items-the_row-Node, items_hidden-the_row-Node-0, Row_of-IrGroup, end_of-IrGroup, more_of-IrGroup, items-the_row-IrGroup, items_hidden-the_row-IrGroup-2}
use Rattle.sa_ir.specs.declared.node.Node.TheVariants as node
use Rattle.sa_ir.specs.declared.node.Node.TheBlock.{hidden-the_row-Node-1, shown-the_row-Node-1}
use Rattle.sa_ir.specs.Occurrences.{every, expr_cells, all_expr_cells, links_cells, index_cells, read_cells, place_cells, assign_cells, some_expr_cells, some_assign_cells, node_cells, all_node_cells, group_cells}
use Rattle.sa_ir.specs.Shown.{with_all}
use Rattle.sa_lower.specs.Rows.{rows_lead}
use Rattle.sa_lower.specs.Occurring.{link_cells, row_cells, body_cells}
use Rattle.sa_lower.proofs.Lists.{with_none, then_more}
use Rattle.sa_lower.proofs.RowLaws.{links_in, operands_in, rows_in, lead_row}

-- ---- rows as lists
exprs_row : (n : _) (q : Row_of-IrExpr n) → all_expr_cells q ≡ flat_map expr_cells (items-the_row-IrExpr n q)
unfolding expr_cells
exprs_row n end_of-IrExpr = refl
exprs_row n (more_of-IrExpr b rest) = ap (λ (l : List ℕ). expr_cells b ++ l) (exprs_row _ rest)

links_row : (n : _) (q : Row_of-IrLink n) → links_cells q ≡ flat_map link_cells (items-the_row-IrLink n q)
unfolding expr_cells
links_row n end_of-IrLink = refl
links_row n (more_of-IrLink op q num b rest) = ap (λ (l : List ℕ). expr_cells b ++ l) (links_row _ rest)

index_row : (n : _) (q : Row_of-Row n) → index_cells q ≡ flat_map row_cells (items-the_row-Row n q)
unfolding expr_cells row_cells
index_row n end_of-Row = refl
index_row n (more_of-Row (At' q m stride k (more_of-IrExpr a end_of-IrExpr)) rest) = ap (λ (l : List ℕ). expr_cells a ++ l) (index_row _ rest)
index_row n (more_of-Row (Kept c m stride) rest) = index_row _ rest

-- ---- places
pub at_cells : (q : Pos) (n stride : ℕ) (a : IrExpr) → row_cells (r.At q n stride a) ≡ expr_cells a
unfolding row_cells hidden-the_row-IrExpr-1 denote.Hole.Carrier.hidden
at_cells q n stride a = refl

pub kept_cells : (c n stride : ℕ) → row_cells (r.Kept c n stride) ≡ []
unfolding row_cells
kept_cells c n stride = refl

pub place_lists : (count : ℕ) (x : IrPlace) → place_cells count x ≡ rows_lead x.rows (every count 1 x.first) ++ flat_map row_cells x.rows
unfolding read_cells
place_lists count x =
    let row = rows_in (e.Read x I32) in
    let at = every count 1 x.first in
    ap (λ (l : List ℕ). l ++ index_cells row.1) (lead_row row.0 row.1 at ∙ ap (λ (l : List Row). rows_lead l at) (items_hidden-the_row-Row-0 x.rows))
    ∙ ap (λ (l : List ℕ). rows_lead x.rows at ++ l) (index_row row.0 row.1 ∙ ap (flat_map row_cells) (items_hidden-the_row-Row-0 x.rows))

pub ruleset of_place = (place_lists, then_more)

pub ruleset of_index = (at_cells, kept_cells, with_none)

-- ---- expressions
pub number_cells : (n : ℕ) (num : Num) → expr_cells (e.Number n num) ≡ []
unfolding expr_cells
number_cells n num = refl

pub input_cells : (k : ℕ) (num : Num) → expr_cells (e.Input k num) ≡ []
unfolding expr_cells
input_cells k num = refl

pub reads_cells : (x : IrPlace) (num : Num) → expr_cells (e.Read x num) ≡ place_cells 1 x
unfolding expr_cells read_cells every
reads_cells x num = refl

pub prefix_cells : (op : Prefix) (q : Pos) (num : Num) (a : IrExpr) → expr_cells (e.Prefix op q num a) ≡ expr_cells a
unfolding expr_cells hidden-the_row-IrExpr-1 denote.Hole.Carrier.hidden
prefix_cells op q num a = refl

pub cast_cells : (q : Pos) (num : Num) (a : IrExpr) → expr_cells (e.Cast q num a) ≡ expr_cells a
unfolding expr_cells hidden-the_row-IrExpr-1 denote.Hole.Carrier.hidden
cast_cells q num a = refl

pub chain_cells : (a : IrExpr) (ls : List IrLink) → expr_cells (e.Chain a ls) ≡ expr_cells a ++ flat_map link_cells ls
unfolding expr_cells hidden-the_row-IrExpr-1 denote.Hole.Carrier.hidden
chain_cells a ls =
    let row = links_in (e.Chain a ls) in
    ap (λ (l : List ℕ). expr_cells a ++ l) (links_row row.0 row.1 ∙ ap (flat_map link_cells) (items_hidden-the_row-IrLink-2 ls))

pub and_cells : (a : IrExpr) (es : List IrExpr) → expr_cells (e.And a es) ≡ expr_cells a ++ flat_map expr_cells es
unfolding expr_cells hidden-the_row-IrExpr-1 denote.Hole.Carrier.hidden
and_cells a es =
    let row = operands_in (e.And a es) in
    ap (λ (l : List ℕ). expr_cells a ++ l) (exprs_row row.0 row.1 ∙ ap (flat_map expr_cells) (items_hidden-the_row-IrExpr-3 es))

pub or_cells : (a : IrExpr) (es : List IrExpr) → expr_cells (e.Or a es) ≡ expr_cells a ++ flat_map expr_cells es
unfolding expr_cells hidden-the_row-IrExpr-1 denote.Hole.Carrier.hidden
or_cells a es =
    let row = operands_in (e.Or a es) in
    ap (λ (l : List ℕ). expr_cells a ++ l) (exprs_row row.0 row.1 ∙ ap (flat_map expr_cells) (items_hidden-the_row-IrExpr-3 es))

pub choice_cells : (a b c : IrExpr) (num : Num) → expr_cells (e.Choice a b c num) ≡ expr_cells a ++ (expr_cells b ++ expr_cells c)
unfolding expr_cells hidden-the_row-IrExpr-1 denote.Hole.Carrier.hidden
choice_cells a b c num = refl

pub ruleset of_expr = (number_cells, input_cells, reads_cells, prefix_cells, cast_cells, chain_cells, and_cells, or_cells, choice_cells, with_none, then_more)

-- ---- what changes cells
pub value_cells : (x : IrPlace) (num : Num) (q : Pos) (a : IrExpr) → assign_cells (assign.Value x num q a) ≡ place_cells 1 x ++ expr_cells a
unfolding assign_cells
value_cells x num q a = refl

pub compound_cells : (x : IrPlace) (num : Num) (op : Operator) (q : Pos) (work : Num) (a : IrExpr) → assign_cells (assign.Compound x num op q work a) ≡ place_cells 1 x ++ expr_cells a
unfolding assign_cells
compound_cells x num op q work a = refl

pub copy_cells : (x y : IrPlace) (count : ℕ) → assign_cells (assign.Copy x y count) ≡ place_cells count x ++ place_cells count y
unfolding assign_cells
copy_cells x y count = refl

pub any_cells : (first count : ℕ) → assign_cells (assign.Any first count) ≡ []
unfolding assign_cells
any_cells first count = refl

pub items_cells : (first : ℕ) (ends : List Ends) → assign_cells (assign.Items first ends) ≡ []
unfolding assign_cells
items_cells first ends = refl

pub keep_cells : (h : ℕ) (q : Pos) (n : ℕ) (a : IrExpr) → assign_cells (assign.Keep h q n a) ≡ expr_cells a
unfolding assign_cells
keep_cells h q n a = refl

pub ruleset of_assign = (value_cells, compound_cells, copy_cells, any_cells, items_cells, keep_cells, with_none, then_more)

-- ---- statements
abbrev nodes_in : Node → (n : _) × Row_of-Node n
nodes_in (Block' n all) = (_, all)
nodes_in _ = (_, end_of-Node)

abbrev groups_in : Node → (n : _) × Row_of-IrGroup n
groups_in (Switch' c num n gs marked) = (_, gs)
groups_in _ = (_, end_of-IrGroup)

nodes_row : (n : _) (q : Row_of-Node n) → all_node_cells q ≡ flat_map node_cells (items-the_row-Node n q)
unfolding node_cells
nodes_row n end_of-Node = refl
nodes_row n (more_of-Node a rest) = ap (λ (l : List ℕ). node_cells a ++ l) (nodes_row _ rest)

groups_row : (n : _) (q : Row_of-IrGroup n) → group_cells q ≡ flat_map body_cells (items-the_row-IrGroup n q)
unfolding node_cells shown-the_row-Node-1 denote.Hole.Carrier.shown
groups_row n end_of-IrGroup = refl
groups_row n (more_of-IrGroup labels m (more_of-Node body end_of-Node) rest) = ap (λ (l : List ℕ). node_cells body ++ l) (groups_row _ rest)

pub assigns_cells : (a : IrAssign) → node_cells (node.Assign a) ≡ assign_cells a
unfolding node_cells
assigns_cells a = refl

pub block_cells : (ns : List Node) → node_cells (node.Block ns) ≡ flat_map node_cells ns
unfolding node_cells
block_cells ns =
    let row = nodes_in (node.Block ns) in
    nodes_row row.0 row.1 ∙ ap (flat_map node_cells) (items_hidden-the_row-Node-0 ns)

pub if_cells : (c : IrExpr) (a b : Node) (marked : Bool) → node_cells (node.If c a b marked) ≡ expr_cells c ++ (node_cells a ++ node_cells b)
unfolding node_cells hidden-the_row-Node-1 denote.Hole.Carrier.hidden
if_cells c a b marked = refl

pub switch_cells : (c : IrExpr) (num : Num) (gs : List IrGroup) (marked : Bool) → node_cells (node.Switch c num gs marked) ≡ expr_cells c ++ flat_map body_cells gs
unfolding node_cells hidden-the_row-Node-1 denote.Hole.Carrier.hidden
switch_cells c num gs marked =
    let row = groups_in (node.Switch c num gs marked) in
    ap (λ (l : List ℕ). expr_cells c ++ l) (groups_row row.0 row.1 ∙ ap (flat_map body_cells) (items_hidden-the_row-IrGroup-2 gs))

pub loop_cells : (l : ℕ) (kind : LoopKind) (c : Option IrExpr) (body : Node) (step : Option IrAssign) →
    node_cells (node.Loop l kind c body step) ≡ some_expr_cells c ++ (node_cells body ++ some_assign_cells step)
unfolding node_cells hidden-the_row-Node-1 denote.Hole.Carrier.hidden
loop_cells l kind c body step = refl

pub known_cells : (a : IrExpr) → node_cells (node.Known a) ≡ expr_cells a
unfolding node_cells
known_cells a = refl

pub assert_cells : (q : Pos) (a : IrExpr) → node_cells (node.Assert q a) ≡ expr_cells a
unfolding node_cells
assert_cells q a = refl

pub wait_cells : node_cells node.Wait ≡ []
unfolding node_cells
wait_cells = refl

pub break_cells : node_cells node.Break ≡ []
unfolding node_cells
break_cells = refl

pub ruleset of_node = (assigns_cells, block_cells, if_cells, switch_cells, loop_cells, known_cells, assert_cells, wait_cells, break_cells, with_none, then_more)

-- ---- what needn't be there
pub no_condition : (ks : List ℕ) (c : Option IrExpr) → c ≡ None → ks ≡ with_all ks (some_expr_cells c)
no_condition ks c h = sym (ap (λ (o : Option IrExpr). with_all ks (some_expr_cells o)) h ∙ with_none ks)

pub no_step : (ks : List ℕ) (a : Option IrAssign) → a ≡ None → ks ≡ with_all ks (some_assign_cells a)
no_step ks a h = sym (ap (λ (o : Option IrAssign). with_all ks (some_assign_cells o)) h ∙ with_none ks)

pub ruleset of_none = (no_condition, no_step)
