-- The pieces of nodes whose parts stand in lists.
use Rattle.std.proofs.Common.{◌≡◌, ℕ, List, [], ◌∷◌, ◌++◌, refl, ap, ◌∙◌, Bool, Option}
use Rattle.std.specs.Prelude.{option_map}
use Rattle.sa_base.specs.declared.num.Num.{Num}
use Rattle.sa_base.specs.declared.pos.Pos.{Pos}
use Rattle.sa_typed.specs.declared.stmt.LoopKind.{LoopKind}
use Rattle.sa_ir.specs.declared.expr.IrExpr.{IrExpr}
use Rattle.sa_ir.specs.declared.node.IrAssign.{IrAssign}
use Rattle.sa_ir.specs.declared.node.IrGroup.{IrGroup}
use Rattle.sa_ir.specs.declared.node.Node.{Node, Row_of-Node, end_of-Node, more_of-Node, items-the_row-Node, items_hidden-the_row-Node-0, Row_of-IrGroup, end_of-IrGroup, more_of-IrGroup, items-the_row-IrGroup, items_hidden-the_row-IrGroup-2}
use Rattle.sa_ir.specs.declared.node.Node.TheVariants as node
use Rattle.sa_ir.specs.declared.node.Node.TheBlock.{hidden-the_row-Node-1, shown-the_row-Node-1}
use Rattle.sa_flat.specs.Domain.{Domain}
use Rattle.sa_flat.specs.Meanings.{Cells}
use Rattle.sa_flat.specs.Expressions.{meaning}
use Rattle.sa_flat.specs.Assignments.{change}
use Rattle.sa_flat.specs.Pieces.{Walk, Group, changed, breaks, known, asserted, waits, done, followed, block, decision, selection, looped}
use Rattle.sa_flat.specs.Nodes.{piece, walk, groups, turn_of, peak}

abbrev nodes_in : Node → (n : _) × Row_of-Node n
nodes_in (Node.Block' n all) = (_, all)
nodes_in _ = (_, end_of-Node)

abbrev groups_in : Node → (n : _) × Row_of-IrGroup n
groups_in (Node.Switch' c num n gs marked) = (_, gs)
groups_in _ = (_, end_of-IrGroup)

module _ (D : Domain) (x : Cells) where
  abbrev pub groups_of : List IrGroup → List (Group D.Env)
  groups_of [] = []
  groups_of (g ∷ gs) = record { labels = g.labels; body = piece D x g.body } ∷ groups_of gs

  groups_row : (n : _) (r : Row_of-IrGroup n) → groups D x r ≡ groups_of (items-the_row-IrGroup n r)
  unfolding piece shown-the_row-Node-1 denote.Hole.Carrier.shown
  groups_row n end_of-IrGroup = refl
  groups_row n (more_of-IrGroup labels m (more_of-Node body end_of-Node) rest) = ap (λ (gs : List (Group D.Env)). record { labels = labels; body = piece D x body } ∷ gs) (groups_row _ rest)

  pub switch_piece : (c : IrExpr) (num : Num) (gs : List IrGroup) (marked : Bool) → piece D x (node.Switch c num gs marked) ≡ selection D num (meaning D x c) (groups_of gs) marked
  unfolding piece hidden-the_row-Node-1 denote.Hole.Carrier.hidden
  switch_piece c num gs marked =
      let row = groups_in (node.Switch c num gs marked) in
      ap (λ (gs : List (Group D.Env)). selection D num (meaning D x c) gs marked) (groups_row row.0 row.1 ∙ ap groups_of (items_hidden-the_row-IrGroup-2 gs))

  -- nodes before a walk
  abbrev pub before : List Node → Walk D.Env → Walk D.Env
  before [] rest = rest
  before (s ∷ ns) rest = followed D (piece D x s) (before ns rest)

  pub before_append : (ms ns : List Node) (rest : Walk D.Env) → before (ms ++ ns) rest ≡ before ms (before ns rest)
  before_append [] ns rest = refl
  before_append (s ∷ ms) ns rest = ap (λ (r : Walk D.Env). followed D (piece D x s) r) (before_append ms ns rest)

  walk_row : (n : _) (r : Row_of-Node n) → walk D x r ≡ before (items-the_row-Node n r) (done D)
  unfolding piece
  walk_row n end_of-Node = refl
  walk_row n (more_of-Node s rest) = ap (λ (r : Walk D.Env). followed D (piece D x s) r) (walk_row _ rest)

  pub block_piece : (ns : List Node) → piece D x (node.Block ns) ≡ block D (before ns (done D))
  unfolding piece
  block_piece ns =
      let row = nodes_in (node.Block ns) in
      ap (λ (r : Walk D.Env). block D r) (walk_row row.0 row.1 ∙ ap (λ (ns : List Node). before ns (done D)) (items_hidden-the_row-Node-0 ns))

  pub assign_piece : (a : IrAssign) → piece D x (node.Assign a) ≡ changed (change D x a)
  unfolding piece
  assign_piece a = refl

  pub known_piece : (a : IrExpr) → piece D x (node.Known a) ≡ known (meaning D x a)
  unfolding piece
  known_piece a = refl

  pub assert_piece : (q : Pos) (a : IrExpr) → piece D x (node.Assert q a) ≡ asserted q (meaning D x a)
  unfolding piece
  assert_piece q a = refl

  pub wait_piece : piece D x node.Wait ≡ waits D
  unfolding piece
  wait_piece = refl

  pub break_piece : piece D x node.Break ≡ breaks
  unfolding piece
  break_piece = refl

  pub if_piece : (c : IrExpr) (a b : Node) (marked : Bool) → piece D x (node.If c a b marked) ≡ decision D (meaning D x c) (piece D x a) (piece D x b) marked
  unfolding piece hidden-the_row-Node-1 denote.Hole.Carrier.hidden
  if_piece c a b marked = refl

  pub loop_piece : (k : ℕ) (kind : LoopKind) (c : Option IrExpr) (body : Node) (step : Option IrAssign) →
      piece D x (node.Loop k kind c body step) ≡ looped D x.all k (peak D x kind) (turn_of D x kind (option_map (meaning D x) c) (piece D x body) (option_map (change D x) step))
  unfolding piece hidden-the_row-Node-1 denote.Hole.Carrier.hidden
  loop_piece k kind c body step = refl
