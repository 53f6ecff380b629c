-- Statements of one call against the nodes that they lower to. Calls and what changes the store alone are laws that come from
-- outside: this page puts them together.
use Rattle.std.proofs.Common.{◌≡◌, ℕ, ◌+◌, List, [], ◌∷◌, refl, sym, subst, Option, Some, None}
use Rattle.std.specs.Prelude.{option_map}
use Rattle.sa_base.specs.declared.num.Num.{Num}
use Rattle.sa_base.specs.declared.pos.Pos.{Pos}
use Rattle.sa_typed.specs.Arithmetic.{promoted}
use Rattle.sa_typed.specs.Evaluation.{Setting}
use Rattle.sa_typed.specs.Executions.{Loop, Visit, State, Result, Goes, Breaks, Over, Turn, Again, Leaves, Ended, Activation, over, with_value, with_store, then_state, here_in, simple_value, decided, tested, stepped, turn_of, turns, turn_with, after_body, called, run, run_all, run_group}
use Rattle.sa_typed.specs.Executions as concrete
use Rattle.sa_typed.specs.Frames.{cells_in, loops_in, body_cells, body_loops}
use Rattle.sa_typed.specs.WellTyped.{type_of}
use Rattle.sa_typed.specs.declared.expr.Expr.{Expr}
use Rattle.sa_typed.specs.declared.stmt.Arg.{Arg}
use Rattle.sa_typed.specs.declared.stmt.Destination.{Destination}
use Rattle.sa_typed.specs.declared.stmt.LoopKind.{LoopKind}
use Rattle.sa_typed.specs.declared.stmt.LoopKind.TheVariants as kind
use Rattle.sa_typed.specs.declared.stmt.Simple.{Simple}
use Rattle.sa_typed.specs.declared.stmt.Stmt.{Stmt, Row_of-Stmt, end_of-Stmt, more_of-Stmt, Row_of-Group, end_of-Group, more_of-Group}
use Rattle.sa_typed.specs.declared.program.Program.{Program}
use Rattle.sa_ir.specs.declared.node.Node.{Node}
use Rattle.sa_ir.specs.declared.node.Node.TheVariants as node
use Rattle.sa_ir.specs.Frames.{Frame as Call}
use Rattle.sa_ir.specs.Places.{lowered}
use Rattle.sa_ir.specs.Nodes.{simple, nodes, all_nodes, group_nodes, as_block, Bodies}
use Rattle.sa_ir.specs.Nodes as ir_nodes
use Rattle.sa_flat.specs.Domain.{Domain}
use Rattle.sa_flat.specs.Meanings.{Cells}
use Rattle.sa_flat.specs.Expressions.{meaning}
use Rattle.sa_flat.specs.Assignments.{change}
use Rattle.sa_flat.specs.Pieces.{Piece, Walk, done, while_turn, do_turn}
use Rattle.sa_flat.specs.Nodes.{piece}
use Rattle.sa_flat.proofs.Lawful.{Lawful}
use Rattle.sa_flat.proofs.KeepLaws.{ChangeKeeps, Still, StillWalk, MovingWalk, FitIf, KeepsIf, still_moves, changed_still, known_still, asserted_still, breaks_still, done_still, followed_still, followed_moving, block_still, decision_still, inner_still, selection_still, StillGroups, while_keeps, do_keeps, while_fair, do_fair}
use Rattle.sa_flat.proofs.SelectionLaws.{TypedLabels}
use Rattle.sa_flat.proofs.NodeRolls.{before, before_append, block_piece, assign_piece, known_piece, assert_piece, break_piece, if_piece, loop_piece, switch_piece, groups_of}
use Rattle.sa_flat.proofs.WalkPremises.{Walks}
use Rattle.sa_flat.proofs.FitExpressions.{FrameFits, InputsFit, fit}
use Rattle.sa_flat.proofs.StateLaws.{Naming}

pub then_goes : (r : Result) → then_state r (λ st. Goes st) ≡ r
then_goes (Goes st) = refl
then_goes (Breaks st) = refl
then_goes (Over r) = refl

pub then_state_then : (r : Result) (go next : State → Result) → then_state (then_state r go) next ≡ then_state r (λ st. then_state (go st) next)
then_state_then (Goes st) go next = refl
then_state_then (Breaks st) go next = refl
then_state_then (Over r) go next = refl

-- a statement, in the call at hand with the numbers of the next cell and loop
module _ (p : Program) (ok : ℕ → Type 0) (depth : ℕ) (names : ℕ → Pos → Type 0) (simple_ok : Simple → Type 0) (call_ok : ℕ → ℕ → Pos → ℕ → List Arg → Option Destination → Type 0) where
  abbrev pub StepWalks : Option Simple → Type 0
  StepWalks None = Unit {0}
  StepWalks (Some s) = simple_ok s

  abbrev pub TestWalks : Option Expr → Type 0
  TestWalks None = Unit {0}
  TestWalks (Some a) = Walks p ok a

  -- the clock loop stands in main alone
  abbrev pub HeadWalks : LoopKind → Option Expr → Option Simple → Type 0
  HeadWalks kind.Clock c step = ⊥
  HeadWalks kind.While c step = TestWalks c × StepWalks step
  HeadWalks kind.Do c step = TestWalks c

  unfoldable mutual
    pub StmtWalks : ℕ → ℕ → Stmt → Type 0
    StmtWalks k l (Stmt.Simple s) = simple_ok s
    StmtWalks k l (Stmt.Scope v) = Unit {0}
    StmtWalks k l (Stmt.Block' n all) = AllWalk k l all
    StmtWalks k l (Stmt.Call q f args dest) = call_ok k l q f args dest
    StmtWalks k l (Stmt.If' c n (more_of-Stmt a end_of-Stmt) m (more_of-Stmt b end_of-Stmt) marked) =
        Walks p ok c × (StmtWalks k l a × StmtWalks (k + cells_in p (body_cells p depth) a) (l + loops_in (body_loops p depth) a) b)
    StmtWalks k l (Stmt.Switch' c num n groups marked) = (Walks p ok c × (num ≡ promoted (type_of c))) × GroupsWalk k l num groups
    StmtWalks k l (Stmt.Loop' q kind cond n (more_of-Stmt body end_of-Stmt) step) = (HeadWalks kind cond step × names l q) × StmtWalks k (l + 1) body
    StmtWalks k l (Stmt.Known c) = Walks p ok c
    StmtWalks k l (Stmt.Assert q c) = Walks p ok c
    StmtWalks k l Stmt.Break = Unit {0}
    StmtWalks k l _ = ⊥

    pub AllWalk : {n : _} → ℕ → ℕ → Row_of-Stmt n → Type 0
    AllWalk k l end_of-Stmt = Unit {0}
    AllWalk k l (more_of-Stmt s rest) = StmtWalks k l s × AllWalk (k + cells_in p (body_cells p depth) s) (l + loops_in (body_loops p depth) s) rest

    pub GroupsWalk : {n : _} → ℕ → ℕ → Num → Row_of-Group n → Type 0
    GroupsWalk k l num end_of-Group = Unit {0}
    GroupsWalk k l num (more_of-Group labels n (more_of-Stmt body end_of-Stmt) rest) =
        (TypedLabels num labels × StmtWalks k l body) × GroupsWalk (k + cells_in p (body_cells p depth) body) (l + loops_in (body_loops p depth) body) num rest

module _ (p : Program) (fr : Call) (x : Cells) (D : Domain) (L : Lawful x D) (ok : ℕ → Type 0) (N : Naming x) (w : Setting) (act : Activation) (depth : ℕ) (does : concrete.Bodies) (lowers : Bodies)
    (simple_ok : Simple → Type 0) (call_ok : ℕ → ℕ → Pos → ℕ → List Arg → Option Destination → Type 0) (Names : ℕ → Loop → Type 0) (frame : FrameFits p fr x D L ok) (inputs : InputsFit p fr x D L ok) where
  abbrev pub In : ℕ → ℕ → Stmt → Type 0
  In k l s = StmtWalks p ok depth (λ l q. Names l (record { path = act.path; place = q })) simple_ok call_ok k l s

  abbrev pub AllIn : {n : _} → ℕ → ℕ → Row_of-Stmt n → Type 0
  AllIn k l r = AllWalk p ok depth (λ l q. Names l (record { path = act.path; place = q })) simple_ok call_ok k l r

  abbrev pub GroupsIn : {n : _} → ℕ → ℕ → Num → Row_of-Group n → Type 0
  GroupsIn k l num r = GroupsWalk p ok depth (λ l q. Names l (record { path = act.path; place = q })) simple_ok call_ok k l num r

  -- ---- what statements keep
  abbrev pub SimplesKeep : Type 0
  SimplesKeep = (s : Simple) → simple_ok s → ChangeKeeps x D L (change D x (simple p fr s))

  abbrev pub CallsKeep : Type 0
  CallsKeep = (k l : ℕ) (q : Pos) (f : ℕ) (args : List Arg) (dest : Option Destination) (rest : Walk D.Env) → call_ok k l q f args dest →
      (StillWalk x D L rest → StillWalk x D L (before D x (ir_nodes.called p lowers fr k l q f args dest) rest)) ×
      (MovingWalk x D L rest → MovingWalk x D L (before D x (ir_nodes.called p lowers fr k l q f args dest) rest))

  one_still : (n : Node) (rest : Walk D.Env) → Still x D L (piece D x n) → StillWalk x D L rest → StillWalk x D L (before D x (n ∷ []) rest)
  one_still n rest h k = followed_still x D L (piece D x n) rest h k

  module _ (keeps : SimplesKeep) (calls : CallsKeep) where
    pub test_fit : (c : Option Expr) → TestWalks p ok depth (λ l q. Names l (record { path = act.path; place = q })) simple_ok call_ok c → FitIf x D L (option_map (meaning D x) (option_map (lowered p fr) c))
    test_fit None h = tt
    test_fit (Some a) h = (type_of a, fit p fr x D L ok frame inputs a h)

    pub step_keeps : (s : Option Simple) → StepWalks p ok depth (λ l q. Names l (record { path = act.path; place = q })) simple_ok call_ok s → KeepsIf x D L (option_map (change D x) (option_map (simple p fr) s))
    step_keeps None h = tt
    step_keeps (Some s) h = keeps s h

    pub loop_still : (l : ℕ) (kind : LoopKind) (c : Option Expr) (body : Node) (step : Option Simple) → HeadWalks p ok depth (λ l q. Names l (record { path = act.path; place = q })) simple_ok call_ok kind c step → Still x D L (piece D x body) →
        Still x D L (piece D x (node.Loop l kind (option_map (lowered p fr) c) body (option_map (simple p fr) step)))
    loop_still l kind.Clock c body step h b = absurd h
    loop_still l kind.While c body step h b =
        subst (λ (s : Piece D.Env). Still x D L s) (sym (loop_piece D x l kind.While (option_map (lowered p fr) c) body (option_map (simple p fr) step)))
        (inner_still x D L l (while_turn D (option_map (meaning D x) (option_map (lowered p fr) c)) (piece D x body) (option_map (change D x) (option_map (simple p fr) step)))
        (λ f. while_keeps x D L f (option_map (meaning D x) (option_map (lowered p fr) c)) (piece D x body) (option_map (change D x) (option_map (simple p fr) step)) (test_fit c h.0) (b.keeps f) (step_keeps step h.1))
        (while_fair x D L (option_map (meaning D x) (option_map (lowered p fr) c)) (piece D x body) (option_map (change D x) (option_map (simple p fr) step)) (test_fit c h.0) (still_moves x D L (piece D x body) b)))
    loop_still l kind.Do c body step h b =
        subst (λ (s : Piece D.Env). Still x D L s) (sym (loop_piece D x l kind.Do (option_map (lowered p fr) c) body (option_map (simple p fr) step)))
        (inner_still x D L l (do_turn D (option_map (meaning D x) (option_map (lowered p fr) c)) (piece D x body))
        (λ f. do_keeps x D L f (option_map (meaning D x) (option_map (lowered p fr) c)) (piece D x body) (test_fit c h) (b.keeps f))
        (do_fair x D L (option_map (meaning D x) (option_map (lowered p fr) c)) (piece D x body) (still_moves x D L (piece D x body) b)))

    nodes_block : (ns : List Node) → StillWalk x D L (before D x ns (done D)) → Still x D L (piece D x (node.Block ns))
    nodes_block ns h = subst (λ (s : Piece D.Env). Still x D L s) (sym (block_piece D x ns)) (block_still x D L (before D x ns (done D)) h)

    -- what the nodes of a statement owe: before any walk, and as one block
    pub record NodesStill (s : Stmt) (ns : List Node) : Type 0 where
      pub walk : (rest : Walk D.Env) → StillWalk x D L rest → StillWalk x D L (before D x ns rest)
      pub moving : (rest : Walk D.Env) → MovingWalk x D L rest → MovingWalk x D L (before D x ns rest)
      pub block : Still x D L (piece D x (as_block s ns))

    one_node : (s : Stmt) (n : Node) → as_block s (n ∷ []) ≡ node.Block (n ∷ []) → Still x D L (piece D x n) → NodesStill s (n ∷ [])
    one_node s n e h = record {
      walk = λ rest r. one_still n rest h r;
      moving = λ rest r. followed_moving x D L (piece D x n) rest (still_moves x D L (piece D x n) h) r;
      block = subst (λ (b : Node). Still x D L (piece D x b)) (sym e) (nodes_block (n ∷ []) (one_still n (done D) h (done_still x D L)));
    }

    mutual
      unfolding nodes StmtWalks

      pub stmt_still : (s : Stmt) (k l : ℕ) → In k l s → NodesStill s (nodes p depth lowers fr k l s)
      stmt_still (Stmt.Simple s) k l h =
          one_node (Stmt.Simple s) (node.Assign (simple p fr s)) refl (subst (λ (s : Piece D.Env). Still x D L s) (sym (assign_piece D x (simple p fr s))) (changed_still x D L (change D x (simple p fr s)) (keeps s h)))
      stmt_still (Stmt.Scope v) k l h = record { walk = λ rest r. r; moving = λ rest r. r; block = nodes_block [] (done_still x D L) }
      stmt_still (Stmt.Block' n all) k l h =
          let b = nodes_block (all_nodes p depth lowers fr k l all) (all_still all k l h (done D) (done_still x D L)) in
          let n = node.Block (all_nodes p depth lowers fr k l all) in
          record { walk = λ rest r. one_still n rest b r; moving = λ rest r. followed_moving x D L (piece D x n) rest (still_moves x D L (piece D x n) b) r; block = b }
      stmt_still (Stmt.Call q f args dest) k l h = record {
        walk = λ rest r. (calls k l q f args dest rest h).0 r;
        moving = λ rest r. (calls k l q f args dest rest h).1 r;
        block = nodes_block (ir_nodes.called p lowers fr k l q f args dest) ((calls k l q f args dest (done D) h).0 (done_still x D L));
      }
      stmt_still (Stmt.If' c n (more_of-Stmt a end_of-Stmt) m (more_of-Stmt b end_of-Stmt) marked) k l h =
          let k2 = k + cells_in p (body_cells p depth) a in
          let l2 = l + loops_in (body_loops p depth) a in
          let na = as_block a (nodes p depth lowers fr k l a) in
          let nb = as_block b (nodes p depth lowers fr k2 l2 b) in
          one_node (Stmt.If' c n (more_of-Stmt a end_of-Stmt) m (more_of-Stmt b end_of-Stmt) marked) (node.If (lowered p fr c) na nb marked) refl
          (subst (λ (s : Piece D.Env). Still x D L s) (sym (if_piece D x (lowered p fr c) na nb marked))
          (decision_still x D L (type_of c) (meaning D x (lowered p fr c)) (piece D x na) (piece D x nb) marked (fit p fr x D L ok frame inputs c h.0) (stmt_still a k l h.1.0).block (stmt_still b k2 l2 h.1.1).block))
      stmt_still (Stmt.Switch' c num n groups marked) k l h =
          one_node (Stmt.Switch' c num n groups marked) (node.Switch (lowered p fr c) num (group_nodes p depth lowers fr k l groups) marked) refl
          (subst (λ (s : Piece D.Env). Still x D L s) (sym (switch_piece D x (lowered p fr c) num (group_nodes p depth lowers fr k l groups) marked))
          (selection_still x D L num (meaning D x (lowered p fr c)) (groups_of D x (group_nodes p depth lowers fr k l groups)) marked (groups_keep groups k l num h.1)))
      stmt_still (Stmt.Loop' q kind cond n (more_of-Stmt body end_of-Stmt) step) k l h =
          one_node (Stmt.Loop' q kind cond n (more_of-Stmt body end_of-Stmt) step) (node.Loop l kind (option_map (lowered p fr) cond) (as_block body (nodes p depth lowers fr k (l + 1) body)) (option_map (simple p fr) step)) refl
          (loop_still l kind cond (as_block body (nodes p depth lowers fr k (l + 1) body)) step h.0.0 (stmt_still body k (l + 1) h.1).block)
      stmt_still (Stmt.Known c) k l h =
          one_node (Stmt.Known c) (node.Known (lowered p fr c)) refl (subst (λ (s : Piece D.Env). Still x D L s) (sym (known_piece D x (lowered p fr c))) (known_still x D L (type_of c) _ (fit p fr x D L ok frame inputs c h)))
      stmt_still (Stmt.Assert q c) k l h =
          one_node (Stmt.Assert q c) (node.Assert q (lowered p fr c)) refl (subst (λ (s : Piece D.Env). Still x D L s) (sym (assert_piece D x q (lowered p fr c))) (asserted_still x D L q (type_of c) _ (fit p fr x D L ok frame inputs c h)))
      stmt_still Stmt.Break k l h = one_node Stmt.Break node.Break refl (subst (λ (s : Piece D.Env). Still x D L s) (sym (break_piece D x)) (breaks_still x D L))
      stmt_still _ k l h = absurd h

      pub all_still : {n : _} (r : Row_of-Stmt n) (k l : ℕ) → AllIn k l r → (rest : Walk D.Env) → StillWalk x D L rest → StillWalk x D L (before D x (all_nodes p depth lowers fr k l r) rest)
      all_still end_of-Stmt k l h rest r = r
      all_still (more_of-Stmt s more) k l h rest r =
          let k2 = k + cells_in p (body_cells p depth) s in
          let l2 = l + loops_in (body_loops p depth) s in
          subst (λ (v : Walk D.Env). StillWalk x D L v) (sym (before_append D x (nodes p depth lowers fr k l s) (all_nodes p depth lowers fr k2 l2 more) rest))
          ((stmt_still s k l h.0).walk (before D x (all_nodes p depth lowers fr k2 l2 more) rest) (all_still more k2 l2 h.1 rest r))

      pub groups_keep : {n : _} (r : Row_of-Group n) (k l : ℕ) (num : Num) → GroupsIn k l num r → StillGroups x D L (groups_of D x (group_nodes p depth lowers fr k l r))
      groups_keep end_of-Group k l num h = tt
      groups_keep (more_of-Group labels n (more_of-Stmt body end_of-Stmt) rest) k l num h =
          ((stmt_still body k l h.0.1).block, groups_keep rest (k + cells_in p (body_cells p depth) body) (l + loops_in (body_loops p depth) body) num h.1)
