-- Statements of one call, from a state in its environment to what their nodes leave.
use Rattle.std.proofs.Common.{◌≡◌, ℕ, ◌+◌, ℤ, Bool, not, List, [], ◌∷◌, ◌++◌, refl, sym, ap, subst, ◌∙◌, Option, Some, None}
use Rattle.std.specs.Prelude.{if◌then◌else◌, ◌||◌, IsTrue, option_map}
use Rattle.sa_base.specs.declared.num.Num.{Num}
use Rattle.sa_base.specs.declared.num.Num.TheVariants.{I8, U8, I16, U16, I32, U32, I64, U64}
use Rattle.sa_base.specs.declared.pos.Pos.{Pos}
use Rattle.sa_typed.specs.Arithmetic.{promoted}
use Rattle.sa_typed.specs.Evaluation.{Setting, Store, Value, Gives, Stops, is_zero, eval}
use Rattle.sa_typed.specs.Executions.{is_listed, chosen, Loop, Visit, State, Result, Goes, Breaks, Over, Turn, Again, Leaves, Ended, Activation, over, with_value, with_store, then_state, here_in, simple_value, decided, tested, stepped, turn_of, turns, turn_with, after_body, called, run, run_all, run_group}
use Rattle.sa_typed.specs.Executions as concrete
use Rattle.sa_typed.specs.Frames.{cells_in, loops_in, body_cells, body_loops}
use Rattle.sa_typed.specs.WellTyped.{type_of, converts}
use Rattle.sa_typed.specs.declared.expr.Expr.{Expr}
use Rattle.sa_typed.specs.declared.stmt.Arg.{Arg}
use Rattle.sa_typed.specs.declared.stmt.Destination.{Destination}
use Rattle.sa_typed.specs.declared.stmt.Label.{Label}
use Rattle.sa_typed.specs.declared.stmt.Label.TheVariants.{Case, Default}
use Rattle.sa_typed.specs.declared.stmt.LoopKind.{LoopKind}
use Rattle.sa_typed.specs.declared.stmt.LoopKind.TheVariants as kind
use Rattle.sa_typed.specs.declared.stmt.Simple.{Simple}
use Rattle.sa_typed.specs.declared.stmt.Stmt.{Stmt, Row_of-Stmt, end_of-Stmt, more_of-Stmt, Row_of-Group, end_of-Group, more_of-Group}
use Rattle.sa_typed.specs.declared.program.Program.{Program}
use Rattle.sa_ir.specs.declared.node.Node.{Node}
use Rattle.sa_ir.specs.declared.node.Node.TheVariants as node
use Rattle.sa_ir.specs.Frames.{Frame as Call}
use Rattle.sa_ir.specs.Places.{lowered}
use Rattle.sa_ir.specs.Nodes.{simple, nodes, all_nodes, group_nodes, as_block, Bodies}
use Rattle.sa_ir.specs.Nodes as ir_nodes
use Rattle.sa_flat.specs.Domain.{Domain}
use Rattle.sa_flat.specs.Meanings.{Cells, as_operand}
use Rattle.sa_flat.specs.Expressions.{meaning}
use Rattle.sa_flat.specs.Assignments.{change}
use Rattle.sa_flat.specs.Pieces as pieces
use Rattle.sa_flat.specs.Pieces.{Found, Piece, Walk, changed, done, followed, block, decision, selection, looped, while_turn, do_turn, known, asserted, breaks}
use Rattle.sa_flat.specs.Nodes.{piece}
use Rattle.sa_flat.proofs.Lawful.{Lawful, anywhere, AliveAnd}
use Rattle.sa_flat.proofs.Goods.{alive_is, Good, Holds}
use Rattle.sa_flat.proofs.MeaningLaws.{operand_fits}
use Rattle.sa_flat.proofs.CoverLaws.{Covers, Always, always, operand_always}
use Rattle.sa_flat.proofs.UnaryLaws.{promoted_same, of_shown}
use Rattle.sa_flat.proofs.KeepLaws.{AreFair, Still, StillWalk, WalkKeeps, changed_still, known_still, asserted_still, breaks_still, done_still, followed_still, block_still, decision_still, selection_still, while_keeps, do_keeps}
use Rattle.sa_flat.proofs.FollowLaws.{Said, AlwaysStable, HoldsAt, ResultOk, Follows, FollowsAll, CoversAll, valued, on_ok, done_follow, followed_follow, block_follows}
use Rattle.sa_flat.proofs.LoopLaws.{Shown, VisitsStable, Decides, DecidesIf, StepsIf, tested_by, stepped_by, while_follows, do_follows, inner_follows, known_follows, asserted_follows, breaks_follow}
use Rattle.sa_flat.proofs.DecisionLaws.{decision_follows}
use Rattle.sa_flat.proofs.SelectionLaws.{TypedLabels, none_now, case_now, default_now, GroupRun, as_groups, run_first, any_case, Starts, RunsFollow, selection_follows}
use Rattle.sa_flat.proofs.NodeRolls.{before, before_append, block_piece, assign_piece, known_piece, assert_piece, break_piece, if_piece, loop_piece, switch_piece, groups_of}
use Rattle.sa_flat.proofs.WalkPremises.{Walks}
use Rattle.sa_flat.proofs.FitExpressions.{FrameFits, InputsFit, fit}
use Rattle.sa_flat.proofs.StateLaws.{Naming, has, point, point_has, InCall, in_call_stable, AtVisit, at_visit_stable, InFrame}
use Rattle.sa_flat.proofs.StatementLaws.{then_goes, then_state_then, StepWalks, TestWalks, HeadWalks, StmtWalks, In, AllIn, GroupsIn, groups_keep, SimplesKeep, CallsKeep, test_fit, step_keeps, loop_still, NodesStill, stmt_still, all_still}
use Rattle.sa_flat.proofs.SimpleLaws.{InputsAlways, Leaves as LeavesIn, expression_means}

-- a fact among facts of a higher universe
pub record Fact (A : Type 0) : Type 1 where
  pub is : A

module _ (p : Program) (fr : Call) (x : Cells) (D : Domain) (L : Lawful x D) (ok : ℕ → Type 0) (N : Naming x) (w : Setting) (act : Activation) (depth : ℕ) (does : concrete.Bodies) (lowers : Bodies)
    (simple_ok : Simple → Type 0) (call_ok : ℕ → ℕ → Pos → ℕ → List Arg → Option Destination → Type 0) (Names : ℕ → Loop → Type 0) (frame : FrameFits p fr x D L ok) (inputs : InputsFit p fr x D L ok)
    (keeps : SimplesKeep p fr x D L ok N w act depth does lowers simple_ok call_ok Names frame inputs) (calls : CallsKeep p fr x D L ok N w act depth does lowers simple_ok call_ok Names frame inputs)
    (outer : (ℕ → ℤ) → Type 0) (always_in : InputsAlways p fr x D L ok N w act.base outer) (G : Found D.Env) (fair : AreFair x D L G) where
  -- what is said of this call's states, and of visits
  abbrev pub Here : Said D
  Here = InCall x N D L p ok outer fr act.base

  abbrev pub Seen : Visit → D.Env → Type 0
  Seen = AtVisit x N D L

  abbrev pub Stab : Said D → Type 0
  Stab Q = AlwaysStable x D L G fair Names Seen Q

  abbrev pub Fol : Said D → Said D → (State → Result) → Piece D.Env → Type 0
  Fol P Q go s = Follows x D L G fair Names Seen P Q Here go s

  abbrev pub FolAll : Said D → Said D → (State → Result) → Walk D.Env → Type 0
  FolAll P Q go s = FollowsAll x D L G fair Names Seen P Q Here go s

  pub here_stable : Stab Here
  here_stable store result clock = in_call_stable x N D L p ok outer fr act.base store result clock

  pub seen_stable : VisitsStable x D L G fair Names Seen
  seen_stable v = at_visit_stable x N D L v

  pub shown : Shown x D L G fair Names Seen Here
  shown loop store result clock e h = record { kept = h.kept; holds = h.holds }

  -- ---- laws from outside
  abbrev pub SimplesHold : Type 0
  SimplesHold = (s : Simple) → simple_ok s → (store : Store) (result clock : ℤ) (kept : ℕ → ℤ) (stands : InFrame x N D L p ok fr act.base kept) (outside : outer kept) (env : D.Env) (tape : List ℤ) → Good x D L anywhere env → Holds x D L (has x N store kept) clock env →
      LeavesIn p fr x D L ok N w act.base outer frame inputs always_in store clock kept stands outside result ((change D x (simple p fr s)).after env) ((change D x (simple p fr s)).alarms env)
      (simple_value p w (record { base = act.base; clock = clock }) s store tape)

  abbrev pub CallsHold : Type 1
  CallsHold = (k l : ℕ) (q : Pos) (f : ℕ) (args : List Arg) (dest : Option Destination) (Q : Said D) (rest_go : State → Result) (rest : Walk D.Env) → call_ok k l q f args dest → Stab Q → FolAll Here Q rest_go rest → WalkKeeps x D L anywhere rest →
      FolAll Here Q (λ st. then_state (called p w does act q f args dest st) rest_go) (before D x (ir_nodes.called p lowers fr k l q f args dest) rest)

  -- ---- conditions
  decides : (a : Expr) → Walks p ok a → Decides x D L G fair Names Seen Here (λ st. eval w (here_in act st) st.store a st.tape) (meaning D x (lowered p fr a))
  decides a h e st g s = from (eval w (here_in act st) st.store a st.tape) (expression_means p fr x D L ok N w act.base outer frame inputs always_in st.store st.clock s.kept s.frame s.outside a h anywhere e st.tape g s.holds)
    where
      from : (v : Value ℤ) → Covers x D L (has x N st.store s.kept) (point x N st.store s.kept) (point_has x N st.store s.kept) st.clock (meaning D x (lowered p fr a)) e v →
          CoversAll x D L G fair Names Seen (λ z. AliveAnd (HoldsAt x D L G fair Names Seen Here st) ((meaning D x (lowered p fr a)).guard (not (is_zero z)) e)) ((meaning D x (lowered p fr a)).alarms e) v
      from (Gives z tape) c =
          alive_is (Holds x D L (has x N st.store s.kept) st.clock) (HoldsAt x D L G fair Names Seen Here st) ((meaning D x (lowered p fr a)).guard (not (is_zero z)) e) (λ i k. record { kept = s.kept; frame = s.frame; outside = s.outside; holds = k }) c.1
      from (Stops end) c = c

  head_of : Option Expr → Option (State → Value ℤ)
  head_of None = None
  head_of (Some a) = Some (λ st. eval w (here_in act st) st.store a st.tape)

  steps_of : Option Simple → Option (State → Value Store)
  steps_of None = None
  steps_of (Some s) = Some (λ st. simple_value p w (here_in act st) s st.store st.tape)

  module _ (simples : SimplesHold) (calls_hold : CallsHold) where
    simple_leaves : (s : Simple) → simple_ok s → (e : D.Env) (st : State) → Good x D L anywhere e → HoldsAt x D L G fair Names Seen Here st e →
        CoversAll x D L G fair Names Seen (λ store. AliveAnd (Here store st.result st.clock) ((change D x (simple p fr s)).after e)) ((change D x (simple p fr s)).alarms e) (simple_value p w (here_in act st) s st.store st.tape)
    simple_leaves s h e st g at = from (simple_value p w (here_in act st) s st.store st.tape) (simples s h st.store st.result st.clock at.kept at.frame at.outside e st.tape g at.holds)
      where
        from : (v : Value Store) → LeavesIn p fr x D L ok N w act.base outer frame inputs always_in st.store st.clock at.kept at.frame at.outside st.result ((change D x (simple p fr s)).after e) ((change D x (simple p fr s)).alarms e) v →
            CoversAll x D L G fair Names Seen (λ store. AliveAnd (Here store st.result st.clock) ((change D x (simple p fr s)).after e)) ((change D x (simple p fr s)).alarms e) v
        from (Gives store tape) k = k
        from (Stops end) k = k

    simple_follows : (s : Simple) → simple_ok s → Fol Here Here (λ st. run p w does act (Stmt.Simple s) st) (piece D x (node.Assign (simple p fr s)))
    unfolding run
    simple_follows s h =
        subst (λ (q : Piece D.Env). Fol Here Here (λ st. run p w does act (Stmt.Simple s) st) q) (sym (assign_piece D x (simple p fr s)))
        (λ e st b. valued x D L G fair Names Seen Here Here (λ store. AliveAnd (Here store st.result st.clock) ((change D x (simple p fr s)).after e)) ((change D x (simple p fr s)).alarms e) (simple_value p w (here_in act st) s st.store st.tape)
        ((changed (change D x (simple p fr s))).after e) st (λ store st. Goes (with_store st store)) (simple_leaves s h e st b.good b.holds) b.has.alarms b.inside
        (λ store tape j. on_ok x D L G fair Names Seen Here ((change D x (simple p fr s)).after e) (record st { tape = tape; store = store }) j b.inside))

    -- ---- loops
    tests : (c : Option Expr) → TestWalks p ok depth (λ l q. Names l (record { path = act.path; place = q })) simple_ok call_ok c → DecidesIf x D L G fair Names Seen Here (head_of c) (option_map (meaning D x) (option_map (lowered p fr) c))
    unfolding head_of
    tests None h = tt
    tests (Some a) h = decides a h

    steps : (s : Option Simple) → StepWalks p ok depth (λ l q. Names l (record { path = act.path; place = q })) simple_ok call_ok s → StepsIf x D L G fair Names Seen Here (steps_of s) (option_map (change D x) (option_map (simple p fr) s))
    unfolding steps_of
    steps None h = tt
    steps (Some s) h = simple_leaves s h

    while_same : (c : Option Expr) (go : State → Result) (s : Option Simple) → (λ (st : State). tested_by x D L G fair Names Seen (head_of c) st (λ st. after_body (go st) (stepped_by x D L G fair Names Seen (steps_of s)))) ≡ turn_of p w act kind.While c go s
    unfolding head_of steps_of
    while_same None go None = refl
    while_same None go (Some s) = refl
    while_same (Some a) go None = refl
    while_same (Some a) go (Some s) = refl

    do_same : (c : Option Expr) (go : State → Result) (s : Option Simple) → (λ (st : State). after_body (go st) (λ st. tested_by x D L G fair Names Seen (head_of c) st (λ st. Again st))) ≡ turn_of p w act kind.Do c go s
    unfolding head_of
    do_same None go s = refl
    do_same (Some a) go s = refl

    follows_same : (P Q : Said D) (go next : State → Result) (s : Piece D.Env) → ((st : State) → go st ≡ next st) → Fol P Q go s → Fol P Q next s
    follows_same P Q go next s e h i st b = subst (λ (r : Result). ResultOk x D L G fair Names Seen Q Here (s.after i) r) (e st) (h i st b)

    follow_all_same : (P Q : Said D) (go next : State → Result) (s : Walk D.Env) → ((st : State) → go st ≡ next st) → FolAll P Q go s → FolAll P Q next s
    follow_all_same P Q go next s e h es st u g at i = subst (λ (r : Result). ResultOk x D L G fair Names Seen Q Here (s.after es) r) (e st) (h es st u g at i)

    loop_follows : (l : ℕ) (q : Pos) (k : LoopKind) (c : Option Expr) (go : State → Result) (body : Node) (step : Option Simple) → HeadWalks p ok depth (λ l q. Names l (record { path = act.path; place = q })) simple_ok call_ok k c step →
        Names l (record { path = act.path; place = q }) → Still x D L (piece D x body) → Fol Here Here go (piece D x body) →
        Fol Here Here (λ st. turns (record { path = act.path; place = q }) (turn_of p w act k c go step) st.left st) (piece D x (node.Loop l k (option_map (lowered p fr) c) body (option_map (simple p fr) step)))
    loop_follows l q kind.Clock c go body step h named still f = absurd h
    loop_follows l q kind.While c go body step h named still f =
        let cm = option_map (meaning D x) (option_map (lowered p fr) c) in
        let sm = option_map (change D x) (option_map (simple p fr) step) in
        let cf = test_fit p fr x D L ok N w act depth does lowers simple_ok call_ok Names frame inputs keeps calls c h.0 in
        let sk = step_keeps p fr x D L ok N w act depth does lowers simple_ok call_ok Names frame inputs keeps calls step h.1 in
        subst (λ (s : Piece D.Env). Fol Here Here (λ st. turns (record { path = act.path; place = q }) (turn_of p w act kind.While c go step) st.left st) s) (sym (loop_piece D x l kind.While (option_map (lowered p fr) c) body (option_map (simple p fr) step)))
        (subst (λ (one : State → Turn). Fol Here Here (λ st. turns (record { path = act.path; place = q }) one st.left st) (looped D x.all l (λ e. D.top (D.clock e)) (while_turn D cm (piece D x body) sm))) (while_same c go step)
        (inner_follows x D L G fair Names Seen seen_stable Here Here here_stable shown (record { path = act.path; place = q }) l
        (λ st. tested_by x D L G fair Names Seen (head_of c) st (λ st. after_body (go st) (stepped_by x D L G fair Names Seen (steps_of step)))) (while_turn D cm (piece D x body) sm) named
        (λ f. while_keeps x D L f cm (piece D x body) sm cf (still.keeps f) sk)
        (while_follows x D L G fair Names Seen Here here_stable (head_of c) cm go (piece D x body) (steps_of step) sm (tests c h.0) cf f (still.keeps anywhere) (steps step h.1) sk)))
    loop_follows l q kind.Do c go body step h named still f =
        let cm = option_map (meaning D x) (option_map (lowered p fr) c) in
        let cf = test_fit p fr x D L ok N w act depth does lowers simple_ok call_ok Names frame inputs keeps calls c h in
        subst (λ (s : Piece D.Env). Fol Here Here (λ st. turns (record { path = act.path; place = q }) (turn_of p w act kind.Do c go step) st.left st) s) (sym (loop_piece D x l kind.Do (option_map (lowered p fr) c) body (option_map (simple p fr) step)))
        (subst (λ (one : State → Turn). Fol Here Here (λ st. turns (record { path = act.path; place = q }) one st.left st) (looped D x.all l (λ e. D.top (D.clock e)) (do_turn D cm (piece D x body)))) (do_same c go step)
        (inner_follows x D L G fair Names Seen seen_stable Here Here here_stable shown (record { path = act.path; place = q }) l
        (λ st. after_body (go st) (λ st. tested_by x D L G fair Names Seen (head_of c) st (λ st. Again st))) (do_turn D cm (piece D x body)) named
        (λ f. do_keeps x D L f cm (piece D x body) cf (still.keeps f))
        (do_follows x D L G fair Names Seen Here here_stable (head_of c) cm go (piece D x body) (tests c h) cf f (still.keeps anywhere))))

    -- ---- statements
    -- what the nodes of a statement owe: before any walk, and as one block
    pub record NodesFollow (s : Stmt) (ns : List Node) : Type 1 where
      pub walk : (Q : Said D) → Stab Q → (rest_go : State → Result) (rest : Walk D.Env) → FolAll Here Q rest_go rest → WalkKeeps x D L anywhere rest →
          FolAll Here Q (λ st. then_state (run p w does act s st) rest_go) (before D x ns rest)
      pub block : Fol Here Here (λ st. run p w does act s st) (piece D x (as_block s ns))

    -- one node by itself in a block
    node_block : (s : Stmt) (ns : List Node) → StillWalk x D L (before D x ns (done D)) → FolAll Here Here (λ st. then_state (run p w does act s st) (λ st. Goes st)) (before D x ns (done D)) → Fol Here Here (λ st. run p w does act s st) (piece D x (node.Block ns))
    node_block s ns still h =
        subst (λ (q : Piece D.Env). Fol Here Here (λ st. run p w does act s st) q) (sym (block_piece D x ns))
        (block_follows x D L G fair Names Seen Here Here Here here_stable (λ st. run p w does act s st) (before D x ns (done D))
        (follow_all_same Here Here (λ st. then_state (run p w does act s st) (λ st. Goes st)) (λ st. run p w does act s st) (before D x ns (done D)) (λ st. then_goes (run p w does act s st)) h) (still.keeps anywhere))

    one_walk : (s : Stmt) (n : Node) → Still x D L (piece D x n) → Fol Here Here (λ st. run p w does act s st) (piece D x n) → (Q : Said D) → Stab Q → (rest_go : State → Result) (rest : Walk D.Env) → FolAll Here Q rest_go rest →
        WalkKeeps x D L anywhere rest → FolAll Here Q (λ st. then_state (run p w does act s st) rest_go) (before D x (n ∷ []) rest)
    one_walk s n still f Q sq rest_go rest k kept =
        followed_follow x D L G fair Names Seen Here Here Q Here here_stable here_stable (λ st. run p w does act s st) rest_go (piece D x n) rest f (still.keeps anywhere) k kept

    one_follows : (s : Stmt) (n : Node) → as_block s (n ∷ []) ≡ node.Block (n ∷ []) → Still x D L (piece D x n) → Fol Here Here (λ st. run p w does act s st) (piece D x n) → NodesFollow s (n ∷ [])
    one_follows s n e still f = record {
      walk = one_walk s n still f;
      block = subst (λ (b : Node). Fol Here Here (λ st. run p w does act s st) (piece D x b)) (sym e)
          (node_block s (n ∷ []) (followed_still x D L (piece D x n) (done D) still (done_still x D L))
          (one_walk s n still f Here here_stable (λ st. Goes st) (done D) (done_follow x D L G fair Names Seen Here Here) ((done_still x D L).keeps anywhere)));
    }

    still_of : (s : Stmt) (k l : ℕ) → In p fr x D L ok N w act depth does lowers simple_ok call_ok Names frame inputs k l s →
        NodesStill p fr x D L ok N w act depth does lowers simple_ok call_ok Names frame inputs keeps calls s (nodes p depth lowers fr k l s)
    still_of s k l h = stmt_still p fr x D L ok N w act depth does lowers simple_ok call_ok Names frame inputs keeps calls s k l h

    -- ---- a switch
    promoted_converts : (num : Num) → IsTrue (converts num (promoted num))
    unfolding converts
    promoted_converts I8 = refl
    promoted_converts U8 = refl
    promoted_converts I16 = refl
    promoted_converts U16 = refl
    promoted_converts I32 = refl
    promoted_converts U32 = refl
    promoted_converts I64 = refl
    promoted_converts U64 = refl

    abbrev Run : Type 0
    Run = GroupRun x D L G fair Names Seen

    -- what the groups do, and the blocks that they lower to
    group_runs : {n : _} → ℕ → ℕ → Row_of-Group n → List (GroupRun x D L G fair Names Seen)
    group_runs k l end_of-Group = []
    group_runs k l (more_of-Group labels n (more_of-Stmt body end_of-Stmt) rest) =
        record { labels = labels; go = λ st. run p w does act body st; body = piece D x (as_block body (nodes p depth lowers fr k l body)) }
        ∷ group_runs (k + cells_in p (body_cells p depth) body) (l + loops_in (body_loops p depth) body) rest

    runs_groups : {n : _} (k l : ℕ) (r : Row_of-Group n) → as_groups x D L G fair Names Seen (group_runs k l r) ≡ groups_of D x (group_nodes p depth lowers fr k l r)
    unfolding group_runs nodes
    runs_groups k l end_of-Group = refl
    runs_groups k l (more_of-Group labels n (more_of-Stmt body end_of-Stmt) rest) =
        ap (λ (gs : List (pieces.Group D.Env)). record { labels = labels; body = piece D x (as_block body (nodes p depth lowers fr k l body)) } ∷ gs)
        (runs_groups (k + cells_in p (body_cells p depth) body) (l + loops_in (body_loops p depth) body) rest)

    listed_runs : {n : _} (k l : ℕ) (z : ℤ) (r : Row_of-Group n) → is_listed z r ≡ any_case x D L G fair Names Seen z (group_runs k l r)
    unfolding group_runs is_listed
    listed_runs k l z end_of-Group = refl
    listed_runs k l z (more_of-Group labels n (more_of-Stmt body end_of-Stmt) rest) =
        ap (λ (b : Bool). concrete.has_case z labels || b) (listed_runs (k + cells_in p (body_cells p depth) body) (l + loops_in (body_loops p depth) body) z rest)

    first_runs : {n : _} (k l : ℕ) (fits : List Label → Bool) (r : Row_of-Group n) (st : State) → run_group p w does act fits r st ≡ run_first x D L G fair Names Seen fits (group_runs k l r) st
    unfolding group_runs run
    first_runs k l fits end_of-Group st = refl
    first_runs k l fits (more_of-Group labels n (more_of-Stmt body end_of-Stmt) rest) st =
        ap (λ (r : Result). if fits labels then run p w does act body st else r) (first_runs (k + cells_in p (body_cells p depth) body) (l + loops_in (body_loops p depth) body) fits rest st)

    -- what a value leaves for the groups
    value_starts : (num : Num) (c : Expr) (all : List Label) → Walks p ok c → num ≡ promoted (type_of c) → TypedLabels num all → (e : D.Env) (st : State) → Good x D L anywhere e → HoldsAt x D L G fair Names Seen Here st e →
        CoversAll x D L G fair Names Seen (λ z. (tape : List ℤ) → Starts x D L G fair Names Seen Here num (record st { tape = tape }) e (as_operand num (meaning D x (lowered p fr c)).value) all z) ((meaning D x (lowered p fr c)).alarms e)
        (eval w (here_in act st) st.store c st.tape)
    value_starts num c all h same typed e st g s =
        from (eval w (here_in act st) st.store c st.tape) refl (expression_means p fr x D L ok N w act.base outer frame inputs always_in st.store st.clock s.kept s.frame s.outside c h anywhere e st.tape g s.holds)
      where
        there : D.Env → Type 0
        there i = Holds x D L (has x N st.store s.kept) st.clock i

        back : (o : Option D.Env) → AliveAnd (Holds x D L (has x N st.store s.kept) st.clock) o → (tape : List ℤ) → AliveAnd (HoldsAt x D L G fair Names Seen Here (record st { tape = tape })) o
        back o a tape = alive_is (Holds x D L (has x N st.store s.kept) st.clock) (HoldsAt x D L G fair Names Seen Here (record st { tape = tape })) o (λ i k. record { kept = s.kept; frame = s.frame; outside = s.outside; holds = k }) a

        from : (v : Value ℤ) → eval w (here_in act st) st.store c st.tape ≡ v → Covers x D L (has x N st.store s.kept) (point x N st.store s.kept) (point_has x N st.store s.kept) st.clock (meaning D x (lowered p fr c)) e v →
            CoversAll x D L G fair Names Seen (λ z. (tape : List ℤ) → Starts x D L G fair Names Seen Here num (record st { tape = tape }) e (as_operand num (meaning D x (lowered p fr c)).value) all z) ((meaning D x (lowered p fr c)).alarms e) v
        from (Stops end) eq k = k
        from (Gives z u) eq k =
            let m = meaning D x (lowered p fr c) in
            let cf = fit p fr x D L ok frame inputs c h in
            let conv : IsTrue (converts (type_of c) num) = subst (λ (n : Num). IsTrue (converts (type_of c) n)) (sym same) (promoted_converts (type_of c)) in
            let vz : Always x D L (has x N st.store s.kept) (point x N st.store s.kept) (point_has x N st.store s.kept) st.clock m.value z =
            always x D L (has x N st.store s.kept) (point x N st.store s.kept) (point_has x N st.store s.kept) st.clock m (λ tape. eval w (here_in act st) st.store c tape) st.tape u z
            (expression_means p fr x D L ok N w act.base outer frame inputs always_in st.store st.clock s.kept s.frame s.outside c h) eq in
            let of = of_shown x D L (has x N st.store s.kept) (point x N st.store s.kept) (point_has x N st.store s.kept) st.clock (type_of c) (m.value.span e) z (cf.value.span anywhere e g) k.0.span in
            let oz : Always x D L (has x N st.store s.kept) (point x N st.store s.kept) (point_has x N st.store s.kept) st.clock (as_operand num m.value) z =
            subst (λ (y : ℤ). Always x D L (has x N st.store s.kept) (point x N st.store s.kept) (point_has x N st.store s.kept) st.clock (as_operand num m.value) y) (promoted_same (type_of c) num z same of)
            (operand_always x D L (has x N st.store s.kept) (point x N st.store s.kept) (point_has x N st.store s.kept) st.clock (type_of c) num m.value z conv cf.value vz) in
            let of_num = operand_fits x D L (type_of c) num m.value conv cf.value in
            λ tape. record {
              case = λ labels t q. back _ (case_now x D L (has x N st.store s.kept) (point x N st.store s.kept) (point_has x N st.store s.kept) st.clock num (as_operand num m.value) z of_num oz all labels t q anywhere e g s.holds) tape;
              default = λ labels q n. back _ (default_now x D L (has x N st.store s.kept) (point x N st.store s.kept) (point_has x N st.store s.kept) st.clock num (as_operand num m.value) z of_num oz all labels typed q n anywhere e g s.holds) tape;
              none = λ n. back _ (none_now x D L (has x N st.store s.kept) (point x N st.store s.kept) (point_has x N st.store s.kept) st.clock num (as_operand num m.value) z of_num oz all typed n anywhere e g s.holds) tape;
            }

    value_same : {A : Type 0} (st : State) (v : Value A) (go next : A → State → Result) → ((a : A) (st : State) → go a st ≡ next a st) → with_value st v go ≡ with_value st v next
    value_same st (Gives a tape) go next h = h a (record st { tape = tape })
    value_same st (Stops e) go next h = refl

    switch_same : {n : _} (k l : ℕ) (c : Expr) (groups : Row_of-Group n) (st : State) → with_value st (eval w (here_in act st) st.store c st.tape) (λ z st. run_group p w does act (chosen (is_listed z groups) z) groups st) ≡
        with_value st (eval w (here_in act st) st.store c st.tape) (λ z st. run_first x D L G fair Names Seen (chosen (any_case x D L G fair Names Seen z (group_runs k l groups)) z) (group_runs k l groups) st)
    switch_same k l c groups st =
        value_same st (eval w (here_in act st) st.store c st.tape) _ _ (λ z st. first_runs k l (chosen (is_listed z groups) z) groups st ∙
        ap (λ (b : Bool). run_first x D L G fair Names Seen (chosen b z) (group_runs k l groups) st) (listed_runs k l z groups))

    labels_append : (num : Num) (xs ys : List Label) → TypedLabels num xs → TypedLabels num ys → TypedLabels num (xs ++ ys)
    labels_append num [] ys h k = k
    labels_append num (Case k ∷ xs) ys h t = (h.0, labels_append num xs ys h.1 t)
    labels_append num (Default ∷ xs) ys h t = labels_append num xs ys h t

    all_typed : {n : _} (k l : ℕ) (num : Num) (r : Row_of-Group n) → GroupsIn p fr x D L ok N w act depth does lowers simple_ok call_ok Names frame inputs k l num r → TypedLabels num (pieces.all_labels D (as_groups x D L G fair Names Seen (group_runs k l r)))
    unfolding group_runs StmtWalks
    all_typed k l num end_of-Group h = tt
    all_typed k l num (more_of-Group labels n (more_of-Stmt body end_of-Stmt) rest) h =
        labels_append num labels _ h.0.0 (all_typed (k + cells_in p (body_cells p depth) body) (l + loops_in (body_loops p depth) body) num rest h.1)

    mutual
      unfolding nodes StmtWalks run group_runs

      pub stmt_follows : (s : Stmt) (k l : ℕ) → In p fr x D L ok N w act depth does lowers simple_ok call_ok Names frame inputs k l s → NodesFollow s (nodes p depth lowers fr k l s)
      stmt_follows (Stmt.Simple s) k l h =
          one_follows (Stmt.Simple s) (node.Assign (simple p fr s)) refl
          (subst (λ (q : Piece D.Env). Still x D L q) (sym (assign_piece D x (simple p fr s))) (changed_still x D L (change D x (simple p fr s)) (keeps s h))) (simple_follows s h)
      stmt_follows (Stmt.Scope v) k l h = record {
        walk = λ Q sq rest_go rest f kept. f;
        block = node_block (Stmt.Scope v) [] (done_still x D L) (done_follow x D L G fair Names Seen Here Here);
      }
      stmt_follows (Stmt.Block' n all) k l h =
          let ns = all_nodes p depth lowers fr k l all in
          let still = all_still p fr x D L ok N w act depth does lowers simple_ok call_ok Names frame inputs keeps calls all k l h (done D) (done_still x D L) in
          let inner = all_follow all k l h Here here_stable (λ st. Goes st) (done D) (done_follow x D L G fair Names Seen Here Here) (done_still x D L) in
          let block = node_block (Stmt.Block' n all) ns still inner in
          record {
            walk = one_walk (Stmt.Block' n all) (node.Block ns) (subst (λ (q : Piece D.Env). Still x D L q) (sym (block_piece D x ns)) (block_still x D L (before D x ns (done D)) still)) block;
            block = block;
          }
      stmt_follows (Stmt.Call q f args dest) k l h = record {
        walk = λ Q sq rest_go rest f kept. calls_hold k l q _ args dest Q rest_go rest h sq f kept;
        block = node_block (Stmt.Call q f args dest) (ir_nodes.called p lowers fr k l q f args dest) ((calls k l q f args dest (done D) h).0 (done_still x D L))
            (calls_hold k l q f args dest Here (λ st. Goes st) (done D) h here_stable (done_follow x D L G fair Names Seen Here Here) ((done_still x D L).keeps anywhere));
      }
      stmt_follows (Stmt.If' c n (more_of-Stmt a end_of-Stmt) m (more_of-Stmt b end_of-Stmt) marked) k l h =
          let k2 = k + cells_in p (body_cells p depth) a in
          let l2 = l + loops_in (body_loops p depth) a in
          let na = as_block a (nodes p depth lowers fr k l a) in
          let nb = as_block b (nodes p depth lowers fr k2 l2 b) in
          let sa = (still_of a k l h.1.0).block in
          let sb = (still_of b k2 l2 h.1.1).block in
          let cf = fit p fr x D L ok frame inputs c h.0 in
          let s = Stmt.If' c n (more_of-Stmt a end_of-Stmt) m (more_of-Stmt b end_of-Stmt) marked in
          one_follows s (node.If (lowered p fr c) na nb marked) refl
          (subst (λ (q : Piece D.Env). Still x D L q) (sym (if_piece D x (lowered p fr c) na nb marked)) (decision_still x D L (type_of c) (meaning D x (lowered p fr c)) (piece D x na) (piece D x nb) marked cf sa sb))
          (subst (λ (q : Piece D.Env). Fol Here Here (λ st. run p w does act (Stmt.If' c n (more_of-Stmt a end_of-Stmt) m (more_of-Stmt b end_of-Stmt) marked) st) q) (sym (if_piece D x (lowered p fr c) na nb marked))
          (decision_follows x D L G fair Names Seen (type_of c) Here Here Here here_stable here_stable (λ st. eval w (here_in act st) st.store c st.tape) (meaning D x (lowered p fr c)) (λ st. run p w does act a st) (λ st. run p w does act b st)
          (piece D x na) (piece D x nb) marked (decides c h.0) cf sa sb (stmt_follows a k l h.1.0).block (stmt_follows b k2 l2 h.1.1).block))
      stmt_follows (Stmt.Switch' c num n groups marked) k l h =
          let gs = group_runs k l groups in
          let s = Stmt.Switch' c num n groups marked in
          let go = λ (st : State). with_value st (eval w (here_in act st) st.store c st.tape) (λ z st. run_first x D L G fair Names Seen (chosen (any_case x D L G fair Names Seen z gs) z) gs st) in
          let f : Fol Here Here go (selection D num (meaning D x (lowered p fr c)) (as_groups x D L G fair Names Seen gs) marked) =
          selection_follows x D L G fair Names Seen Here Here Here here_stable here_stable (λ store result clock e k. k) num (λ st. eval w (here_in act st) st.store c st.tape) (meaning D x (lowered p fr c)) gs marked (groups_follow groups k l num h.1).is
          (value_starts num c (pieces.all_labels D (as_groups x D L G fair Names Seen gs)) h.0.0 h.0.1 (all_typed k l num groups h.1)) in
          let g : Fol Here Here go (piece D x (node.Switch (lowered p fr c) num (group_nodes p depth lowers fr k l groups) marked)) =
          subst (λ (q : Piece D.Env). Fol Here Here go q) (sym (switch_piece D x (lowered p fr c) num (group_nodes p depth lowers fr k l groups) marked))
          (subst (λ (gs : List (pieces.Group D.Env)). Fol Here Here go (selection D num (meaning D x (lowered p fr c)) gs marked)) (runs_groups k l groups) f) in
          one_follows s (node.Switch (lowered p fr c) num (group_nodes p depth lowers fr k l groups) marked) refl
          (subst (λ (s : Piece D.Env). Still x D L s) (sym (switch_piece D x (lowered p fr c) num (group_nodes p depth lowers fr k l groups) marked))
          (selection_still x D L num (meaning D x (lowered p fr c)) (groups_of D x (group_nodes p depth lowers fr k l groups)) marked (groups_keep p fr x D L ok N w act depth does lowers simple_ok call_ok Names frame inputs keeps calls groups k l num h.1)))
          (follows_same Here Here go (λ st. run p w does act (Stmt.Switch' c num n groups marked) st) (piece D x (node.Switch (lowered p fr c) num (group_nodes p depth lowers fr k l groups) marked)) (λ st. sym (switch_same k l c groups st)) g)
      stmt_follows (Stmt.Loop' q kind cond n (more_of-Stmt body end_of-Stmt) step) k l h =
          let nb = as_block body (nodes p depth lowers fr k (l + 1) body) in
          let s = Stmt.Loop' q kind cond n (more_of-Stmt body end_of-Stmt) step in
          one_follows s (node.Loop l kind (option_map (lowered p fr) cond) nb (option_map (simple p fr) step)) refl
          (loop_still p fr x D L ok N w act depth does lowers simple_ok call_ok Names frame inputs keeps calls l kind cond nb step h.0.0 (still_of body k (l + 1) h.1).block)
          (loop_follows l q kind cond (λ st. run p w does act body st) nb step h.0.0 h.0.1 (still_of body k (l + 1) h.1).block (stmt_follows body k (l + 1) h.1).block)
      stmt_follows (Stmt.Known c) k l h =
          one_follows (Stmt.Known c) (node.Known (lowered p fr c)) refl
          (subst (λ (q : Piece D.Env). Still x D L q) (sym (known_piece D x (lowered p fr c))) (known_still x D L (type_of c) _ (fit p fr x D L ok frame inputs c h)))
          (subst (λ (q : Piece D.Env). Fol Here Here (λ st. run p w does act (Stmt.Known c) st) q) (sym (known_piece D x (lowered p fr c)))
          (known_follows x D L G fair Names Seen Here Here (λ st. eval w (here_in act st) st.store c st.tape) (meaning D x (lowered p fr c)) (decides c h)))
      stmt_follows (Stmt.Assert q c) k l h =
          one_follows (Stmt.Assert q c) (node.Assert q (lowered p fr c)) refl
          (subst (λ (s : Piece D.Env). Still x D L s) (sym (assert_piece D x q (lowered p fr c))) (asserted_still x D L q (type_of c) _ (fit p fr x D L ok frame inputs c h)))
          (subst (λ (s : Piece D.Env). Fol Here Here (λ st. run p w does act (Stmt.Assert q c) st) s) (sym (assert_piece D x q (lowered p fr c)))
          (asserted_follows x D L G fair Names Seen Here Here q (λ st. eval w (here_in act st) st.store c st.tape) (meaning D x (lowered p fr c)) (decides c h)))
      stmt_follows Stmt.Break k l h =
          one_follows Stmt.Break node.Break refl (subst (λ (s : Piece D.Env). Still x D L s) (sym (break_piece D x)) (breaks_still x D L))
          (subst (λ (s : Piece D.Env). Fol Here Here (λ st. run p w does act Stmt.Break st) s) (sym (break_piece D x)) (breaks_follow x D L G fair Names Seen Here Here))
      stmt_follows _ k l h = absurd h

      pub all_follow : {n : _} (r : Row_of-Stmt n) (k l : ℕ) → AllIn p fr x D L ok N w act depth does lowers simple_ok call_ok Names frame inputs k l r → (Q : Said D) → Stab Q → (rest_go : State → Result) (rest : Walk D.Env) →
          FolAll Here Q rest_go rest → StillWalk x D L rest → FolAll Here Q (λ st. then_state (run_all p w does act r st) rest_go) (before D x (all_nodes p depth lowers fr k l r) rest)
      all_follow end_of-Stmt k l h Q sq rest_go rest f kept = f
      all_follow (more_of-Stmt s more) k l h Q sq rest_go rest f kept =
          let k2 = k + cells_in p (body_cells p depth) s in
          let l2 = l + loops_in (body_loops p depth) s in
          let tail = before D x (all_nodes p depth lowers fr k2 l2 more) rest in
          let tail_still = all_still p fr x D L ok N w act depth does lowers simple_ok call_ok Names frame inputs keeps calls more k2 l2 h.1 rest kept in
          subst (λ (v : Walk D.Env). FolAll Here Q (λ st. then_state (run_all p w does act (more_of-Stmt s more) st) rest_go) v) (sym (before_append D x (nodes p depth lowers fr k l s) (all_nodes p depth lowers fr k2 l2 more) rest))
          (follow_all_same Here Q (λ st. then_state (run p w does act s st) (λ st. then_state (run_all p w does act more st) rest_go)) (λ st. then_state (run_all p w does act (more_of-Stmt s more) st) rest_go)
          (before D x (nodes p depth lowers fr k l s) tail) (λ st. sym (then_state_then (run p w does act s st) (λ st. run_all p w does act more st) rest_go))
          ((stmt_follows s k l h.0).walk Q sq (λ st. then_state (run_all p w does act more st) rest_go) tail (all_follow more k2 l2 h.1 Q sq rest_go rest f kept) (tail_still.keeps anywhere)))

      groups_follow : {n : _} (r : Row_of-Group n) (k l : ℕ) (num : Num) → GroupsIn p fr x D L ok N w act depth does lowers simple_ok call_ok Names frame inputs k l num r → Fact (RunsFollow x D L G fair Names Seen Here Here Here num (group_runs k l r))
      groups_follow end_of-Group k l num h = record { is = tt }
      groups_follow (more_of-Group labels n (more_of-Stmt body end_of-Stmt) rest) k l num h =
          record { is = (((h.0.0, (still_of body k l h.0.1).block), (stmt_follows body k l h.0.1).block), (groups_follow rest (k + cells_in p (body_cells p depth) body) (l + loops_in (body_loops p depth) body) num h.1).is) }
