-- Main: statements, the clock loop, and the whole analysis against executions.
use Rattle.std.proofs.Common.{◌≡◌, ◌⊎◌, ℕ, ◌+◌, ℤ, pos, ◌+ℤ◌, false, List, refl, sym, ap, subst, ◌∙◌, Option, None, inl, inr}
use Rattle.std.specs.Int.RustNames.{int_le}
use Rattle.sa_base.specs.declared.pos.Pos.{Pos}
use Rattle.sa_typed.specs.Evaluation.{Setting}
use Rattle.sa_typed.specs.Executions.{Loop, Visit, State, Result, Goes, Breaks, Over, Turn, Again, Leaves, Ended, Activation, over, with_value, with_store, then_state, here_in, simple_value, decided, tested, stepped, turn_of, turns, turn_with, after_body, called, run, run_all, run_group}
use Rattle.sa_typed.specs.Executions as concrete
use Rattle.sa_typed.specs.Frames.{cells_in, loops_in, body_cells, body_loops}
use Rattle.sa_typed.specs.declared.stmt.Arg.{Arg}
use Rattle.sa_typed.specs.declared.stmt.Destination.{Destination}
use Rattle.sa_typed.specs.declared.stmt.LoopKind.TheVariants as kind
use Rattle.sa_typed.specs.declared.stmt.Simple.{Simple}
use Rattle.sa_typed.specs.declared.stmt.Stmt.{Stmt, Row_of-Stmt, end_of-Stmt, more_of-Stmt}
use Rattle.sa_typed.specs.declared.program.Program.{Program}
use Rattle.sa_ir.specs.declared.node.Node.TheVariants as node
use Rattle.sa_ir.specs.Frames.{Frame as Call}
use Rattle.sa_ir.specs.Nodes.{nodes, all_nodes, Bodies}
use Rattle.sa_flat.specs.Domain.{Domain}
use Rattle.sa_flat.specs.Meanings.{Cells}
use Rattle.sa_flat.specs.Pieces as pieces
use Rattle.sa_flat.specs.Pieces.{Found, Piece, Walk, waits, changed, done, followed, block, decision, looped, while_turn, do_turn, known, asserted, breaks}
use Rattle.sa_flat.specs.Nodes.{piece}
use Rattle.sa_flat.proofs.Lawful.{Lawful, anywhere}
use Rattle.sa_flat.proofs.Goods.{alive_is, alive_all, Holds}
use Rattle.sa_flat.proofs.KeepLaws.{done_moving, followed_moving, while_keeps as turn_keeps, while_fair as turn_fair, waits_moving, clock_moving, block_moving, AreFair, Moving, MovingWalk}
use Rattle.sa_flat.proofs.FollowLaws.{RunOk, Said, ResultOk, Begins, done_follow, followed_follow, block_follows}
use Rattle.sa_flat.proofs.LoopLaws.{Ticks, waits_follow, clock_follows, TurnFollows, tested_by, stepped_by, while_follows}
use Rattle.sa_flat.proofs.NodeRolls.{wait_piece, before, before_append, block_piece, loop_piece}
use Rattle.sa_flat.proofs.FitExpressions.{FrameFits, InputsFit}
use Rattle.sa_flat.proofs.StateLaws.{Naming, has, point, point_has}
use Rattle.sa_flat.proofs.StatementLaws.{In, SimplesKeep, CallsKeep, stmt_still}
use Rattle.sa_flat.proofs.FollowStatements.{Here, Seen, Fol, FolAll, SimplesHold, CallsHold, here_stable, seen_stable, shown, stmt_follows}
use Rattle.sa_flat.proofs.SimpleLaws.{InputsAlways}

abbrev pub IsWait : Stmt → Type 0
IsWait Stmt.Wait = Unit {0}
IsWait _ = ⊥

abbrev pub IsEmpty : {n : _} → Row_of-Stmt n → Type 0
IsEmpty end_of-Stmt = Unit {0}
IsEmpty (more_of-Stmt s rest) = ⊥

module _ (p : Program) (fr : Call) (x : Cells) (D : Domain) (L : Lawful x D) (ok : ℕ → Type 0) (N : Naming x) (w : Setting) (act : Activation) (depth : ℕ) (does : concrete.Bodies) (lowers : Bodies)
    (simple_ok : Simple → Type 0) (call_ok : ℕ → ℕ → Pos → ℕ → List Arg → Option Destination → Type 0) (Names : ℕ → Loop → Type 0) (frame : FrameFits p fr x D L ok) (inputs : InputsFit p fr x D L ok)
    (keeps : SimplesKeep p fr x D L ok N w act depth does lowers simple_ok call_ok Names frame inputs) (calls : CallsKeep p fr x D L ok N w act depth does lowers simple_ok call_ok Names frame inputs) where
  -- one turn of the clock loop: the wait comes last
  unfoldable pub TurnWalks : {n : _} → ℕ → ℕ → Row_of-Stmt n → Type 0
  TurnWalks k l end_of-Stmt = ⊥
  TurnWalks k l (more_of-Stmt s rest) =
      (IsWait s × IsEmpty rest) ⊎ (In p fr x D L ok N w act depth does lowers simple_ok call_ok Names frame inputs k l s × TurnWalks (k + cells_in p (body_cells p depth) s) (l + loops_in (body_loops p depth) s) rest)

  wait_moving : {n : _} (s : Stmt) (rest : Row_of-Stmt n) (k l : ℕ) → IsWait s → IsEmpty rest → MovingWalk x D L (before D x (all_nodes p depth lowers fr k l (more_of-Stmt s rest)) (done D))
  unfolding nodes
  wait_moving Stmt.Wait end_of-Stmt k l h g =
      followed_moving x D L (piece D x node.Wait) (done D) (subst (λ (s : Piece D.Env). Moving x D L s) (sym (wait_piece D x)) (waits_moving x D L)) (done_moving x D L)
  wait_moving Stmt.Wait (more_of-Stmt s rest) k l h g = absurd g
  wait_moving _ rest k l h g = absurd h

  pub turn_moving : {n : _} (r : Row_of-Stmt n) (k l : ℕ) → TurnWalks k l r → MovingWalk x D L (before D x (all_nodes p depth lowers fr k l r) (done D))
  unfolding nodes TurnWalks
  turn_moving end_of-Stmt k l h = absurd h
  turn_moving (more_of-Stmt s rest) k l (inl h) = wait_moving s rest k l h.0 h.1
  turn_moving (more_of-Stmt s rest) k l (inr h) =
      let k2 = k + cells_in p (body_cells p depth) s in
      let l2 = l + loops_in (body_loops p depth) s in
      subst (λ (v : Walk D.Env). MovingWalk x D L v) (sym (before_append D x (nodes p depth lowers fr k l s) (all_nodes p depth lowers fr k2 l2 rest) (done D)))
      ((stmt_still p fr x D L ok N w act depth does lowers simple_ok call_ok Names frame inputs keeps calls s k l h.0).moving (before D x (all_nodes p depth lowers fr k2 l2 rest) (done D)) (turn_moving rest k2 l2 h.1))

  -- the clock loop, in whose body the wait comes last
  abbrev pub ClockWalks : ℕ → ℕ → Stmt → Type 0
  ClockWalks k l (Stmt.Loop' q kind.Clock None n (more_of-Stmt (Stmt.Block' m all) end_of-Stmt) None) = Names l (record { path = act.path; place = q }) × TurnWalks k (l + 1) all
  ClockWalks k l _ = ⊥

  clock_body : {n : _} → ℕ → ℕ → Row_of-Stmt n → Piece D.Env
  clock_body k l all = block D (before D x (all_nodes p depth lowers fr k l all) (done D))

  body_moving : {n : _} (all : Row_of-Stmt n) (k l : ℕ) → TurnWalks k l all → Moving x D L (block D (before D x (all_nodes p depth lowers fr k l all) (done D)))
  body_moving all k l h = block_moving x D L (before D x (all_nodes p depth lowers fr k l all) (done D)) (turn_moving all k l h)

  clock_piece : {n : _} (all : Row_of-Stmt n) (k l : ℕ) → piece D x (node.Loop l kind.Clock None (node.Block (all_nodes p depth lowers fr k (l + 1) all)) None) ≡
      looped D x.all l (λ e. D.top x.clocks) (while_turn D None (block D (before D x (all_nodes p depth lowers fr k (l + 1) all) (done D))) None)
  clock_piece all k l =
      loop_piece D x l kind.Clock None (node.Block (all_nodes p depth lowers fr k (l + 1) all)) None ∙
      ap (λ (b : Piece D.Env). looped D x.all l (λ e. D.top x.clocks) (while_turn D None b None)) (block_piece D x (all_nodes p depth lowers fr k (l + 1) all))

  clock_still : {n : _} (all : Row_of-Stmt n) (k l : ℕ) → TurnWalks k (l + 1) all → Moving x D L (piece D x (node.Loop l kind.Clock None (node.Block (all_nodes p depth lowers fr k (l + 1) all)) None))
  clock_still all k l h =
      let body = block D (before D x (all_nodes p depth lowers fr k (l + 1) all) (done D)) in
      let m = body_moving all k (l + 1) h in
      subst (λ (s : Piece D.Env). Moving x D L s) (sym (clock_piece all k l))
      (clock_moving x D L l (while_turn D None body None) (turn_keeps x D L anywhere None body None tt m.keeps tt) (turn_fair x D L None body None tt m))

  -- main's block: statements, the clock loop, and what stands behind it, to which nothing leads
  abbrev pub AfterMoves : {n : _} → ℕ → ℕ → Row_of-Stmt n → Type 0
  AfterMoves k l rest = MovingWalk x D L (before D x (all_nodes p depth lowers fr k l rest) (done D))

  unfoldable pub MainWalks : {n : _} → ℕ → ℕ → Row_of-Stmt n → Type 0
  MainWalks k l end_of-Stmt = ⊥
  MainWalks k l (more_of-Stmt s rest) =
      (ClockWalks k l s × AfterMoves (k + cells_in p (body_cells p depth) s) (l + loops_in (body_loops p depth) s) rest)
      ⊎ (In p fr x D L ok N w act depth does lowers simple_ok call_ok Names frame inputs k l s × MainWalks (k + cells_in p (body_cells p depth) s) (l + loops_in (body_loops p depth) s) rest)

  clock_walk : (s : Stmt) (k l : ℕ) → ClockWalks k l s → (rest : Walk D.Env) → MovingWalk x D L rest → MovingWalk x D L (before D x (nodes p depth lowers fr k l s) rest)
  unfolding nodes
  clock_walk (Stmt.Loop' q kind.Clock None n (more_of-Stmt (Stmt.Block' m all) end_of-Stmt) None) k l h rest r =
      followed_moving x D L (piece D x (node.Loop l kind.Clock None (node.Block (all_nodes p depth lowers fr k (l + 1) all)) None)) rest (clock_still all k l h.1) r
  clock_walk _ k l h rest r = absurd h

  pub main_moving : {n : _} (r : Row_of-Stmt n) (k l : ℕ) → MainWalks k l r → MovingWalk x D L (before D x (all_nodes p depth lowers fr k l r) (done D))
  unfolding nodes MainWalks
  main_moving end_of-Stmt k l h = absurd h
  main_moving (more_of-Stmt s rest) k l (inl h) =
      let k2 = k + cells_in p (body_cells p depth) s in
      let l2 = l + loops_in (body_loops p depth) s in
      subst (λ (v : Walk D.Env). MovingWalk x D L v) (sym (before_append D x (nodes p depth lowers fr k l s) (all_nodes p depth lowers fr k2 l2 rest) (done D)))
      (clock_walk s k l h.0 (before D x (all_nodes p depth lowers fr k2 l2 rest) (done D)) h.1)
  main_moving (more_of-Stmt s rest) k l (inr h) =
      let k2 = k + cells_in p (body_cells p depth) s in
      let l2 = l + loops_in (body_loops p depth) s in
      subst (λ (v : Walk D.Env). MovingWalk x D L v) (sym (before_append D x (nodes p depth lowers fr k l s) (all_nodes p depth lowers fr k2 l2 rest) (done D)))
      ((stmt_still p fr x D L ok N w act depth does lowers simple_ok call_ok Names frame inputs keeps calls s k l h.0).moving (before D x (all_nodes p depth lowers fr k2 l2 rest) (done D)) (main_moving rest k2 l2 h.1))

  module _ (outer : (ℕ → ℤ) → Type 0) (always_in : InputsAlways p fr x D L ok N w act.base outer) (G : Found D.Env) (fair : AreFair x D L G) (simples : SimplesHold p fr x D L ok N w act depth does lowers simple_ok call_ok Names frame inputs keeps calls outer always_in G fair)
      (calls_hold : CallsHold p fr x D L ok N w act depth does lowers simple_ok call_ok Names frame inputs keeps calls outer always_in G fair) (clocks : x.clocks.hi ≡ w.max_clock) where
    abbrev This : Said D
    This = Here p fr x D L ok N w act depth does lowers simple_ok call_ok Names frame inputs keeps calls outer always_in G fair

    abbrev FolOne : (State → Result) → Piece D.Env → Type 0
    FolOne go s = Fol p fr x D L ok N w act depth does lowers simple_ok call_ok Names frame inputs keeps calls outer always_in G fair This This go s

    abbrev FolMany : (State → Result) → Walk D.Env → Type 0
    FolMany go s = FolAll p fr x D L ok N w act depth does lowers simple_ok call_ok Names frame inputs keeps calls outer always_in G fair This This go s

    abbrev SeenAt : Visit → D.Env → Type 0
    SeenAt = Seen p fr x D L ok N w act depth does lowers simple_ok call_ok Names frame inputs keeps calls outer always_in G fair

    ticks : Ticks x D L G fair Names SeenAt This w.max_clock
    ticks store result clock e g t h =
        alive_is (Holds x D L (has x N store h.kept) (clock +ℤ pos 1)) (This store result (clock +ℤ pos 1)) (D.tick e) (λ i k. record { kept = h.kept; frame = h.frame; outside = h.outside; holds = k })
        (alive_all x D L (has x N store h.kept) (point x N store h.kept) (point_has x N store h.kept) (λ i at. D.Point i at (clock +ℤ pos 1)) (D.tick e)
        (λ at q. L.tick_sound e at clock g.under g.closed (h.holds at q) (subst (λ (m : ℤ). int_le m clock ≡ false) (sym clocks) t)))

    wait_follows : FolOne (λ st. run p w does act Stmt.Wait st) (piece D x node.Wait)
    unfolding run
    wait_follows = subst (λ (s : Piece D.Env). FolOne (λ st. run p w does act Stmt.Wait st) s) (sym (wait_piece D x)) (waits_follow x D L G fair Names SeenAt This This w.max_clock ticks)

    wait_row : {n : _} (s : Stmt) (rest : Row_of-Stmt n) (k l : ℕ) → IsWait s → IsEmpty rest → FolMany (λ st. run_all p w does act (more_of-Stmt s rest) st) (before D x (all_nodes p depth lowers fr k l (more_of-Stmt s rest)) (done D))
    unfolding nodes run
    wait_row Stmt.Wait end_of-Stmt k l h g =
        followed_follow x D L G fair Names SeenAt This This This This (here_stable p fr x D L ok N w act depth does lowers simple_ok call_ok Names frame inputs keeps calls outer always_in G fair) (here_stable p fr x D L ok N w act depth does lowers simple_ok call_ok Names frame inputs keeps calls outer always_in G fair) (λ st. run p w does act Stmt.Wait st) (λ st. Goes st) (piece D x node.Wait) (done D)
        wait_follows (subst (λ (s : Piece D.Env). Moving x D L s) (sym (wait_piece D x)) (waits_moving x D L)).keeps (done_follow x D L G fair Names SeenAt This This) (done_moving x D L).keeps
    wait_row Stmt.Wait (more_of-Stmt s rest) k l h g = absurd g
    wait_row _ rest k l h g = absurd h

    pub turn_follows : {n : _} (r : Row_of-Stmt n) (k l : ℕ) → TurnWalks k l r → FolMany (λ st. run_all p w does act r st) (before D x (all_nodes p depth lowers fr k l r) (done D))
    unfolding nodes TurnWalks run
    turn_follows end_of-Stmt k l h = absurd h
    turn_follows (more_of-Stmt s rest) k l (inl h) = wait_row s rest k l h.0 h.1
    turn_follows (more_of-Stmt s rest) k l (inr h) =
        let k2 = k + cells_in p (body_cells p depth) s in
        let l2 = l + loops_in (body_loops p depth) s in
        let tail = before D x (all_nodes p depth lowers fr k2 l2 rest) (done D) in
        subst (λ (v : Walk D.Env). FolMany (λ st. run_all p w does act (more_of-Stmt s rest) st) v) (sym (before_append D x (nodes p depth lowers fr k l s) (all_nodes p depth lowers fr k2 l2 rest) (done D)))
        ((stmt_follows p fr x D L ok N w act depth does lowers simple_ok call_ok Names frame inputs keeps calls outer always_in G fair simples calls_hold s k l h.0).walk This (here_stable p fr x D L ok N w act depth does lowers simple_ok call_ok Names frame inputs keeps calls outer always_in G fair) (λ st. run_all p w does act rest st) tail
        (turn_follows rest k2 l2 h.1) (turn_moving rest k2 l2 h.1).keeps)

    -- ---- the clock loop
    clock_same : (go : State → Result) → (λ (st : State). tested_by x D L G fair Names SeenAt None st (λ st. after_body (go st) (stepped_by x D L G fair Names SeenAt None))) ≡ turn_of p w act kind.Clock None go None
    clock_same go = refl

    body_follows : {n : _} (all : Row_of-Stmt n) (k l : ℕ) → TurnWalks k l all → FolOne (λ st. run_all p w does act all st) (block D (before D x (all_nodes p depth lowers fr k l all) (done D)))
    body_follows all k l h =
        block_follows x D L G fair Names SeenAt This This This (here_stable p fr x D L ok N w act depth does lowers simple_ok call_ok Names frame inputs keeps calls outer always_in G fair) (λ st. run_all p w does act all st) (before D x (all_nodes p depth lowers fr k l all) (done D))
        (turn_follows all k l h) (turn_moving all k l h).keeps

    clock_loop : {n : _} (q : Pos) (all : Row_of-Stmt n) (k l : ℕ) → Names l (record { path = act.path; place = q }) → TurnWalks k (l + 1) all →
        FolOne (λ st. turns (record { path = act.path; place = q }) (turn_of p w act kind.Clock None (λ st. run_all p w does act all st) None) st.left st) (piece D x (node.Loop l kind.Clock None (node.Block (all_nodes p depth lowers fr k (l + 1) all)) None))
    clock_loop q all k l named h =
        let body = block D (before D x (all_nodes p depth lowers fr k (l + 1) all) (done D)) in
        let go = λ (st : State). run_all p w does act all st in
        let m = body_moving all k (l + 1) h in
        let stable = here_stable p fr x D L ok N w act depth does lowers simple_ok call_ok Names frame inputs keeps calls outer always_in G fair in
        subst (λ (s : Piece D.Env). FolOne (λ st. turns (record { path = act.path; place = q }) (turn_of p w act kind.Clock None go None) st.left st) s) (sym (clock_piece all k l))
        (clock_follows x D L G fair Names SeenAt (seen_stable p fr x D L ok N w act depth does lowers simple_ok call_ok Names frame inputs keeps calls outer always_in G fair) This This stable (shown p fr x D L ok N w act depth does lowers simple_ok call_ok Names frame inputs keeps calls outer always_in G fair) (record { path = act.path; place = q }) l
        (turn_of p w act kind.Clock None go None) (while_turn D None body None) named (turn_keeps x D L anywhere None body None tt m.keeps tt)
        (subst (λ (one : State → Turn). TurnFollows x D L G fair Names SeenAt This one (while_turn D None body None)) (clock_same go)
        (while_follows x D L G fair Names SeenAt This stable None None go body None None tt tt (body_follows all k (l + 1) h) m.keeps tt tt)))

    -- what stands behind the clock loop
    abbrev pub AfterFollows : {n : _} → ℕ → ℕ → Row_of-Stmt n → Type 0
    AfterFollows k l rest = FolMany (λ st. run_all p w does act rest st) (before D x (all_nodes p depth lowers fr k l rest) (done D))

    unfoldable pub AfterHolds : {n : _} → ℕ → ℕ → Row_of-Stmt n → Type 0
    AfterHolds k l end_of-Stmt = Unit {0}
    AfterHolds k l (more_of-Stmt s rest) =
        (ClockWalks k l s → AfterFollows (k + cells_in p (body_cells p depth) s) (l + loops_in (body_loops p depth) s) rest) × AfterHolds (k + cells_in p (body_cells p depth) s) (l + loops_in (body_loops p depth) s) rest

    clock_row : (s : Stmt) (k l : ℕ) → ClockWalks k l s → (rest_go : State → Result) (rest : Walk D.Env) → FolMany rest_go rest → MovingWalk x D L rest →
        FolMany (λ st. then_state (run p w does act s st) rest_go) (before D x (nodes p depth lowers fr k l s) rest)
    unfolding nodes run
    clock_row (Stmt.Loop' q kind.Clock None n (more_of-Stmt (Stmt.Block' m all) end_of-Stmt) None) k l h rest_go rest f r =
        followed_follow x D L G fair Names SeenAt This This This This (here_stable p fr x D L ok N w act depth does lowers simple_ok call_ok Names frame inputs keeps calls outer always_in G fair) (here_stable p fr x D L ok N w act depth does lowers simple_ok call_ok Names frame inputs keeps calls outer always_in G fair)
        (λ st. turns (record { path = act.path; place = q }) (turn_of p w act kind.Clock None (λ st. run_all p w does act all st) None) st.left st) rest_go
        (piece D x (node.Loop l kind.Clock None (node.Block (all_nodes p depth lowers fr k (l + 1) all)) None)) rest (clock_loop q all k l h.0 h.1) (clock_still all k l h.1).keeps f r.keeps
    clock_row _ k l h rest_go rest f r = absurd h

    pub main_follows : {n : _} (r : Row_of-Stmt n) (k l : ℕ) → MainWalks k l r → AfterHolds k l r → FolMany (λ st. run_all p w does act r st) (before D x (all_nodes p depth lowers fr k l r) (done D))
    unfolding nodes MainWalks AfterHolds run
    main_follows end_of-Stmt k l h a = absurd h
    main_follows (more_of-Stmt s rest) k l (inl h) a =
        let k2 = k + cells_in p (body_cells p depth) s in
        let l2 = l + loops_in (body_loops p depth) s in
        let tail = before D x (all_nodes p depth lowers fr k2 l2 rest) (done D) in
        subst (λ (v : Walk D.Env). FolMany (λ st. run_all p w does act (more_of-Stmt s rest) st) v) (sym (before_append D x (nodes p depth lowers fr k l s) (all_nodes p depth lowers fr k2 l2 rest) (done D)))
        (clock_row s k l h.0 (λ st. run_all p w does act rest st) tail (a.0 h.0) h.1)
    main_follows (more_of-Stmt s rest) k l (inr h) a =
        let k2 = k + cells_in p (body_cells p depth) s in
        let l2 = l + loops_in (body_loops p depth) s in
        let tail = before D x (all_nodes p depth lowers fr k2 l2 rest) (done D) in
        subst (λ (v : Walk D.Env). FolMany (λ st. run_all p w does act (more_of-Stmt s rest) st) v) (sym (before_append D x (nodes p depth lowers fr k l s) (all_nodes p depth lowers fr k2 l2 rest) (done D)))
        ((stmt_follows p fr x D L ok N w act depth does lowers simple_ok call_ok Names frame inputs keeps calls outer always_in G fair simples calls_hold s k l h.0).walk This (here_stable p fr x D L ok N w act depth does lowers simple_ok call_ok Names frame inputs keeps calls outer always_in G fair) (λ st. run_all p w does act rest st) tail
        (main_follows rest k2 l2 h.1 a.1) (main_moving rest k2 l2 h.1).keeps)

    -- what didn't end is still going
    ended_ok : (r : Result) (y : pieces.Exits D.Env) → ResultOk x D L G fair Names SeenAt This This y r → RunOk x D L G fair Names SeenAt (concrete.ended r)
    ended_ok (Goes st) y h = record { inside = h.inside; covered = tt }
    ended_ok (Breaks st) y h = record { inside = h.inside; covered = tt }
    ended_ok (Over r) y h = h

    -- the run of main's block from a state that stands in an environment
    pub main_run : {n : _} (r : Row_of-Stmt n) (k l : ℕ) → MainWalks k l r → AfterHolds k l r → (e : D.Env) (st : State) → Begins x D L G fair Names SeenAt This e ((block D (before D x (all_nodes p depth lowers fr k l r) (done D))).found e) st →
        RunOk x D L G fair Names SeenAt (concrete.ended (run_all p w does act r st))
    main_run r k l h a e st b =
        ended_ok (run_all p w does act r st) ((block D (before D x (all_nodes p depth lowers fr k l r) (done D))).after e)
        (block_follows x D L G fair Names SeenAt This This This (here_stable p fr x D L ok N w act depth does lowers simple_ok call_ok Names frame inputs keeps calls outer always_in G fair) (λ st. run_all p w does act r st) (before D x (all_nodes p depth lowers fr k l r) (done D))
        (main_follows r k l h a) (main_moving r k l h).keeps e st b)
