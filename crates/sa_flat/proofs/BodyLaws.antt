-- The body of a called function: what is said where it has returned.
use Rattle.std.proofs.Common.{◌≡◌, ◌⊎◌, ℕ, ◌+◌, ℤ, false, List, [], ◌∷◌, ◌++◌, sym, subst, Option, None, Some, inl, inr}
use Rattle.sa_base.specs.declared.num.Num.{Num}
use Rattle.sa_base.specs.declared.pos.Pos.{Pos}
use Rattle.sa_base.specs.declared.alarm.Alarm.{Alarm}
use Rattle.sa_typed.specs.Evaluation.{Setting, Store, Value, Gives, Stops}
use Rattle.sa_typed.specs.Executions.{Loop, Visit, State, Result, Goes, Breaks, Over, Activation, with_value, then_state, here_in, converted_value, run, run_all}
use Rattle.sa_typed.specs.Executions as concrete
use Rattle.sa_typed.specs.Frames.{cells_in, loops_in, body_cells, body_loops}
use Rattle.sa_typed.specs.declared.expr.Expr.{Expr}
use Rattle.sa_typed.specs.declared.stmt.Arg.{Arg}
use Rattle.sa_typed.specs.declared.stmt.Destination.{Destination}
use Rattle.sa_typed.specs.declared.stmt.Simple.{Simple}
use Rattle.sa_typed.specs.declared.stmt.Stmt.{Stmt, Row_of-Stmt, end_of-Stmt, more_of-Stmt}
use Rattle.sa_typed.specs.declared.program.Program.{Program}
use Rattle.sa_ir.specs.declared.node.IrAssign.TheVariants as assign
use Rattle.sa_ir.specs.declared.node.Node.TheVariants as node
use Rattle.sa_ir.specs.Frames.{Frame as Call}
use Rattle.sa_ir.specs.Places.{lowered, only}
use Rattle.sa_ir.specs.Nodes.{nodes, all_nodes, Bodies}
use Rattle.sa_flat.specs.Domain.{Domain}
use Rattle.sa_flat.specs.Meanings.{Cells, cast}
use Rattle.sa_flat.specs.Expressions.{meaning, target}
use Rattle.sa_flat.specs.Assignments.{Change, assignment, change, store_at}
use Rattle.sa_flat.specs.Pieces.{Found, Exits, Piece, Walk, changed, done, followed, block}
use Rattle.sa_flat.specs.Nodes.{piece}
use Rattle.sa_flat.proofs.Lawful.{Lawful, anywhere, AliveAnd}
use Rattle.sa_flat.proofs.Goods.{alive_is, Good}
use Rattle.sa_flat.proofs.KeepLaws.{AreFair, ChangeKeeps, Still, StillWalk, MovingWalk, changed_still, done_still, followed_still, block_still}
use Rattle.sa_flat.proofs.ChangeLaws.{assignment_keeps}
use Rattle.sa_flat.proofs.TargetLaws.{IsOfType}
use Rattle.sa_flat.proofs.FollowLaws.{Said, HoldsAt, AnyOf, ResultOk, EndsOk, AllInside, CoversAll, Follows, FollowsAll, block_follows, valued, on_ok, done_follow, followed_follow}
use Rattle.sa_flat.proofs.NodeRolls.{before, before_append, assign_piece, block_piece}
use Rattle.sa_flat.proofs.WalkPremises.{Walks}
use Rattle.sa_flat.proofs.FitExpressions.{FrameFits, InputsFit}
use Rattle.sa_flat.proofs.StateLaws.{Naming, with_cell}
use Rattle.sa_flat.proofs.SimpleLaws.{InputsAlways, value_fit}
use Rattle.sa_flat.proofs.HiddenLaws.{Returned, returned_stable, in_cell, untold, only_leads, Returns, return_leaves}
use Rattle.sa_flat.proofs.StatementLaws.{then_goes, In, AllIn, SimplesKeep, CallsKeep, NodesStill, stmt_still, all_still}
use Rattle.sa_flat.proofs.FollowStatements.{Here, Seen, Stab, Fol, FolAll, SimplesHold, CallsHold, here_stable, stmt_follows, all_follow}
use Rattle.sa_flat.proofs.MainLaws.{IsEmpty}

-- ---- what follows from what is said
module _ (x : Cells) (D : Domain) (L : Lawful x D) (G : Found D.Env) (fair : AreFair x D L G) (Names : ℕ → Loop → Type 0) (V : Visit → D.Env → Type 0) where
  pub any_said : {A : Type 0} (P Q : A → Type 0) (es : List A) → ((e : A) → P e → Q e) → AnyOf P es → AnyOf Q es
  any_said P Q [] k h = absurd h
  any_said P Q (e ∷ es) k (inl h) = inl (k e h)
  any_said P Q (e ∷ es) k (inr h) = inr (any_said P Q es k h)

  abbrev pub Implies : Said D → Said D → Type 0
  Implies P Q = (store : Store) (result clock : ℤ) (e : D.Env) → P store result clock e → Q store result clock e

  pub result_said : (P Q R S : Said D) (ex : Exits D.Env) (res : Result) → Implies P Q → Implies R S → ResultOk x D L G fair Names V P R ex res → ResultOk x D L G fair Names V Q S ex res
  result_said P Q R S ex (Goes st) k l h = record {
    holds = any_said (λ e. P st.store st.result st.clock e) (λ e. Q st.store st.result st.clock e) ex.ends (λ e. k st.store st.result st.clock e) h.holds;
    inside = h.inside;
  }
  result_said P Q R S ex (Breaks st) k l h = record {
    holds = alive_is (λ e. R st.store st.result st.clock e) (λ e. S st.store st.result st.clock e) ex.broken (λ e. l st.store st.result st.clock e) h.holds;
    inside = h.inside;
  }
  result_said P Q R S ex (Over run) k l h = h

  pub done_said : (P Q R : Said D) → Implies P Q → FollowsAll x D L G fair Names V P Q R (λ st. Goes st) (done D)
  done_said P Q R k es st u g h i = record { holds = any_said (λ e. P st.store st.result st.clock e) (λ e. Q st.store st.result st.clock e) es (λ e. k st.store st.result st.clock e) h; inside = i }

module _ (p : Program) (fr : Call) (x : Cells) (D : Domain) (L : Lawful x D) (ok : ℕ → Type 0) (N : Naming x) (w : Setting) (act : Activation) (depth : ℕ) (does : concrete.Bodies) (lowers : Bodies)
    (simple_ok : Simple → Type 0) (call_ok : ℕ → ℕ → Pos → ℕ → List Arg → Option Destination → Type 0) (Names : ℕ → Loop → Type 0) (frame : FrameFits p fr x D L ok) (inputs : InputsFit p fr x D L ok)
    (keeps : SimplesKeep p fr x D L ok N w act depth does lowers simple_ok call_ok Names frame inputs) (calls : CallsKeep p fr x D L ok N w act depth does lowers simple_ok call_ok Names frame inputs) where
  -- a return of a number of this type
  abbrev pub IsReturn : Num → Stmt → Type 0
  IsReturn to (Stmt.Return q num a) = Walks p ok a × (num ≡ to)
  IsReturn to _ = ⊥

  -- a body that returns a number: the return comes last
  unfoldable pub ReturnWalks : {n : _} → Num → ℕ → ℕ → Row_of-Stmt n → Type 0
  ReturnWalks to k l end_of-Stmt = ⊥
  ReturnWalks to k l (more_of-Stmt s rest) =
      (IsReturn to s × IsEmpty rest) ⊎ (In p fr x D L ok N w act depth does lowers simple_ok call_ok Names frame inputs k l s × ReturnWalks to (k + cells_in p (body_cells p depth) s) (l + loops_in (body_loops p depth) s) rest)

  abbrev answer : Num → Pos → Expr → Change D.Env
  answer num q a = change D x (assign.Value (only fr.result) num q (lowered p fr a))

  return_keeps : (num : Num) (q : Pos) (a : Expr) → Walks p ok a → IsOfType x D L num fr.result → ChangeKeeps x D L (change D x (assign.Value (only fr.result) num q (lowered p fr a)))
  unfolding change
  return_keeps num q a h o = assignment_keeps x D L num (target D x (only fr.result)) _ (only_leads x N D L num fr.result o) (value_fit p fr x D L ok frame inputs num q a h)

  return_still : (num : Num) (q : Pos) (a : Expr) → Walks p ok a → IsOfType x D L num fr.result → Still x D L (piece D x (node.Assign (assign.Value (only fr.result) num q (lowered p fr a))))
  return_still num q a h o =
      subst (λ (s : Piece D.Env). Still x D L s) (sym (assign_piece D x (assign.Value (only fr.result) num q (lowered p fr a))))
      (changed_still x D L (change D x (assign.Value (only fr.result) num q (lowered p fr a))) (return_keeps num q a h o))

  return_row : {n : _} (to : Num) (s : Stmt) (rest : Row_of-Stmt n) (k l : ℕ) → IsOfType x D L to fr.result → IsReturn to s → IsEmpty rest → StillWalk x D L (before D x (all_nodes p depth lowers fr k l (more_of-Stmt s rest)) (done D))
  unfolding nodes
  return_row to (Stmt.Return q num a) end_of-Stmt k l o h g =
      followed_still x D L (piece D x (node.Assign (assign.Value (only fr.result) num q (lowered p fr a)))) (done D) (return_still num q a h.0 (subst (λ (m : Num). IsOfType x D L m fr.result) (sym h.1) o)) (done_still x D L)
  return_row to (Stmt.Return q num a) (more_of-Stmt s rest) k l o h g = absurd g
  return_row to _ rest k l o h g = absurd h

  pub return_body_still : {n : _} (to : Num) (r : Row_of-Stmt n) (k l : ℕ) → IsOfType x D L to fr.result → ReturnWalks to k l r → StillWalk x D L (before D x (all_nodes p depth lowers fr k l r) (done D))
  unfolding nodes ReturnWalks
  return_body_still to end_of-Stmt k l o h = absurd h
  return_body_still to (more_of-Stmt s rest) k l o (inl h) = return_row to s rest k l o h.0 h.1
  return_body_still to (more_of-Stmt s rest) k l o (inr h) =
      let k2 = k + cells_in p (body_cells p depth) s in
      let l2 = l + loops_in (body_loops p depth) s in
      subst (λ (v : Walk D.Env). StillWalk x D L v) (sym (before_append D x (nodes p depth lowers fr k l s) (all_nodes p depth lowers fr k2 l2 rest) (done D)))
      ((stmt_still p fr x D L ok N w act depth does lowers simple_ok call_ok Names frame inputs keeps calls s k l h.0).walk (before D x (all_nodes p depth lowers fr k2 l2 rest) (done D)) (return_body_still to rest k2 l2 o h.1))

  pub return_block_still : {n : _} (to : Num) (r : Row_of-Stmt n) (k l : ℕ) → IsOfType x D L to fr.result → ReturnWalks to k l r → Still x D L (piece D x (node.Block (all_nodes p depth lowers fr k l r)))
  return_block_still to r k l o h =
      subst (λ (s : Piece D.Env). Still x D L s) (sym (block_piece D x (all_nodes p depth lowers fr k l r)))
      (block_still x D L (before D x (all_nodes p depth lowers fr k l r) (done D)) (return_body_still to r k l o h))

  pub left_block_still : {n : _} (r : Row_of-Stmt n) (k l : ℕ) → AllIn p fr x D L ok N w act depth does lowers simple_ok call_ok Names frame inputs k l r → Still x D L (piece D x (node.Block (all_nodes p depth lowers fr k l r)))
  left_block_still r k l h =
      subst (λ (s : Piece D.Env). Still x D L s) (sym (block_piece D x (all_nodes p depth lowers fr k l r)))
      (block_still x D L (before D x (all_nodes p depth lowers fr k l r) (done D)) (all_still p fr x D L ok N w act depth does lowers simple_ok call_ok Names frame inputs keeps calls r k l h (done D) (done_still x D L)))

  module _ (outer : (ℕ → ℤ) → Type 0) (always_in : InputsAlways p fr x D L ok N w act.base outer) (G : Found D.Env) (fair : AreFair x D L G) (simples : SimplesHold p fr x D L ok N w act depth does lowers simple_ok call_ok Names frame inputs keeps calls outer always_in G fair)
      (calls_hold : CallsHold p fr x D L ok N w act depth does lowers simple_ok call_ok Names frame inputs keeps calls outer always_in G fair) where
    abbrev This : Said D
    This = Here p fr x D L ok N w act depth does lowers simple_ok call_ok Names frame inputs keeps calls outer always_in G fair

    abbrev SeenAt : Visit → D.Env → Type 0
    SeenAt = Seen p fr x D L ok N w act depth does lowers simple_ok call_ok Names frame inputs keeps calls outer always_in G fair

    abbrev pub Back : Said D
    Back = Returned x N D L outer (in_cell x N D L fr.result)

    abbrev pub Left : Said D
    Left = Returned x N D L outer (untold x N D L)

    abbrev FolBack : (State → Result) → Walk D.Env → Type 0
    FolBack go s = FolAll p fr x D L ok N w act depth does lowers simple_ok call_ok Names frame inputs keeps calls outer always_in G fair This Back go s

    back_stable : Stab p fr x D L ok N w act depth does lowers simple_ok call_ok Names frame inputs keeps calls outer always_in G fair Back
    back_stable store result clock = returned_stable x N D L outer (in_cell x N D L fr.result) store result clock

    stable : Stab p fr x D L ok N w act depth does lowers simple_ok call_ok Names frame inputs keeps calls outer always_in G fair This
    stable = here_stable p fr x D L ok N w act depth does lowers simple_ok call_ok Names frame inputs keeps calls outer always_in G fair

    -- a body without a result
    pub left_follows : {n : _} (r : Row_of-Stmt n) (k l : ℕ) → AllIn p fr x D L ok N w act depth does lowers simple_ok call_ok Names frame inputs k l r →
        FolAll p fr x D L ok N w act depth does lowers simple_ok call_ok Names frame inputs keeps calls outer always_in G fair This Left (λ st. then_state (run_all p w does act r st) (λ st. Goes st)) (before D x (all_nodes p depth lowers fr k l r) (done D))
    left_follows r k l h =
        all_follow p fr x D L ok N w act depth does lowers simple_ok call_ok Names frame inputs keeps calls outer always_in G fair simples calls_hold r k l h Left (λ store result clock. returned_stable x N D L outer (untold x N D L) store result clock)
        (λ st. Goes st) (done D)
        (done_said x D L G fair Names SeenAt This Left This (λ store result clock e h. record { kept = h.kept; outside = h.outside; is_result = tt; holds = h.holds })) (done_still x D L)

    left_stable : Stab p fr x D L ok N w act depth does lowers simple_ok call_ok Names frame inputs keeps calls outer always_in G fair Left
    left_stable store result clock = returned_stable x N D L outer (untold x N D L) store result clock

    then_goes_all : {n : _} (r : Row_of-Stmt n) (st : State) → then_state (run_all p w does act r st) (λ st. Goes st) ≡ run_all p w does act r st
    then_goes_all r st = then_goes (run_all p w does act r st)

    -- as a block
    pub left_block : {n : _} (r : Row_of-Stmt n) (k l : ℕ) → AllIn p fr x D L ok N w act depth does lowers simple_ok call_ok Names frame inputs k l r →
        Follows x D L G fair Names SeenAt This Left This (λ st. run_all p w does act r st) (piece D x (node.Block (all_nodes p depth lowers fr k l r)))
    left_block r k l h =
        let walk = before D x (all_nodes p depth lowers fr k l r) (done D) in
        subst (λ (s : Piece D.Env). Follows x D L G fair Names SeenAt This Left This (λ st. run_all p w does act r st) s) (sym (block_piece D x (all_nodes p depth lowers fr k l r)))
        (λ e st b. subst (λ (res : Result). ResultOk x D L G fair Names SeenAt Left This ((block D walk).after e) res) (then_goes_all r st)
        (block_follows x D L G fair Names SeenAt This Left This left_stable (λ st. then_state (run_all p w does act r st) (λ st. Goes st)) walk (left_follows r k l h)
        ((all_still p fr x D L ok N w act depth does lowers simple_ok call_ok Names frame inputs keeps calls r k l h (done D) (done_still x D L)).keeps anywhere) e st b))

    -- what the calls outside say doesn't go by the cell of this result
    module _ (stays : (kept : ℕ → ℤ) (z : ℤ) → outer kept → outer (with_cell x N fr.result z kept)) (hidden : N.shown fr.result ≡ false) where
      answer_leaves : (e : D.Env) (st : State) (num : Num) (q : Pos) (a : Expr) → Walks p ok a → IsOfType x D L num fr.result → Good x D L anywhere e → This st.store st.result st.clock e →
          CoversAll x D L G fair Names SeenAt (λ z. AliveAnd (Back st.store z st.clock) ((answer num q a).after e)) ((answer num q a).alarms e) (converted_value w (here_in act st) st.store num q a st.tape)
      unfolding change
      answer_leaves e st num q a h o g s =
          from (converted_value w (here_in act st) st.store num q a st.tape)
          (return_leaves p fr x D L ok N w act.base outer frame inputs always_in st.store st.clock s.kept s.frame s.outside e num q a st.tape g s.holds h o hidden (λ z. stays s.kept z s.outside))
        where
          from : (v : Value ℤ) → Returns p fr x D L ok N w act.base outer frame inputs always_in st.store st.clock s.kept s.frame s.outside (store_at D x (target D x (only fr.result)) (cast D q num (meaning D x (lowered p fr a))).value e)
              ((target D x (only fr.result)).alarms e ++ (cast D q num (meaning D x (lowered p fr a))).alarms e) v →
              CoversAll x D L G fair Names SeenAt (λ z. AliveAnd (Back st.store z st.clock) (store_at D x (target D x (only fr.result)) (cast D q num (meaning D x (lowered p fr a))).value e))
              ((target D x (only fr.result)).alarms e ++ (cast D q num (meaning D x (lowered p fr a))).alarms e) v
          from (Gives z tape) k = k
          from (Stops end) k = k

      return_follows : (num : Num) (q : Pos) (a : Expr) → Walks p ok a → IsOfType x D L num fr.result →
          Fol p fr x D L ok N w act depth does lowers simple_ok call_ok Names frame inputs keeps calls outer always_in G fair This Back (λ st. run p w does act (Stmt.Return q num a) st)
          (piece D x (node.Assign (assign.Value (only fr.result) num q (lowered p fr a))))
      unfolding run
      return_follows num q a h o =
          subst (λ (s : Piece D.Env). Fol p fr x D L ok N w act depth does lowers simple_ok call_ok Names frame inputs keeps calls outer always_in G fair This Back (λ st. run p w does act (Stmt.Return q num a) st) s)
          (sym (assign_piece D x (assign.Value (only fr.result) num q (lowered p fr a))))
          (λ e st b. valued x D L G fair Names SeenAt Back This (λ z. AliveAnd (Back st.store z st.clock) ((answer num q a).after e)) ((answer num q a).alarms e) (converted_value w (here_in act st) st.store num q a st.tape)
          ((changed (answer num q a)).after e) st (λ z st. Goes (record st { result = z })) (answer_leaves e st num q a h o b.good b.holds) b.has.alarms b.inside
          (λ z tape j. on_ok x D L G fair Names SeenAt Back ((answer num q a).after e) (record st { tape = tape; result = z }) j b.inside))

      return_ends : {n : _} (to : Num) (s : Stmt) (rest : Row_of-Stmt n) (k l : ℕ) → IsOfType x D L to fr.result → IsReturn to s → IsEmpty rest →
          FolBack (λ st. run_all p w does act (more_of-Stmt s rest) st) (before D x (all_nodes p depth lowers fr k l (more_of-Stmt s rest)) (done D))
      unfolding nodes run
      return_ends to (Stmt.Return q num a) end_of-Stmt k l o h g =
          let oo : IsOfType x D L num fr.result = subst (λ (m : Num). IsOfType x D L m fr.result) (sym h.1) o in
          followed_follow x D L G fair Names SeenAt This Back Back This back_stable stable (λ st. run p w does act (Stmt.Return q num a) st) (λ st. Goes st) (piece D x (node.Assign (assign.Value (only fr.result) num q (lowered p fr a)))) (done D)
          (return_follows num q a h.0 oo) ((return_still num q a h.0 oo).keeps anywhere) (done_follow x D L G fair Names SeenAt Back This) ((done_still x D L).keeps anywhere)
      return_ends to (Stmt.Return q num a) (more_of-Stmt s rest) k l o h g = absurd g
      return_ends to _ rest k l o h g = absurd h

      -- a body that returns a number
      pub return_body_follows : {n : _} (to : Num) (r : Row_of-Stmt n) (k l : ℕ) → IsOfType x D L to fr.result → ReturnWalks to k l r → FolBack (λ st. run_all p w does act r st) (before D x (all_nodes p depth lowers fr k l r) (done D))
      unfolding nodes ReturnWalks run
      return_body_follows to end_of-Stmt k l o h = absurd h
      return_body_follows to (more_of-Stmt s rest) k l o (inl h) = return_ends to s rest k l o h.0 h.1
      return_body_follows to (more_of-Stmt s rest) k l o (inr h) =
          let k2 = k + cells_in p (body_cells p depth) s in
          let l2 = l + loops_in (body_loops p depth) s in
          let tail = before D x (all_nodes p depth lowers fr k2 l2 rest) (done D) in
          subst (λ (v : Walk D.Env). FolBack (λ st. run_all p w does act (more_of-Stmt s rest) st) v) (sym (before_append D x (nodes p depth lowers fr k l s) (all_nodes p depth lowers fr k2 l2 rest) (done D)))
          ((stmt_follows p fr x D L ok N w act depth does lowers simple_ok call_ok Names frame inputs keeps calls outer always_in G fair simples calls_hold s k l h.0).walk Back back_stable (λ st. run_all p w does act rest st) tail
          (return_body_follows to rest k2 l2 o h.1) ((return_body_still to rest k2 l2 o h.1).keeps anywhere))

      pub return_block : {n : _} (to : Num) (r : Row_of-Stmt n) (k l : ℕ) → IsOfType x D L to fr.result → ReturnWalks to k l r →
          Follows x D L G fair Names SeenAt This Back This (λ st. run_all p w does act r st) (piece D x (node.Block (all_nodes p depth lowers fr k l r)))
      return_block to r k l o h =
          let walk = before D x (all_nodes p depth lowers fr k l r) (done D) in
          subst (λ (s : Piece D.Env). Follows x D L G fair Names SeenAt This Back This (λ st. run_all p w does act r st) s) (sym (block_piece D x (all_nodes p depth lowers fr k l r)))
          (block_follows x D L G fair Names SeenAt This Back This back_stable (λ st. run_all p w does act r st) walk (return_body_follows to r k l o h) ((return_body_still to r k l o h).keeps anywhere))
