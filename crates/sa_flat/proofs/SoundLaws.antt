-- The reference analysis against executions: each visit is at a loop that the analysis reaches, what it says of the loop holds
-- there, a first error is among the alarms, and no loop takes more than 32 passes.
use Rattle.std.proofs.Common.{◌≡◌, ℕ, ℤ, List, [], sym, subst, Option, Some, None}
use Rattle.sa_base.specs.declared.pos.Pos.{Pos}
use Rattle.sa_typed.specs.Evaluation.{Setting}
use Rattle.sa_typed.specs.Executions.{Loop, Visit, State, Result, Goes, Breaks, Over, Turn, Again, Leaves, Ended, Activation, over, with_value, with_store, then_state, here_in, simple_value, decided, tested, stepped, turn_of, turns, turn_with, after_body, called, run, run_all, run_group}
use Rattle.sa_typed.specs.Executions as concrete
use Rattle.sa_typed.specs.declared.stmt.Arg.{Arg}
use Rattle.sa_typed.specs.declared.stmt.Destination.{Destination}
use Rattle.sa_typed.specs.declared.stmt.Simple.{Simple}
use Rattle.sa_typed.specs.declared.stmt.Stmt.{Row_of-Stmt}
use Rattle.sa_typed.specs.declared.program.Program.{Program}
use Rattle.sa_ir.specs.declared.node.Node.TheVariants as node
use Rattle.sa_ir.specs.Frames.{Frame as Call}
use Rattle.sa_ir.specs.Nodes.{all_nodes, Bodies}
use Rattle.sa_flat.specs.Domain.{Domain}
use Rattle.sa_flat.specs.Meanings.{Cells}
use Rattle.sa_flat.specs.Pieces as pieces
use Rattle.sa_flat.specs.Pieces.{Found, Piece, Walk, waits, changed, done, followed, block, decision, looped, while_turn, do_turn, known, asserted, breaks}
use Rattle.sa_flat.specs.Nodes.{piece}
use Rattle.sa_flat.proofs.Lawful.{Lawful, anywhere, IfAlive}
use Rattle.sa_flat.proofs.Goods.{Good}
use Rattle.sa_flat.proofs.KeepLaws.{block_moving, AreFair}
use Rattle.sa_flat.proofs.FollowLaws.{Has, AllInside, RunOk}
use Rattle.sa_flat.proofs.NodeRolls.{before, block_piece}
use Rattle.sa_flat.proofs.FitExpressions.{FrameFits, InputsFit}
use Rattle.sa_flat.proofs.StateLaws.{Naming}
use Rattle.sa_flat.proofs.StatementLaws.{SimplesKeep, CallsKeep}
use Rattle.sa_flat.proofs.FollowStatements.{Here, Seen, SimplesHold, CallsHold}
use Rattle.sa_flat.proofs.MainLaws.{MainWalks, AfterHolds, main_moving, main_run}
use Rattle.sa_flat.proofs.SimpleLaws.{InputsAlways}

module _ (p : Program) (fr : Call) (x : Cells) (D : Domain) (L : Lawful x D) (ok : ℕ → Type 0) (N : Naming x) (w : Setting) (act : Activation) (depth : ℕ) (does : concrete.Bodies) (lowers : Bodies)
    (simple_ok : Simple → Type 0) (call_ok : ℕ → ℕ → Pos → ℕ → List Arg → Option Destination → Type 0) (Names : ℕ → Loop → Type 0) (frame : FrameFits p fr x D L ok) (inputs : InputsFit p fr x D L ok)
    (keeps : SimplesKeep p fr x D L ok N w act depth does lowers simple_ok call_ok Names frame inputs) (calls : CallsKeep p fr x D L ok N w act depth does lowers simple_ok call_ok Names frame inputs) (outer : (ℕ → ℤ) → Type 0) (always_in : InputsAlways p fr x D L ok N w act.base outer) where
  -- what the analysis finds in a block of main from an environment that may be dead
  abbrev pub found_from : {n : _} → Row_of-Stmt n → ℕ → ℕ → Option D.Env → Found D.Env
  found_from all k l o = pieces.found_in o (piece D x (node.Block (all_nodes p depth lowers fr k l all))).found

  -- its records are short and under the top
  pub found_fair : {n : _} (all : Row_of-Stmt n) (k l : ℕ) → MainWalks p fr x D L ok N w act depth does lowers simple_ok call_ok Names frame inputs keeps calls k l all → (o : Option D.Env) → IfAlive (Good x D L anywhere) o → AreFair x D L (found_from all k l o)
  found_fair all k l h None g = tt
  found_fair all k l h (Some e) g =
      let ns = all_nodes p depth lowers fr k l all in
      subst (λ (s : Piece D.Env). AreFair x D L (s.found e)) (sym (block_piece D x ns)) ((block_moving x D L (before D x ns (done D)) (main_moving p fr x D L ok N w act depth does lowers simple_ok call_ok Names frame inputs keeps calls all k l h)).fair e g)

  -- a run of main's block from a state that stands in the environment of the beginning. That what is found is fair is given, as
  -- what is asked of calls may go by it
  pub run_ok : {n : _} (all : Row_of-Stmt n) (k l : ℕ) (walks : MainWalks p fr x D L ok N w act depth does lowers simple_ok call_ok Names frame inputs keeps calls k l all) (e : D.Env) (good : Good x D L anywhere e) →
      let G = found_from all k l (Some e) in
      (fair : AreFair x D L (found_from all k l (Some e))) (simples : SimplesHold p fr x D L ok N w act depth does lowers simple_ok call_ok Names frame inputs keeps calls outer always_in G fair) (calls_hold : CallsHold p fr x D L ok N w act depth does lowers simple_ok call_ok Names frame inputs keeps calls outer always_in G fair) (clocks : x.clocks.hi ≡ w.max_clock) →
      AfterHolds p fr x D L ok N w act depth does lowers simple_ok call_ok Names frame inputs keeps calls outer always_in G fair simples calls_hold clocks k l all → (st : State) → st.visits ≡ [] → Here p fr x D L ok N w act depth does lowers simple_ok call_ok Names frame inputs keeps calls outer always_in G fair st.store st.result st.clock e →
      RunOk x D L G fair Names (Seen p fr x D L ok N w act depth does lowers simple_ok call_ok Names frame inputs keeps calls outer always_in G fair) (concrete.ended (run_all p w does act all st))
  run_ok all k l walks e good fair simples calls_hold clocks after st none here =
      let G = found_from all k l (Some e) in
      let ns = all_nodes p depth lowers fr k l all in
      let same : (piece D x (node.Block ns)) ≡ block D (before D x ns (done D)) = block_piece D x ns in
      main_run p fr x D L ok N w act depth does lowers simple_ok call_ok Names frame inputs keeps calls outer always_in G fair simples calls_hold clocks all k l walks after e st
      (record {
        good = good;
        has = subst (λ (s : Piece D.Env). Has G (s.found e)) same (record { alarms = λ a m. m; records = λ r m. m });
        holds = here;
        inside = subst (λ (vs : List Visit). AllInside x D L G fair Names (Seen p fr x D L ok N w act depth does lowers simple_ok call_ok Names frame inputs keeps calls outer always_in G fair) vs) (sym none) tt;
      })
