-- Main: statements, the clock loop with its wait at the end, and a `return` at most.
use Rattle.std.proofs.Common.{suc, ◌≡◌, ℕ, ◌+◌, ◌≤◌, ◌<◌, ℤ, false, List, ◌++◌, refl, arith, Option, Some, None, inl, inr}
use Rattle.std.specs.List.{AllByRecursion}
use Rattle.sa_base.specs.declared.num.Num.{Num}
use Rattle.sa_base.specs.declared.pos.Pos.{Pos}
use Rattle.sa_typed.specs.Evaluation.{Setting}
use Rattle.sa_typed.specs.Executions.{Loop, Activation, bodies_of, run, run_all}
use Rattle.sa_typed.specs.Frames.{cells_in, loops_in, body_cells, body_loops}
use Rattle.sa_typed.specs.TypedPrograms.{IsTypedProgram, IsStatement, Site, calls_in, calls_in_all, IsMainBlock, IsClockLoop, IsAfterClock, IsTurn}
use Rattle.sa_typed.specs.declared.stmt.Arg.{Arg}
use Rattle.sa_typed.specs.declared.stmt.Destination.{Destination}
use Rattle.sa_typed.specs.declared.stmt.Simple.{Simple}
use Rattle.sa_typed.specs.declared.stmt.Stmt.{Stmt, Row_of-Stmt, end_of-Stmt, more_of-Stmt}
use Rattle.sa_typed.specs.declared.program.Program.{Program}
use Rattle.sa_ir.specs.Frames.{Frame as Call}
use Rattle.sa_ir.specs.Nodes.{body_nodes, nodes, all_nodes}
use Rattle.sa_flat.specs.Domain.{Domain}
use Rattle.sa_flat.specs.Meanings.{Cells}
use Rattle.sa_flat.specs.Pieces.{Found, done}
use Rattle.sa_flat.proofs.Lawful.{Lawful, anywhere}
use Rattle.sa_flat.proofs.KeepLaws.{AreFair, MovingWalk, done_moving}
use Rattle.sa_flat.proofs.FollowLaws.{Said, done_follow, FollowsAll}
use Rattle.sa_flat.proofs.NodeRolls.{before}
use Rattle.sa_flat.proofs.StateLaws.{Naming, InFrame, InCall, AtVisit}
use Rattle.sa_flat.proofs.MainLaws.{IsWait, ClockWalks, TurnWalks, MainWalks, AfterHolds}
use Rattle.sa_flat.proofs.HiddenLaws.{Returned, in_cell}
use Rattle.sa_flat.proofs.BodyLaws.{result_said, ReturnWalks, return_body_still, return_body_follows}
use Rattle.sa_flat.proofs.TypedWalks.{all_left, all_right, named}
use Rattle.sa_flat.proofs.Lays.{IsHidden, StmtLays, AllLay, BodyLays}
use Rattle.sa_flat.proofs.Bodies.{InputsIn, InputsNow, Stands, BodiesHold, CopiesHold}
use Rattle.sa_flat.proofs.BodyWalks.{SimpleOk, CallsOk, stmt_law, simples_keep, calls_keep, simples_hold, calls_hold, is_return, empty_row, no_return}
use Rattle.sa_typed.specs.TypedPrograms as typing
use Rattle.sa_typed.specs.declared.stmt.LoopKind.TheVariants as kind

wait_is : (t : Stmt) → typing.IsWait t → IsWait t
wait_is Stmt.Wait h = tt
wait_is _ h = absurd h

module _ (p : Program) (typed : IsTypedProgram p) (x : Cells) (D : Domain) (L : Lawful x D) (N : Naming x) (w : Setting) (Names : ℕ → Loop → Type 0) (G : Found D.Env) (fair : AreFair x D L G) (inputs : InputsIn p typed x D L N w Names)
    (always : InputsNow p typed x D L N w Names) (copies : CopiesHold p typed x D L N w Names G fair inputs always) (f : ℕ) (fr : Call) (act : Activation) (outer : (ℕ → ℤ) → Type 0) (first next : ℕ) (s : Stands p typed x D L N w Names f fr act outer first next)
    (depth : ℕ) (ih : BodiesHold p typed x D L N w Names G fair inputs always depth) (deep : typed.ranks.0 p.entry ≤ depth) where
  abbrev Ok : Simple → Type 0
  Ok = SimpleOk p typed x D L N w Names G fair inputs always copies f fr act outer first next s depth ih

  abbrev Calls : ℕ → ℕ → Pos → ℕ → List Arg → Option Destination → Type 0
  Calls = CallsOk p typed x D L N w Names G fair inputs always copies f fr act outer first next s depth ih

  abbrev LayAll : {n : _} → ℕ → ℕ → Row_of-Stmt n → Type 0
  LayAll k l r = AllLay p x D L N Names depth (BodyLays p x D L N Names depth) act.path k l r

  abbrev Low : List Site → Type 0
  Low ss = AllByRecursion (λ s. typed.ranks.0 s.func < typed.ranks.0 p.entry) ss

  abbrev pub Turns : {n : _} → ℕ → ℕ → Row_of-Stmt n → Type 0
  Turns k l r = TurnWalks p fr x D L (named p f) N w act depth (bodies_of p w (suc depth)) (body_nodes p depth) (SimpleOk p typed x D L N w Names G fair inputs always copies f fr act outer first next s depth ih) (CallsOk p typed x D L N w Names G fair inputs always copies f fr act outer first next s depth ih) Names s.fits inputs (simples_keep p typed x D L N w Names G fair inputs always copies f fr act outer first next s depth ih) (calls_keep p typed x D L N w Names G fair inputs always copies f fr act outer first next s depth ih) k l r

  abbrev pub Mains : {n : _} → ℕ → ℕ → Row_of-Stmt n → Type 0
  Mains k l r = MainWalks p fr x D L (named p f) N w act depth (bodies_of p w (suc depth)) (body_nodes p depth) (SimpleOk p typed x D L N w Names G fair inputs always copies f fr act outer first next s depth ih) (CallsOk p typed x D L N w Names G fair inputs always copies f fr act outer first next s depth ih) Names s.fits inputs (simples_keep p typed x D L N w Names G fair inputs always copies f fr act outer first next s depth ih) (calls_keep p typed x D L N w Names G fair inputs always copies f fr act outer first next s depth ih) k l r

  more : (k n : ℕ) → next ≤ k → next ≤ k + n
  more k n le = omega (arith, le)

  low_left : (ss ts : List Site) → Low (ss ++ ts) → Low ss
  low_left ss ts h = all_left (λ s. typed.ranks.0 s.func < typed.ranks.0 p.entry) ss ts h

  low_right : (ss ts : List Site) → Low (ss ++ ts) → Low ts
  low_right ss ts h = all_right (λ s. typed.ranks.0 s.func < typed.ranks.0 p.entry) ss ts h

  turn_law : {n : _} (r : Row_of-Stmt n) (k l : ℕ) → next ≤ k → IsTurn p f r → LayAll k l r → Low (calls_in_all r) → Turns k l r
  unfolding IsTurn TurnWalks StmtLays calls_in
  turn_law end_of-Stmt k l le h y c = absurd h
  turn_law (more_of-Stmt t rest) k l le (inl h) y c = inl (wait_is t h.0, empty_row rest h.1)
  turn_law (more_of-Stmt t rest) k l le (inr h) y c =
      inr (
        stmt_law p typed x D L N w Names G fair inputs always copies f fr act outer first next s depth ih (typed.ranks.0 p.entry) (omega arith) deep t false k l le h.0 y.0 (low_left (calls_in t) (calls_in_all rest) c),
        turn_law rest (k + cells_in p (body_cells p depth) t) (l + loops_in (body_loops p depth) t) (more k (cells_in p (body_cells p depth) t) le) h.1 y.1 (low_right (calls_in t) (calls_in_all rest) c),
      )

  clock_law : (t : Stmt) (k l : ℕ) → next ≤ k → IsClockLoop p f t → StmtLays p x D L N Names depth (BodyLays p x D L N Names depth) act.path k l t → Low (calls_in t) → ClockWalks p fr x D L (named p f) N w act depth (bodies_of p w (suc depth)) (body_nodes p depth) (SimpleOk p typed x D L N w Names G fair inputs always copies f fr act outer first next s depth ih) (CallsOk p typed x D L N w Names G fair inputs always copies f fr act outer first next s depth ih) Names s.fits inputs (simples_keep p typed x D L N w Names G fair inputs always copies f fr act outer first next s depth ih) (calls_keep p typed x D L N w Names G fair inputs always copies f fr act outer first next s depth ih) k l t
  unfolding StmtLays calls_in
  clock_law (Stmt.Loop' q kind.Clock None n (more_of-Stmt (Stmt.Block' m all) end_of-Stmt) None) k l le h y c = (y.0, turn_law all k (l + 1) le h y.1 c)
  clock_law _ k l le h y c = absurd h

  -- ---- what stands behind the clock loop
  abbrev Result_hidden : Option Num → Type 0
  Result_hidden o = (num : Num) → o ≡ Some num → IsHidden x D L N num fr.result × (first ≤ fr.result)

  last : {n : _} (to : Num) (t : Stmt) (rest : Row_of-Stmt n) (k l : ℕ) → typing.IsReturn p f (Some to) t × typing.IsEmpty rest → ReturnWalks p fr x D L (named p f) N w act depth (bodies_of p w (suc depth)) (body_nodes p depth) (SimpleOk p typed x D L N w Names G fair inputs always copies f fr act outer first next s depth ih) (CallsOk p typed x D L N w Names G fair inputs always copies f fr act outer first next s depth ih) Names s.fits inputs (simples_keep p typed x D L N w Names G fair inputs always copies f fr act outer first next s depth ih) (calls_keep p typed x D L N w Names G fair inputs always copies f fr act outer first next s depth ih) to k l (more_of-Stmt t rest)
  unfolding ReturnWalks
  last to t rest k l h = inl (is_return p typed x D L N w Names G fair inputs always copies f fr act outer first next s depth ih (typed.ranks.0 p.entry) (omega arith) deep to t h.0, empty_row rest h.1)

  after_moving : {n : _} (r : Row_of-Stmt n) (o : Option Num) (k l : ℕ) → Result_hidden o → IsAfterClock p f o r → MovingWalk x D L (before D x (all_nodes p depth (body_nodes p depth) fr k l r) (done D))
  unfolding nodes
  after_moving end_of-Stmt o k l hid h = done_moving x D L
  after_moving (more_of-Stmt t rest) None k l hid h = absurd (no_return p f t h.0)
  after_moving (more_of-Stmt t rest) (Some to) k l hid h =
      let b = return_body_still p fr x D L (named p f) N w act depth (bodies_of p w (suc depth)) (body_nodes p depth) (SimpleOk p typed x D L N w Names G fair inputs always copies f fr act outer first next s depth ih) (CallsOk p typed x D L N w Names G fair inputs always copies f fr act outer first next s depth ih) Names s.fits inputs (simples_keep p typed x D L N w Names G fair inputs always copies f fr act outer first next s depth ih) (calls_keep p typed x D L N w Names G fair inputs always copies f fr act outer first next s depth ih) to (more_of-Stmt t rest) k l (hid to refl).0.0 (last to t rest k l h) in
      record { keeps = b.keeps anywhere; fair = b.fair }

  pub main_law : {n : _} (r : Row_of-Stmt n) (o : Option Num) (k l : ℕ) → next ≤ k → Result_hidden o → IsMainBlock p f o r → LayAll k l r → Low (calls_in_all r) → Mains k l r
  unfolding IsMainBlock MainWalks StmtLays calls_in
  main_law end_of-Stmt o k l le hid h y c = absurd h
  main_law (more_of-Stmt t rest) o k l le hid (inl h) y c =
      inl (
        clock_law t k l le h.0 y.0 (low_left (calls_in t) (calls_in_all rest) c),
        after_moving rest o (k + cells_in p (body_cells p depth) t) (l + loops_in (body_loops p depth) t) hid h.1,
      )
  main_law (more_of-Stmt t rest) o k l le hid (inr h) y c =
      inr (
        stmt_law p typed x D L N w Names G fair inputs always copies f fr act outer first next s depth ih (typed.ranks.0 p.entry) (omega arith) deep t false k l le h.0 y.0 (low_left (calls_in t) (calls_in_all rest) c),
        main_law rest o (k + cells_in p (body_cells p depth) t) (l + loops_in (body_loops p depth) t) (more k (cells_in p (body_cells p depth) t) le) hid h.1 y.1 (low_right (calls_in t) (calls_in_all rest) c),
      )

  -- ---- and what it does
  module _ (stands : (kept : ℕ → ℤ) → outer kept → InFrame x N D L p (named p f) fr act.base kept) (clocks : x.clocks.hi ≡ w.max_clock) where
    abbrev This : Said D
    This = InCall x N D L p (named p f) outer fr act.base

    abbrev Follow : {n : _} → ℕ → ℕ → Row_of-Stmt n → Type 0
    Follow k l r = FollowsAll x D L G fair Names (AtVisit x N D L) This This This (λ st. run_all p w (bodies_of p w (suc depth)) act r st) (before D x (all_nodes p depth (body_nodes p depth) fr k l r) (done D))

    after_follows : {n : _} (r : Row_of-Stmt n) (o : Option Num) (k l : ℕ) → Result_hidden o → IsAfterClock p f o r → Follow k l r
    unfolding nodes run
    after_follows end_of-Stmt o k l hid h = done_follow x D L G fair Names (AtVisit x N D L) This This
    after_follows (more_of-Stmt t rest) None k l hid h = absurd (no_return p f t h.0)
    after_follows (more_of-Stmt t rest) (Some to) k l hid h =
        let r = hid to refl in
        let b = return_body_follows p fr x D L (named p f) N w act depth (bodies_of p w (suc depth)) (body_nodes p depth) (SimpleOk p typed x D L N w Names G fair inputs always copies f fr act outer first next s depth ih) (CallsOk p typed x D L N w Names G fair inputs always copies f fr act outer first next s depth ih) Names s.fits inputs (simples_keep p typed x D L N w Names G fair inputs always copies f fr act outer first next s depth ih) (calls_keep p typed x D L N w Names G fair inputs always copies f fr act outer first next s depth ih) outer always G fair (simples_hold p typed x D L N w Names G fair inputs always copies f fr act outer first next s depth ih) (calls_hold p typed x D L N w Names G fair inputs always copies f fr act outer first next s depth ih) (λ kept z o. s.outside fr.result r.1 kept z o) r.0.1 to (more_of-Stmt t rest) k l r.0.0 (last to t rest k l h) in
        (λ es st u g m i. result_said x D L G fair Names (AtVisit x N D L) (Returned x N D L outer (in_cell x N D L fr.result)) This This This ((before D x (all_nodes p depth (body_nodes p depth) fr k l (more_of-Stmt t rest)) (done D)).after es)
        (run_all p w (bodies_of p w (suc depth)) act (more_of-Stmt t rest) st) (λ store result clock e h. record { kept = h.kept; frame = stands h.kept h.outside; outside = h.outside; holds = h.holds }) (λ store result clock e h. h) (b es st u g m i))

    no_clock : {A : Type 0} (t : Stmt) (k l : ℕ) → IsStatement p f false t → ClockWalks p fr x D L (named p f) N w act depth (bodies_of p w (suc depth)) (body_nodes p depth) (SimpleOk p typed x D L N w Names G fair inputs always copies f fr act outer first next s depth ih) (CallsOk p typed x D L N w Names G fair inputs always copies f fr act outer first next s depth ih) Names s.fits inputs (simples_keep p typed x D L N w Names G fair inputs always copies f fr act outer first next s depth ih) (calls_keep p typed x D L N w Names G fair inputs always copies f fr act outer first next s depth ih) k l t → A
    unfolding IsStatement
    no_clock (Stmt.Loop' q kind.Clock None n (more_of-Stmt (Stmt.Block' m all) end_of-Stmt) None) k l h c = absurd h.0
    no_clock _ k l h c = absurd c

    return_no_clock : {A : Type 0} (t : Stmt) (o : Option Num) (k l : ℕ) → typing.IsReturn p f o t → ClockWalks p fr x D L (named p f) N w act depth (bodies_of p w (suc depth)) (body_nodes p depth) (SimpleOk p typed x D L N w Names G fair inputs always copies f fr act outer first next s depth ih) (CallsOk p typed x D L N w Names G fair inputs always copies f fr act outer first next s depth ih) Names s.fits inputs (simples_keep p typed x D L N w Names G fair inputs always copies f fr act outer first next s depth ih) (calls_keep p typed x D L N w Names G fair inputs always copies f fr act outer first next s depth ih) k l t → A
    return_no_clock (Stmt.Return q num a) o k l h c = absurd c
    return_no_clock _ o k l h c = absurd h

    abbrev Afters : {n : _} → ℕ → ℕ → Row_of-Stmt n → Type 0
    Afters k l r = AfterHolds p fr x D L (named p f) N w act depth (bodies_of p w (suc depth)) (body_nodes p depth) (SimpleOk p typed x D L N w Names G fair inputs always copies f fr act outer first next s depth ih) (CallsOk p typed x D L N w Names G fair inputs always copies f fr act outer first next s depth ih) Names s.fits inputs (simples_keep p typed x D L N w Names G fair inputs always copies f fr act outer first next s depth ih) (calls_keep p typed x D L N w Names G fair inputs always copies f fr act outer first next s depth ih) outer always G fair (simples_hold p typed x D L N w Names G fair inputs always copies f fr act outer first next s depth ih) (calls_hold p typed x D L N w Names G fair inputs always copies f fr act outer first next s depth ih) clocks k l r

    behind_clock : {n : _} (r : Row_of-Stmt n) (o : Option Num) (k l : ℕ) → IsAfterClock p f o r → Afters k l r
    unfolding AfterHolds
    behind_clock end_of-Stmt o k l h = tt
    behind_clock (more_of-Stmt t end_of-Stmt) o k l h = ((λ c. return_no_clock t o k l h.0 c), tt)
    behind_clock (more_of-Stmt t (more_of-Stmt u rest)) o k l h = absurd h.1

    pub main_holds : {n : _} (r : Row_of-Stmt n) (o : Option Num) (k l : ℕ) → Result_hidden o → IsMainBlock p f o r → Afters k l r
    unfolding IsMainBlock AfterHolds
    main_holds end_of-Stmt o k l hid h = tt
    main_holds (more_of-Stmt t rest) o k l hid (inl h) =
        let k2 = k + cells_in p (body_cells p depth) t in
        let l2 = l + loops_in (body_loops p depth) t in
        ((λ c. after_follows rest o k2 l2 hid h.1), behind_clock rest o k2 l2 h.1)
    main_holds (more_of-Stmt t rest) o k l hid (inr h) =
        ((λ c. no_clock t k l h.0 c), main_holds rest o (k + cells_in p (body_cells p depth) t) (l + loops_in (body_loops p depth) t) hid h.1)
