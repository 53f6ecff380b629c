-- Calls: arguments from left to right, the body as a block, and the result to its destination.
use Rattle.std.proofs.Common.{append-nil, ◌≡◌, ◌⊎◌, ℕ, ◌+◌, ℤ, Bool, true, false, List, [], ◌∷◌, ◌++◌, refl, sym, ap, subst, arith, ◌∙◌, Option, None, Some, inl, inr}
use Rattle.std.specs.Prelude.{◌==◌, ◌||◌, if◌then◌else◌, slice_get}
use Rattle.sa_base.specs.declared.num.Num.{Num}
use Rattle.sa_base.specs.declared.num.Num.TheVariants.{I32}
use Rattle.sa_base.specs.declared.pos.Pos.{Pos}
use Rattle.sa_typed.specs.Arithmetic.{converted}
use Rattle.sa_typed.specs.Layouts.{leaf, layout_of, num_in}
use Rattle.sa_typed.specs.Evaluation.{Setting, Store, Value, Gives, Stops, then_value, given, place_of, eval, access_place, within}
use Rattle.sa_typed.specs.WellTyped.{type_of}
use Rattle.sa_typed.specs.Executions.{Loop, Visit, State, Result, Goes, Breaks, Over, Activation, Bound, over, with_value, with_store, then_state, here_in, strong_update, converted_value, all_bound}
use Rattle.sa_typed.specs.Executions as concrete
use Rattle.sa_typed.specs.Frames.{access_indices, all_kept, frame_cells, result_of}
use Rattle.sa_typed.specs.declared.expr.Expr.{Expr}
use Rattle.sa_typed.specs.declared.expr.Expr.TheVariants as e
use Rattle.sa_typed.specs.declared.expr.Access.{Access}
use Rattle.sa_typed.specs.declared.stmt.Arg.{Arg}
use Rattle.sa_typed.specs.declared.stmt.Arg.TheVariants.{Value as ByValue, Object as ByReference}
use Rattle.sa_typed.specs.declared.stmt.Destination.{Destination}
use Rattle.sa_typed.specs.declared.program.Param.{Param}
use Rattle.sa_typed.specs.declared.program.Place.{Place}
use Rattle.sa_typed.specs.declared.program.Program.{Program}
use Rattle.sa_ir.specs.declared.expr.IrExpr.TheVariants as ir
use Rattle.sa_ir.specs.declared.frame.Target.{Target as Stand}
use Rattle.sa_ir.specs.declared.node.IrAssign.TheVariants as assign
use Rattle.sa_ir.specs.declared.node.Node.{Node}
use Rattle.sa_ir.specs.declared.node.Node.TheVariants as node
use Rattle.sa_ir.specs.Frames.{Frame as Call, own_target}
use Rattle.sa_ir.specs.Places.{lowered, only, place_at}
use Rattle.sa_ir.specs.Places as ir_places
use Rattle.sa_ir.specs.Nodes as ir_nodes
use Rattle.sa_flat.specs.Domain.{Domain}
use Rattle.sa_flat.specs.Meanings.{Cells, cast}
use Rattle.sa_flat.specs.Expressions.{meaning, target}
use Rattle.sa_flat.specs.Assignments.{Change, assignment, change, store_at}
use Rattle.sa_flat.specs.Pieces.{Found, Piece, Walk, changed, followed}
use Rattle.sa_flat.specs.Nodes.{piece}
use Rattle.sa_flat.proofs.Lawful.{Lawful, anywhere, AliveAnd}
use Rattle.sa_flat.proofs.Goods.{Good, Holds}
use Rattle.sa_flat.proofs.Operands.{covered_right}
use Rattle.sa_flat.proofs.MeaningLaws.{cast_fit}
use Rattle.sa_flat.proofs.CoverLaws.{Covers, Means}
use Rattle.sa_flat.proofs.UnaryLaws.{cast_means}
use Rattle.sa_flat.proofs.KeepLaws.{AreFair, ChangeKeeps, WalkKeeps, Still, StillWalk, MovingWalk, changed_still, still_moves, followed_still, followed_moving, followed_keeps}
use Rattle.sa_flat.proofs.ChangeLaws.{assignment_keeps}
use Rattle.sa_flat.proofs.FollowLaws.{Said, AlwaysStable, CoversAll, ResultOk, Follows, FollowsAll, valued, on_ok, followed_follow}
use Rattle.sa_flat.proofs.NodeRolls.{before, before_append, assign_piece, block_piece}
use Rattle.sa_flat.proofs.WalkPremises.{Walks}
use Rattle.sa_flat.proofs.FitExpressions.{FrameFits, InputsFit, fit}
use Rattle.sa_flat.proofs.StateLaws.{Naming, has, point, point_has, InFrame, InCall, in_call_stable, AtVisit}
use Rattle.sa_flat.proofs.TargetLaws.{IsOfType}
use Rattle.sa_flat.proofs.HiddenLaws.{Returned, returned_stable, in_cell, untold, only_read_fit, deliver_leaves}
use Rattle.sa_flat.proofs.StatementLaws.{then_state_then}
use Rattle.sa_flat.proofs.BodyLaws.{any_said, Implies, result_said}
use Rattle.sa_flat.proofs.SimpleLaws.{InputsAlways, AccessWalks, Leaves, access_leads, VarWalks, variable_leads, value_fit, expression_means, variable_places, assigned}

-- whether an argument makes the variable stand for another object
unfoldable pub is_bound : ℕ → List Param → List Arg → Bool
is_bound v [] args = false
is_bound v (q ∷ params) [] = false
is_bound v (q ∷ params) (ByValue at a ∷ args) = is_bound v params args
is_bound v (q ∷ params) (ByReference y ∷ args) = v == q.var || is_bound v params args

-- ---- arguments one by one
module _ (p : Program) (w : Setting) (act : Activation) where
  -- one argument, and what goes on with the objects that variables name then
  abbrev pub Passing : (ℕ → Place) → Param → Arg → ((ℕ → Place) → State → Result) → State → Result
  Passing base q a go st = with_value st (concrete.bound p w (here_in act st) q a (record { store = st.store; base = base }) st.tape) (λ b st. go b.base (with_store st b.store))

  abbrev pub AllPassing : (ℕ → Place) → List Param → List Arg → ((ℕ → Place) → State → Result) → State → Result
  AllPassing base params args go st = with_value st (all_bound p w (here_in act st) params args (record { store = st.store; base = base }) st.tape) (λ b st. go b.base (with_store st b.store))

  pub pass_split : (base : ℕ → Place) (q : Param) (params : List Param) (a : Arg) (args : List Arg) (go : (ℕ → Place) → State → Result) (st : State) →
      Passing base q a (λ base st. AllPassing base params args go st) st ≡ AllPassing base (q ∷ params) (a ∷ args) go st
  unfolding all_bound
  pass_split base q params a args go st = first (concrete.bound p w (here_in act st) q a (record { store = st.store; base = base }) st.tape)
    where
      rest : (b : Bound) (tape : List ℤ) (v : Value Bound) → with_value (record st { tape = tape; store = b.store }) v (λ b st. go b.base (with_store st b.store)) ≡ with_value st v (λ b st. go b.base (with_store st b.store))
      rest b tape (Gives c u) = refl
      rest b tape (Stops e) = refl

      first : (v : Value Bound) → with_value st v (λ b st. AllPassing b.base params args go (with_store st b.store)) ≡
          with_value st (then_value v (λ b tape. all_bound p w (here_in act st) params args b tape)) (λ b st. go b.base (with_store st b.store))
      first (Gives b tape) = rest b tape (all_bound p w (here_in act st) params args b tape)
      first (Stops e) = refl

  pub pass_none : (base : ℕ → Place) (args : List Arg) (go : (ℕ → Place) → State → Result) (st : State) → go base st ≡ AllPassing base [] args go st
  unfolding all_bound
  pass_none base args go st = refl

  pub pass_rest : (base : ℕ → Place) (q : Param) (params : List Param) (go : (ℕ → Place) → State → Result) (st : State) → go base st ≡ AllPassing base (q ∷ params) [] go st
  unfolding all_bound
  pass_rest base q params go st = refl

  -- an argument by value changes the store at its parameter
  abbrev pub value_passed : Place → Num → Pos → Expr → State → Result
  value_passed b num at a st = with_value st (converted_value w (here_in act st) st.store num at a st.tape) (λ z st. Goes (with_store st (strong_update b z st.store)))

  pub pass_value : (base : ℕ → Place) (q : Param) (at : Pos) (a : Expr) (go : (ℕ → Place) → State → Result) (st : State) →
      then_state (value_passed (base q.var) (num_in (layout_of p q.var)) at a st) (go base) ≡ Passing base q (ByValue at a) go st
  pass_value base q at a go st = from (converted_value w (here_in act st) st.store (num_in (layout_of p q.var)) at a st.tape)
    where
      from : (v : Value ℤ) → then_state (with_value st v (λ z st. Goes (with_store st (strong_update (base q.var) z st.store)))) (go base) ≡
          with_value {A = Bound} st (then_value v (λ z tape. Gives (record { store = strong_update (base q.var) z st.store; base = base }) tape)) (λ b st. go b.base (with_store st b.store))
      from (Gives z tape) = refl
      from (Stops e) = refl

within_none : (a : Place) → within a [] ≡ a
within_none a = ap (λ (ps : _). record { path = a.path; var = a.var; parts = ps }) (append-nil a.parts)

-- ---- nodes one after another
module _ (x : Cells) (D : Domain) (L : Lawful x D) where
  abbrev pub AllStill : List Node → Type 0
  AllStill [] = Unit {0}
  AllStill (n ∷ ns) = Still x D L (piece D x n) × AllStill ns

  pub both_still : (ms ns : List Node) → AllStill ms → AllStill ns → AllStill (ms ++ ns)
  both_still [] ns h k = k
  both_still (m ∷ ms) ns h k = (h.0, both_still ms ns h.1 k)

  pub nodes_still : (ns : List Node) (rest : Walk D.Env) → AllStill ns → StillWalk x D L rest → StillWalk x D L (before D x ns rest)
  nodes_still [] rest h k = k
  nodes_still (n ∷ ns) rest h k = followed_still x D L (piece D x n) (before D x ns rest) h.0 (nodes_still ns rest h.1 k)

  pub nodes_moving : (ns : List Node) (rest : Walk D.Env) → AllStill ns → MovingWalk x D L rest → MovingWalk x D L (before D x ns rest)
  nodes_moving [] rest h k = k
  nodes_moving (n ∷ ns) rest h k = followed_moving x D L (piece D x n) (before D x ns rest) (still_moves x D L (piece D x n) h.0) (nodes_moving ns rest h.1 k)

  pub nodes_keep : (ns : List Node) (rest : Walk D.Env) → AllStill ns → WalkKeeps x D L anywhere rest → WalkKeeps x D L anywhere (before D x ns rest)
  nodes_keep [] rest h k = k
  nodes_keep (n ∷ ns) rest h k = followed_keeps x D L anywhere (piece D x n) (before D x ns rest) (h.0.keeps anywhere) (nodes_keep ns rest h.1 k)

module _ (p : Program) (fr : Call) (x : Cells) (D : Domain) (L : Lawful x D) (ok : ℕ → Type 0) (N : Naming x) (w : Setting) (act : Activation) (outer : (ℕ → ℤ) → Type 0)
    (frame : FrameFits p fr x D L ok) (inputs : InputsFit p fr x D L ok) (always_in : InputsAlways p fr x D L ok N w act.base outer) (G : Found D.Env) (fair : AreFair x D L G) (Names : ℕ → Loop → Type 0) where
  -- what is said in the call that calls, and what the called one carries of it
  abbrev pub Caller : Said D
  Caller = InCall x N D L p ok outer fr act.base

  abbrev pub SeenAt : Visit → D.Env → Type 0
  SeenAt = AtVisit x N D L

  abbrev pub around : (ℕ → ℤ) → Type 0
  around kept = InFrame x N D L p ok fr act.base kept × outer kept

  -- while arguments are passed, those variables stand that have been passed
  abbrev pub standing : (ℕ → Stand) → Call
  standing tgt = record { prefix = []; result = 0; base = tgt }

  abbrev pub Stage : (ℕ → Type 0) → (ℕ → Stand) → (ℕ → Place) → Said D
  Stage stood tgt base = InCall x N D L p stood around (standing tgt) base

  abbrev pub Goes_on : Said D → Said D → (State → Result) → Walk D.Env → Type 0
  Goes_on P Q go s = FollowsAll x D L G fair Names SeenAt P Q Caller go s

  abbrev pub Stab : Said D → Type 0
  Stab Q = AlwaysStable x D L G fair Names SeenAt Q

  caller_stable : Stab Caller
  caller_stable store result clock = in_call_stable x N D L p ok outer fr act.base store result clock

  stage_stable : (stood : ℕ → Type 0) (tgt : ℕ → Stand) (base : ℕ → Place) → Stab (Stage stood tgt base)
  stage_stable stood tgt base store result clock = in_call_stable x N D L p stood around (standing tgt) base store result clock

  pub on_same : (P Q : Said D) (go next : State → Result) (s : Walk D.Env) → ((st : State) → go st ≡ next st) → Goes_on P Q go s → Goes_on P Q next s
  on_same P Q go next s e h es st u g at i = subst (λ (r : Result). ResultOk x D L G fair Names SeenAt Q Caller (s.after es) r) (e st) (h es st u g at i)

  -- ---- an argument by value
  -- its parameter has the layout of a number, and stands for cells of its own
  abbrev pub ValueWalks : (ℕ → Type 0) → (ℕ → Stand) → ℕ → Param → Expr → Type 0
  ValueWalks stood tgt k q a = ((num : Num) × VarWalks p (standing tgt) x D L stood num q.var) × (Walks p ok a × (tgt q.var ≡ own_target p k q.var))

  module _ (stood : ℕ → Type 0) (tgt : ℕ → Stand) (base : ℕ → Place) (fits : FrameFits p (standing tgt) x D L stood) where
    abbrev param_change : ℕ → Num → Pos → Expr → Change D.Env
    param_change v num at a = assignment D x (target D x (place_at (tgt v))) (cast D at num (meaning D x (lowered p fr a)))

    param_keeps : (v : ℕ) (num : Num) (at : Pos) (a : Expr) → VarWalks p (standing tgt) x D L stood num v → Walks p ok a → ChangeKeeps x D L (param_change v num at a)
    param_keeps v num at a h k =
        assignment_keeps x D L num (target D x (place_at (tgt v))) _ (variable_leads p (standing tgt) x D L stood v num fits h) (value_fit p fr x D L ok frame inputs num at a k)

    param_leaves : (v : ℕ) (num : Num) (at : Pos) (a : Expr) (store : Store) (result clock : ℤ) (e : D.Env) (tape : List ℤ) → VarWalks p (standing tgt) x D L stood num v → Walks p ok a → Good x D L anywhere e →
        Stage stood tgt base store result clock e →
        CoversAll x D L G fair Names SeenAt (λ z. AliveAnd (Stage stood tgt base (strong_update (base v) z store) result clock) ((param_change v num at a).after e)) ((param_change v num at a).alarms e)
        (converted_value w (record { base = act.base; clock = clock }) store num at a tape)
    param_leaves v num at a store result clock e tape h k g s = from (converted_value w (record { base = act.base; clock = clock }) store num at a tape) (means anywhere e tape g s.holds)
      where
        means : Means x D L (has x N store s.kept) (point x N store s.kept) (point_has x N store s.kept) clock (cast D at num (meaning D x (lowered p fr a)))
            (λ tape. converted_value w (record { base = act.base; clock = clock }) store num at a tape)
        means = cast_means x D L (has x N store s.kept) (point x N store s.kept) (point_has x N store s.kept) clock at (type_of a) num (meaning D x (lowered p fr a)) (λ tape. eval w (record { base = act.base; clock = clock }) store a tape)
            (fit p fr x D L ok frame inputs a k) (expression_means p fr x D L ok N w act.base outer frame inputs always_in store clock s.kept s.outside.0 s.outside.1 a k)

        from : (r : Value ℤ) → Covers x D L (has x N store s.kept) (point x N store s.kept) (point_has x N store s.kept) clock (cast D at num (meaning D x (lowered p fr a))) e r →
            CoversAll x D L G fair Names SeenAt (λ z. AliveAnd (Stage stood tgt base (strong_update (base v) z store) result clock) ((param_change v num at a).after e)) ((param_change v num at a).alarms e) r
        from (Gives z u) c =
            let there = variable_places p (standing tgt) x D L stood N w base around fits inputs always_in store clock s.kept s.frame s.outside v num h anywhere e tape g s.holds in
            subst (λ (b : Place). AliveAnd (Stage stood tgt base (strong_update b z store) result clock) ((param_change v num at a).after e)) (within_none (base v))
            (assigned p (standing tgt) x D L stood N w base around fits inputs always_in store clock s.kept s.frame s.outside anywhere result num e (target D x (place_at (tgt v))) (cast D at num (meaning D x (lowered p fr a)))
            there.0 (place_of (record { base = base; clock = clock }) v []) z g s.holds (variable_leads p (standing tgt) x D L stood v num fits h) (value_fit p fr x D L ok frame inputs num at a k) there.1 there.2 c.0)
        from (Stops end) c = covered_right ((target D x (place_at (tgt v))).alarms e) ((cast D at num (meaning D x (lowered p fr a))).alarms e) end c

    same_change : (k : ℕ) (q : Param) (at : Pos) (a : Expr) (h : ValueWalks stood tgt k q a) → param_change q.var (num_in (layout_of p q.var)) at a ≡ change D x (assign.Value (place_at (own_target p k q.var)) (num_in (layout_of p q.var)) at (lowered p fr a))
    unfolding change
    same_change k q at a h = ap (λ (t : Stand). assignment D x (target D x (place_at t)) (cast D at (num_in (layout_of p q.var)) (meaning D x (lowered p fr a)))) h.1.1

    own_walks : (k : ℕ) (q : Param) (a : Expr) → ValueWalks stood tgt k q a → VarWalks p (standing tgt) x D L stood (num_in (layout_of p q.var)) q.var
    own_walks k q a h = subst (λ (m : Num). VarWalks p (standing tgt) x D L stood m q.var) (sym (ap num_in h.0.1.1)) h.0.1

    pub value_still : (k : ℕ) (q : Param) (at : Pos) (a : Expr) → ValueWalks stood tgt k q a → Still x D L (piece D x (node.Assign (assign.Value (place_at (own_target p k q.var)) (num_in (layout_of p q.var)) at (lowered p fr a))))
    value_still k q at a h =
        subst (λ (s : Piece D.Env). Still x D L s) (ap (λ (c : Change D.Env). changed c) (same_change k q at a h) ∙ sym (assign_piece D x (assign.Value (place_at (own_target p k q.var)) (num_in (layout_of p q.var)) at (lowered p fr a))))
        (changed_still x D L (param_change q.var (num_in (layout_of p q.var)) at a) (param_keeps q.var (num_in (layout_of p q.var)) at a (own_walks k q a h) h.1.0))

    pub value_follows : (k : ℕ) (q : Param) (at : Pos) (a : Expr) (Q : Said D) (go : (ℕ → Place) → State → Result) (rest : Walk D.Env) → ValueWalks stood tgt k q a → Stab Q → Goes_on (Stage stood tgt base) Q (go base) rest → WalkKeeps x D L anywhere rest →
        Goes_on (Stage stood tgt base) Q (Passing p w act base q (ByValue at a) go) (before D x (node.Assign (assign.Value (place_at (own_target p k q.var)) (num_in (layout_of p q.var)) at (lowered p fr a)) ∷ []) rest)
    value_follows k q at a Q go rest h sq f kept =
        on_same (Stage stood tgt base) Q (λ st. then_state (value_passed p w act (base q.var) (num_in (layout_of p q.var)) at a st) (go base)) (Passing p w act base q (ByValue at a) go)
        (before D x (node.Assign (assign.Value (place_at (own_target p k q.var)) (num_in (layout_of p q.var)) at (lowered p fr a)) ∷ []) rest) (λ st. pass_value p w act base q at a go st)
        (followed_follow x D L G fair Names SeenAt (Stage stood tgt base) (Stage stood tgt base) Q Caller (stage_stable stood tgt base) caller_stable (λ st. value_passed p w act (base q.var) (num_in (layout_of p q.var)) at a st) (go base)
        (piece D x (node.Assign (assign.Value (place_at (own_target p k q.var)) (num_in (layout_of p q.var)) at (lowered p fr a)))) rest
        (subst (λ (s : Piece D.Env). Follows x D L G fair Names SeenAt (Stage stood tgt base) (Stage stood tgt base) Caller (λ st. value_passed p w act (base q.var) (num_in (layout_of p q.var)) at a st) s)
        (ap (λ (c : Change D.Env). changed c) (same_change k q at a h) ∙ sym (assign_piece D x (assign.Value (place_at (own_target p k q.var)) (num_in (layout_of p q.var)) at (lowered p fr a))))
        (λ e st b. valued x D L G fair Names SeenAt (Stage stood tgt base) Caller (λ z. AliveAnd (Stage stood tgt base (strong_update (base q.var) z st.store) st.result st.clock) ((param_change q.var (num_in (layout_of p q.var)) at a).after e))
        ((param_change q.var (num_in (layout_of p q.var)) at a).alarms e) (converted_value w (here_in act st) st.store (num_in (layout_of p q.var)) at a st.tape)
        ((changed (param_change q.var (num_in (layout_of p q.var)) at a)).after e) st (λ z st. Goes (with_store st (strong_update (base q.var) z st.store)))
        (param_leaves q.var (num_in (layout_of p q.var)) at a st.store st.result st.clock e st.tape (own_walks k q a h) h.1.0 b.good b.holds) b.has.alarms b.inside
        (λ z tape j. on_ok x D L G fair Names SeenAt (Stage stood tgt base) ((param_change q.var (num_in (layout_of p q.var)) at a).after e) (record st { tape = tape; store = strong_update (base q.var) z st.store }) j b.inside)))
        ((value_still k q at a h).keeps anywhere) f kept)

  -- ---- all arguments
  -- with a reference its parameter stands too
  abbrev pub with_stood : (ℕ → Type 0) → Param → ℕ → Type 0
  with_stood stood q v = stood v ⊎ (v ≡ q.var)

  abbrev pub with_stand : (ℕ → Stand) → ℕ → Param → Access → ℕ → Stand
  with_stand tgt h q y v = if v == q.var then ir_places.target p fr h y else tgt v

  unfoldable pub end_stood : (ℕ → Type 0) → List Param → List Arg → ℕ → Type 0
  end_stood stood [] args = stood
  end_stood stood (q ∷ params) [] = stood
  end_stood stood (q ∷ params) (ByValue at a ∷ args) = end_stood stood params args
  end_stood stood (q ∷ params) (ByReference y ∷ args) = end_stood (with_stood stood q) params args

  -- the objects that variables name are those from before, but for parameters that are references
  abbrev pub Unbound : (ℕ → Place) → List Param → List Arg → (ℕ → Place) → Type 0
  Unbound base params args after = (v : ℕ) → is_bound v params args ≡ false → after v ≡ base v

  abbrev pub Others : (ℕ → Place) → Param → (ℕ → Place) → Type 0
  Others base q after = (v : ℕ) → (v == q.var) ≡ false → after v ≡ base v

  not_first : (a b : Bool) → (a || b) ≡ false → a ≡ false
  not_first true b e = cc
  not_first false b e = refl

  not_second : (a b : Bool) → (a || b) ≡ false → b ≡ false
  not_second true b e = cc
  not_second false b e = e

  after_value : (base after : ℕ → Place) (q : Param) (params : List Param) (at : Pos) (a : Expr) (args : List Arg) → Unbound base params args after → Unbound base (q ∷ params) (ByValue at a ∷ args) after
  unfolding is_bound
  after_value base after q params at a args u v e = u v e

  after_reference : (base between after : ℕ → Place) (q : Param) (params : List Param) (y : Access) (args : List Arg) → Others base q between → Unbound between params args after → Unbound base (q ∷ params) (ByReference y ∷ args) after
  unfolding is_bound
  after_reference base between after q params y args o u v e = u v (not_second (v == q.var) (is_bound v params args) e) ∙ o v (not_first (v == q.var) (is_bound v params args) e)

  module _ (k : ℕ) (ref_ok : (ℕ → Type 0) → (ℕ → Stand) → ℕ → Param → Access → Type 0) where
    unfoldable pub ArgsWalk : (ℕ → Type 0) → (ℕ → Stand) → ℕ → List Param → List Arg → Type 0
    ArgsWalk stood tgt h [] args = Unit {0}
    ArgsWalk stood tgt h (q ∷ params) [] = Unit {0}
    ArgsWalk stood tgt h (q ∷ params) (ByValue at a ∷ args) = (FrameFits p (standing tgt) x D L stood × ValueWalks stood tgt k q a) × ArgsWalk stood tgt h params args
    ArgsWalk stood tgt h (q ∷ params) (ByReference y ∷ args) = ref_ok stood tgt h q y × ArgsWalk (with_stood stood q) (with_stand tgt h q y) (h + access_indices y) params args

    -- ---- laws from outside: an argument by reference
    abbrev pub RefsKeep : Type 1
    RefsKeep = (stood : ℕ → Type 0) (tgt : ℕ → Stand) (h : ℕ) (q : Param) (y : Access) → ref_ok stood tgt h q y → AllStill x D L (ir_nodes.read_kept p fr h (e.Read y I32))

    abbrev pub RefsHold : Type 1
    RefsHold = (stood : ℕ → Type 0) (tgt : ℕ → Stand) (base : ℕ → Place) (h : ℕ) (q : Param) (y : Access) (Q : Said D) (go : (ℕ → Place) → State → Result) (rest : Walk D.Env) → ref_ok stood tgt h q y → Stab Q →
        ((after : ℕ → Place) → Others base q after → Goes_on (Stage (with_stood stood q) (with_stand tgt h q y) after) Q (go after) rest) → WalkKeeps x D L anywhere rest →
        Goes_on (Stage stood tgt base) Q (Passing p w act base q (ByReference y) go) (before D x (ir_nodes.read_kept p fr h (e.Read y I32)) rest)

    module _ (refs_keep : RefsKeep) (refs_hold : RefsHold) where
      pub args_still : (params : List Param) (args : List Arg) (stood : ℕ → Type 0) (tgt : ℕ → Stand) (h : ℕ) → ArgsWalk stood tgt h params args → AllStill x D L (ir_nodes.all_passed p fr k h params args)
      unfolding ArgsWalk ir_nodes.all_passed
      args_still [] args stood tgt h a = tt
      args_still (q ∷ params) [] stood tgt h a = tt
      args_still (q ∷ params) (ByValue at v ∷ args) stood tgt h a =
          let same : h + 0 ≡ h = omega arith in
          (value_still stood tgt act.base a.0.0 k q at v a.0.1, subst (λ (h : ℕ). AllStill x D L (ir_nodes.all_passed p fr k h params args)) (sym same) (args_still params args stood tgt h a.1))
      args_still (q ∷ params) (ByReference y ∷ args) stood tgt h a =
          both_still x D L (ir_nodes.read_kept p fr h (e.Read y I32)) (ir_nodes.all_passed p fr k (h + access_indices y) params args) (refs_keep stood tgt h q y a.0)
          (args_still params args (with_stood stood q) (with_stand tgt h q y) (h + access_indices y) a.1)

      pub args_follow : (params : List Param) (args : List Arg) (stood : ℕ → Type 0) (tgt : ℕ → Stand) (base : ℕ → Place) (h : ℕ) (Q : Said D) (go : (ℕ → Place) → State → Result) (rest : Walk D.Env) → ArgsWalk stood tgt h params args → Stab Q →
          ((after : ℕ → Place) → Unbound base params args after → Goes_on (Stage (end_stood stood params args) (ir_nodes.bound p fr h params args tgt) after) Q (go after) rest) → WalkKeeps x D L anywhere rest →
          Goes_on (Stage stood tgt base) Q (AllPassing p w act base params args go) (before D x (ir_nodes.all_passed p fr k h params args) rest)
      unfolding ArgsWalk end_stood ir_nodes.all_passed ir_nodes.bound
      args_follow [] args stood tgt base h Q go rest a sq f kept = on_same (Stage stood tgt base) Q (go base) (AllPassing p w act base [] args go) rest (λ st. pass_none p w act base args go st) (f base (λ v e. refl))
      args_follow (q ∷ params) [] stood tgt base h Q go rest a sq f kept = on_same (Stage stood tgt base) Q (go base) (AllPassing p w act base (q ∷ params) [] go) rest (λ st. pass_rest p w act base q params go st) (f base (λ v e. refl))
      args_follow (q ∷ params) (ByValue at v ∷ args) stood tgt base h Q go rest a sq f kept =
          let same : h + 0 ≡ h = omega arith in
          let n = node.Assign (assign.Value (place_at (own_target p k q.var)) (num_in (layout_of p q.var)) at (lowered p fr v)) in
          subst (λ (h : ℕ). Goes_on (Stage stood tgt base) Q (AllPassing p w act base (q ∷ params) (ByValue at v ∷ args) go) (followed D (piece D x n) (before D x (ir_nodes.all_passed p fr k h params args) rest))) (sym same)
          (on_same (Stage stood tgt base) Q (Passing p w act base q (ByValue at v) (λ base st. AllPassing p w act base params args go st)) (AllPassing p w act base (q ∷ params) (ByValue at v ∷ args) go)
          (followed D (piece D x n) (before D x (ir_nodes.all_passed p fr k h params args) rest)) (λ st. pass_split p w act base q params (ByValue at v) args go st)
          (value_follows stood tgt base a.0.0 k q at v Q (λ base st. AllPassing p w act base params args go st) (before D x (ir_nodes.all_passed p fr k h params args) rest) a.0.1 sq
          (args_follow params args stood tgt base h Q go rest a.1 sq (λ after u. f after (after_value base after q params at v args u)) kept) (nodes_keep x D L (ir_nodes.all_passed p fr k h params args) rest (args_still params args stood tgt h a.1) kept)))
      args_follow (q ∷ params) (ByReference y ∷ args) stood tgt base h Q go rest a sq f kept =
          let ns = ir_nodes.all_passed p fr k (h + access_indices y) params args in
          let tail = before D x ns rest in
          subst (λ (s : Walk D.Env). Goes_on (Stage stood tgt base) Q (AllPassing p w act base (q ∷ params) (ByReference y ∷ args) go) s) (sym (before_append D x (ir_nodes.read_kept p fr h (e.Read y I32)) ns rest))
          (on_same (Stage stood tgt base) Q (Passing p w act base q (ByReference y) (λ base st. AllPassing p w act base params args go st)) (AllPassing p w act base (q ∷ params) (ByReference y ∷ args) go)
          (before D x (ir_nodes.read_kept p fr h (e.Read y I32)) tail) (λ st. pass_split p w act base q params (ByReference y) args go st)
          (refs_hold stood tgt base h q y Q (λ base st. AllPassing p w act base params args go st) tail a.0 sq
          (λ between o. args_follow params args (with_stood stood q) (with_stand tgt h q y) between (h + access_indices y) Q go rest a.1 sq (λ after u. f after (after_reference base between after q params y args o u)) kept)
          (nodes_keep x D L ns rest (args_still params args (with_stood stood q) (with_stand tgt h q y) (h + access_indices y) a.1) kept)))

  -- ---- the result
  abbrev pub told_of : ℕ → Option Num → (ℕ → ℤ) → ℤ → Type 0
  told_of c None = untold x N D L
  told_of c (Some num) = in_cell x N D L c

  abbrev pub After : ℕ → Option Num → Said D
  After c o = Returned x N D L around (told_of c o)

  after_stable : (c : ℕ) (o : Option Num) → Stab (After c o)
  after_stable c o store result clock = returned_stable x N D L around (told_of c o) store result clock

  abbrev pub DestWalks : ℕ → Option Num → Option Destination → Type 0
  DestWalks c o None = Unit {0}
  DestWalks c None (Some d) = ⊥
  DestWalks c (Some num) (Some d) = AccessWalks p ok (leaf d.num) d.place × (IsOfType x D L num c × (N.shown c ≡ false))

  abbrev destined : ℕ → Num → Destination → Change D.Env
  destined c num d = assignment D x (target D x (ir_places.place p fr d.place)) (cast D d.pos d.num (meaning D x (ir.Read (only c) num)))

  destined_piece : (c : ℕ) (num : Num) (d : Destination) → changed (assignment D x (target D x (ir_places.place p fr d.place)) (cast D d.pos d.num (meaning D x (ir.Read (only c) num)))) ≡
      piece D x (node.Assign (assign.Value (ir_places.place p fr d.place) d.num d.pos (ir.Read (only c) num)))
  unfolding change
  destined_piece c num d = sym (assign_piece D x (assign.Value (ir_places.place p fr d.place) d.num d.pos (ir.Read (only c) num)))

  destined_still : (c : ℕ) (num : Num) (d : Destination) → DestWalks c (Some num) (Some d) → Still x D L (piece D x (node.Assign (assign.Value (ir_places.place p fr d.place) d.num d.pos (ir.Read (only c) num))))
  destined_still c num d h =
      subst (λ (s : Piece D.Env). Still x D L s) (destined_piece c num d)
      (changed_still x D L (destined c num d) (assignment_keeps x D L d.num (target D x (ir_places.place p fr d.place)) _ (access_leads p fr x D L ok d.place d.num frame h.0)
      (cast_fit x D L d.pos num d.num (meaning D x (ir.Read (only c) num)) (only_read_fit x N D L c num h.1.0))))

  pub dest_still : (c : ℕ) (o : Option Num) (dest : Option Destination) → DestWalks c o dest → AllStill x D L (ir_nodes.delivered p fr c o dest)
  dest_still c None None h = tt
  dest_still c (Some num) None h = tt
  dest_still c None (Some d) h = absurd h
  dest_still c (Some num) (Some d) h = (destined_still c num d h, tt)

  from_after : (c : ℕ) (o : Option Num) → Implies x D L G fair Names SeenAt (After c o) Caller
  from_after c o store result clock e h = record { kept = h.kept; frame = h.outside.0; outside = h.outside.1; holds = h.holds }

  pub unused : (c : ℕ) (o : Option Num) (Q : Said D) (go : State → Result) (rest : Walk D.Env) → Goes_on Caller Q go rest → Goes_on (After c o) Q go rest
  unused c o Q go rest f es st u g h i =
      f es st u g (any_said x D L G fair Names SeenAt (λ e. After c o st.store st.result st.clock e) (λ e. Caller st.store st.result st.clock e) es (λ e. from_after c o st.store st.result st.clock e) h) i

  dest_leaves : (c : ℕ) (num : Num) (d : Destination) (e : D.Env) (st : State) → DestWalks c (Some num) (Some d) → Good x D L anywhere e → After c (Some num) st.store st.result st.clock e →
      CoversAll x D L G fair Names SeenAt (λ store. AliveAnd (Caller store st.result st.clock) ((destined c num d).after e)) ((destined c num d).alarms e)
      (then_value (access_place w (here_in act st) st.store d.place st.tape) (λ a tape. then_value (given d.pos (converted d.num st.result) tape) (λ z tape. Gives (strong_update a z st.store) tape)))
  dest_leaves c num d e st h g s =
      from (then_value (access_place w (here_in act st) st.store d.place st.tape) (λ a tape. then_value (given d.pos (converted d.num st.result) tape) (λ z tape. Gives (strong_update a z st.store) tape)))
      (deliver_leaves p fr x D L ok N w act.base outer frame inputs always_in st.store st.clock s.kept s.outside.0 s.outside.1 c st.result e num d.num d.pos d.place st.tape g s.holds h.0 h.1.0 h.1.1 s.is_result)
    where
      from : (v : Value Store) → Leaves p fr x D L ok N w act.base outer frame inputs always_in st.store st.clock s.kept s.outside.0 s.outside.1 st.result ((destined c num d).after e) ((destined c num d).alarms e) v →
          CoversAll x D L G fair Names SeenAt (λ store. AliveAnd (Caller store st.result st.clock) ((destined c num d).after e)) ((destined c num d).alarms e) v
      from (Gives store tape) k = k
      from (Stops end) k = k

  pub dest_follows : (c : ℕ) (o : Option Num) (dest : Option Destination) (Q : Said D) (go : State → Result) (rest : Walk D.Env) → DestWalks c o dest → Stab Q → Goes_on Caller Q go rest → WalkKeeps x D L anywhere rest →
      Goes_on (After c o) Q (λ st. then_state (concrete.delivered w act dest st) go) (before D x (ir_nodes.delivered p fr c o dest) rest)
  dest_follows c None None Q go rest h sq f kept = unused c None Q go rest f
  dest_follows c (Some num) None Q go rest h sq f kept = unused c (Some num) Q go rest f
  dest_follows c None (Some d) Q go rest h sq f kept = absurd h
  dest_follows c (Some num) (Some d) Q go rest h sq f kept =
      followed_follow x D L G fair Names SeenAt (After c (Some num)) Caller Q Caller caller_stable caller_stable (λ st. concrete.delivered w act (Some d) st) go
      (piece D x (node.Assign (assign.Value (ir_places.place p fr d.place) d.num d.pos (ir.Read (only c) num)))) rest
      (subst (λ (s : Piece D.Env). Follows x D L G fair Names SeenAt (After c (Some num)) Caller Caller (λ st. concrete.delivered w act (Some d) st) s) (destined_piece c num d)
      (λ e st b. valued x D L G fair Names SeenAt Caller Caller (λ store. AliveAnd (Caller store st.result st.clock) ((destined c num d).after e)) ((destined c num d).alarms e)
      (then_value (access_place w (here_in act st) st.store d.place st.tape) (λ a tape. then_value (given d.pos (converted d.num st.result) tape) (λ z tape. Gives (strong_update a z st.store) tape)))
      ((changed (destined c num d)).after e) st (λ store st. Goes (with_store st store)) (dest_leaves c num d e st h b.good b.holds) b.has.alarms b.inside
      (λ store tape j. on_ok x D L G fair Names SeenAt Caller ((destined c num d).after e) (record st { tape = tape; store = store }) j b.inside)))
      ((destined_still c num d h).keeps anywhere) f kept

  -- ---- a call
  module _ (does : concrete.Bodies) (lowers : ir_nodes.Bodies) (k l : ℕ) (pos : Pos) (f : ℕ) (args : List Arg) (dest : Option Destination) (stood : ℕ → Type 0) (okay : ℕ → Type 0)
      (ref_ok : (ℕ → Type 0) → (ℕ → Stand) → ℕ → Param → Access → Type 0) where
    abbrev pub callee : Call
    callee = ir_nodes.called_frame p fr k pos f args

    abbrev pub params : List Param
    params = concrete.params_of (slice_get p.funcs f)

    abbrev pub result_num : Option Num
    result_num = result_of (slice_get p.funcs f)

    abbrev pub result_cell : ℕ
    result_cell = ir_nodes.kept_from p f k + all_kept args

    abbrev pub inside : (ℕ → Place) → Activation
    inside base = record { path = act.path ++ pos ∷ []; base = base }

    abbrev pub Within_call : (ℕ → Place) → Said D
    Within_call base = InCall x N D L p okay around (ir_nodes.called_frame p fr k pos f args) base

    abbrev pub body_node : Node
    body_node = node.Block (lowers f (ir_nodes.called_frame p fr k pos f args) (k + frame_cells p f args) l)

    -- what a call owes: its arguments are walked, what is passed stands where the body begins, the result may go to its destination, and the body follows
    pub record CallWalks : Type 0 where
      pub arguments : ArgsWalk k ref_ok stood (own_target p k) (ir_nodes.kept_from p f k) (concrete.params_of (slice_get p.funcs f)) args
      pub enters : (kept : ℕ → ℤ) → around kept → InFrame x N D L p stood (standing (own_target p k)) (concrete.own_place p (act.path ++ pos ∷ [])) kept
      pub stands : (v : ℕ) → okay v → end_stood stood (concrete.params_of (slice_get p.funcs f)) args v
      pub destination : DestWalks (ir_nodes.kept_from p f k + all_kept args) (result_of (slice_get p.funcs f)) dest
      pub still : Still x D L (piece D x (node.Block (lowers f (ir_nodes.called_frame p fr k pos f args) (k + frame_cells p f args) l)))
      pub body : (base : ℕ → Place) → Unbound (concrete.own_place p (act.path ++ pos ∷ [])) (concrete.params_of (slice_get p.funcs f)) args base → Follows x D L G fair Names SeenAt (Within_call base) (After (ir_nodes.kept_from p f k + all_kept args) (result_of (slice_get p.funcs f))) (Within_call base)
          (λ st. does f (record { path = act.path ++ pos ∷ []; base = base }) st) (piece D x (node.Block (lowers f (ir_nodes.called_frame p fr k pos f args) (k + frame_cells p f args) l)))

    within_stage : (base : ℕ → Place) → CallWalks → Implies x D L G fair Names SeenAt (Stage (end_stood stood params args) (ir_nodes.bound p fr (ir_nodes.kept_from p f k) params args (own_target p k)) base) (Within_call base)
    unfolding ir_nodes.called_frame
    within_stage base h store result clock e s = record { kept = s.kept; frame = λ v o. s.frame v (h.stands v o); outside = s.outside; holds = s.holds }

    leaves_call : (base : ℕ → Place) → Implies x D L G fair Names SeenAt (Within_call base) Caller
    leaves_call base store result clock e s = record { kept = s.kept; frame = s.outside.0; outside = s.outside.1; holds = s.holds }

    enters_call : CallWalks → Implies x D L G fair Names SeenAt Caller (Stage stood (own_target p k) (concrete.own_place p (act.path ++ pos ∷ [])))
    enters_call h store result clock e s = record { kept = s.kept; frame = h.enters s.kept (s.frame, s.outside); outside = (s.frame, s.outside); holds = s.holds }

    -- what goes on when arguments are passed
    abbrev goes_in : (State → Result) → (ℕ → Place) → State → Result
    goes_in go base st = then_state (then_state (does f (record { path = act.path ++ pos ∷ []; base = base }) st) (λ st. concrete.delivered w act dest st)) go

    call_split : (go : State → Result) (st : State) → AllPassing p w act (concrete.own_place p (act.path ++ pos ∷ [])) params args (goes_in go) st ≡ then_state (concrete.called p w does act pos f args dest st) go
    call_split go st = from (concrete.entered p w act pos f args st)
      where
        from : (v : Value Bound) → with_value st v (λ b st. then_state (then_state (does f (record { path = act.path ++ pos ∷ []; base = b.base }) (with_store st b.store)) (λ st. concrete.delivered w act dest st)) go) ≡
            then_state (with_value st v (λ b st. then_state (does f (record { path = act.path ++ pos ∷ []; base = b.base }) (with_store st b.store)) (λ st. concrete.delivered w act dest st))) go
        from (Gives b tape) = refl
        from (Stops e) = refl

    module _ (refs_keep : RefsKeep k ref_ok) (refs_hold : RefsHold k ref_ok) where
      pub call_still : CallWalks → AllStill x D L (ir_nodes.called p lowers fr k l pos f args dest)
      unfolding ir_nodes.called
      call_still h =
          both_still x D L (ir_nodes.all_passed p fr k (ir_nodes.kept_from p f k) params args) (body_node ∷ ir_nodes.delivered p fr result_cell result_num dest)
          (args_still k ref_ok refs_keep refs_hold params args stood (own_target p k) (ir_nodes.kept_from p f k) h.arguments) (h.still, dest_still result_cell result_num dest h.destination)

      body_follows : (Q : Said D) (go : State → Result) (rest : Walk D.Env) → CallWalks → Stab Q → Goes_on Caller Q go rest → WalkKeeps x D L anywhere rest → (base : ℕ → Place) → Unbound (concrete.own_place p (act.path ++ pos ∷ [])) params args base →
          Goes_on (Stage (end_stood stood params args) (ir_nodes.bound p fr (ir_nodes.kept_from p f k) params args (own_target p k)) base) Q (goes_in go base)
          (followed D (piece D x body_node) (before D x (ir_nodes.delivered p fr result_cell result_num dest) rest))
      body_follows Q go rest h sq g kept base u =
          let S = Stage (end_stood stood params args) (ir_nodes.bound p fr (ir_nodes.kept_from p f k) params args (own_target p k)) base in
          on_same S Q (λ st. then_state (does f (record { path = act.path ++ pos ∷ []; base = base }) st) (λ st. then_state (concrete.delivered w act dest st) go)) (goes_in go base)
          (followed D (piece D x body_node) (before D x (ir_nodes.delivered p fr result_cell result_num dest) rest))
          (λ st. sym (then_state_then (does f (record { path = act.path ++ pos ∷ []; base = base }) st) (λ st. concrete.delivered w act dest st) go))
          (followed_follow x D L G fair Names SeenAt S (After result_cell result_num) Q Caller (after_stable result_cell result_num) caller_stable
          (λ st. does f (record { path = act.path ++ pos ∷ []; base = base }) st) (λ st. then_state (concrete.delivered w act dest st) go) (piece D x body_node)
          (before D x (ir_nodes.delivered p fr result_cell result_num dest) rest)
          (λ e st b. result_said x D L G fair Names SeenAt (After result_cell result_num) (After result_cell result_num) (Within_call base) Caller ((piece D x body_node).after e)
          (does f (record { path = act.path ++ pos ∷ []; base = base }) st) (λ store result clock i s. s) (leaves_call base)
          (h.body base u e st (record { good = b.good; has = b.has; holds = within_stage base h st.store st.result st.clock e b.holds; inside = b.inside })))
          (h.still.keeps anywhere) (dest_follows result_cell result_num dest Q go rest h.destination sq g kept)
          (nodes_keep x D L (ir_nodes.delivered p fr result_cell result_num dest) rest (dest_still result_cell result_num dest h.destination) kept))

      pub call_follows : (Q : Said D) (go : State → Result) (rest : Walk D.Env) → CallWalks → Stab Q → Goes_on Caller Q go rest → WalkKeeps x D L anywhere rest →
          Goes_on Caller Q (λ st. then_state (concrete.called p w does act pos f args dest st) go) (before D x (ir_nodes.called p lowers fr k l pos f args dest) rest)
      unfolding ir_nodes.called
      call_follows Q go rest h sq g kept =
          let ns = body_node ∷ ir_nodes.delivered p fr result_cell result_num dest in
          let base = concrete.own_place p (act.path ++ pos ∷ []) in
          let ms = ir_nodes.all_passed p fr k (ir_nodes.kept_from p f k) params args in
          subst (λ (s : Walk D.Env). Goes_on Caller Q (λ st. then_state (concrete.called p w does act pos f args dest st) go) s) (sym (before_append D x ms ns rest))
          (on_same Caller Q (AllPassing p w act base params args (goes_in go)) (λ st. then_state (concrete.called p w does act pos f args dest st) go) (before D x ms (before D x ns rest)) (λ st. call_split go st)
          (λ es st u has m i. args_follow k ref_ok refs_keep refs_hold params args stood (own_target p k) base (ir_nodes.kept_from p f k) Q (goes_in go) (before D x ns rest) h.arguments sq
          (λ base u. body_follows Q go rest h sq g kept base u)
          (nodes_keep x D L ns rest (h.still, dest_still result_cell result_num dest h.destination) kept) es st u has
          (any_said x D L G fair Names SeenAt (λ e. Caller st.store st.result st.clock e) (λ e. Stage stood (own_target p k) base st.store st.result st.clock e) es (λ e. enters_call h st.store st.result st.clock e) m) i))
