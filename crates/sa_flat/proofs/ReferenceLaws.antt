-- Arguments by reference: their parameters stand for the places to which the kept indices lead.
use Rattle.std.proofs.Common.{◌≡◌, ◌⊎◌, ℕ, ◌+◌, ◌*◌, ◌<◌, ◌≤◌, ℤ, Bool, true, false, List, [], ◌∷◌, ◌++◌, refl, sym, ap, subst, ◌∙◌, arith, Option, Some, None, inl, inr}
use Rattle.std.specs.Prelude.{◌==◌, if◌then◌else◌}
use Rattle.std.specs.List.{AllByRecursion}
use Rattle.std.proofs.lemmas.Bool.Decides.{nat_tests}
use Rattle.sa_base.specs.declared.num.Num.{Num}
use Rattle.sa_base.specs.declared.num.Num.TheVariants.{I32}
use Rattle.sa_base.specs.declared.pos.Pos.{Pos}
use Rattle.sa_typed.specs.Layouts.{Layout, layout_of}
use Rattle.sa_typed.specs.Evaluation.{Setting, Value, Gives, Stops, then_value, steps_value, read_place, within}
use Rattle.sa_typed.specs.WellTyped.{type_of, steps_layout}
use Rattle.sa_typed.specs.Executions.{Loop, State, Result, Activation, Bound, with_value, with_store, here_in}
use Rattle.sa_typed.specs.declared.expr.Expr.{Expr, Read', Row_of-Step, end_of-Step, more_of-Step, more_of-Expr, end_of-Expr}
use Rattle.sa_typed.specs.declared.expr.Expr.TheVariants as e
use Rattle.sa_typed.specs.declared.expr.Access.{Access}
use Rattle.sa_typed.specs.declared.expr.Step.{At', Field}
use Rattle.sa_typed.specs.declared.shape.Part.{Part}
use Rattle.sa_typed.specs.declared.stmt.Arg.TheVariants.{Object as ByReference}
use Rattle.sa_typed.specs.declared.program.Param.{Param}
use Rattle.sa_typed.specs.declared.program.Place.{Place}
use Rattle.sa_typed.specs.declared.program.Program.{Program}
use Rattle.sa_ir.specs.declared.frame.Kept.{Kept}
use Rattle.sa_ir.specs.declared.frame.Target.{Target as Stand}
use Rattle.sa_ir.specs.Frames.{Frame as Call}
use Rattle.sa_ir.specs.Places as ir_places
use Rattle.sa_ir.specs.Places.{kept_rows, fields_cells}
use Rattle.sa_ir.specs.Nodes.{kept, read_kept}
use Rattle.sa_flat.specs.Domain.{Domain}
use Rattle.sa_flat.specs.Meanings.{Cells}
use Rattle.sa_flat.specs.Pieces.{Found, Walk}
use Rattle.sa_flat.proofs.Lawful.{Lawful, anywhere}
use Rattle.sa_flat.proofs.KeepLaws.{AreFair, WalkKeeps}
use Rattle.sa_flat.proofs.FollowLaws.{Said}
use Rattle.sa_flat.proofs.NodeRolls.{before}
use Rattle.sa_flat.proofs.FitExpressions.{FrameFits, InputsFit}
use Rattle.sa_flat.proofs.StateLaws.{Naming, with_cell, with_agrees, KeptTo, InFrame}
use Rattle.sa_flat.proofs.LaidLaws.{Laid}
use Rattle.sa_flat.proofs.SimpleLaws.{InputsAlways, ReadWalks, AccessWalks}
use Rattle.sa_flat.proofs.BodyLaws.{any_said, Implies}
use Rattle.sa_flat.proofs.CallLaws.{AllStill, standing, Stage, Goes_on, Stab, SeenAt, on_same, Passing, with_stood, with_stand, Others, RefsKeep, RefsHold}
use Rattle.sa_flat.proofs.RefLaws.{Stepping, Carried, Stays, StepsKept, kept_still, Telling, steps_follow, kept_further, IndexCells, carried_leads}

-- ---- what goes by some kept indices doesn't go by later cells
abbrev pub AllBefore : ℕ → List Kept → Type 0
AllBefore h rs = AllByRecursion (λ r. r.cell < h) rs

module _ (p : Program) (x : Cells) (D : Domain) (L : Lawful x D) (N : Naming x) where
  pub kept_stays : (l : Layout) (rs : List Kept) (c : ℕ) (a : Place) (h d : ℕ) (kept : ℕ → ℤ) (z : ℤ) → AllBefore h rs → h ≤ d → KeptTo x N D L kept l rs c a → KeptTo x N D L (with_cell x N d z kept) l rs c a
  kept_stays l [] c a h d kept z b le k = k
  kept_stays l (r ∷ rs) c a h d kept z b le k =
      (k.0, (k.1.0, k.1.1, sym (with_agrees x N d z kept r.cell (λ is. apart is)) ∙ k.1.2, kept_stays l rs (c + k.1.0 * r.stride) a h d kept z b.1 le k.1.3))
    where
      apart : r.cell ≡ d → ⊥
      apart is = let less = b.0 in omega (arith, le, less, is)

  pub frame_stays : (ok : ℕ → Type 0) (fr : Call) (base : ℕ → Place) (h : ℕ) → ((v : ℕ) → ok v → AllBefore h (fr.base v).rows) → (d : ℕ) → h ≤ d → (kept : ℕ → ℤ) (z : ℤ) → InFrame x N D L p ok fr base kept →
      InFrame x N D L p ok fr base (with_cell x N d z kept)
  frame_stays ok fr base h b d le kept z s v o = kept_stays (layout_of p v) (fr.base v).rows (fr.base v).first (base v) h d kept z (b v o) le (s v o)

module _ (p : Program) (fr : Call) (x : Cells) (D : Domain) (L : Lawful x D) (ok : ℕ → Type 0) (N : Naming x) (w : Setting) (act : Activation) (outer : (ℕ → ℤ) → Type 0)
    (frame : FrameFits p fr x D L ok) (inputs : InputsFit p fr x D L ok) (always_in : InputsAlways p fr x D L ok N w act.base outer) (G : Found D.Env) (fair : AreFair x D L G) (Names : ℕ → Loop → Type 0) where
  -- the indices of an argument are walked, and kept in hidden cells of their types
  unfoldable pub ReadKept : ℕ → Expr → Type 0
  ReadKept h (Read' v n steps num) = StepsKept p fr x D L ok N w act outer frame inputs always_in G fair Names h steps
  ReadKept h _ = ⊥

  -- what a reference asks: its argument leads to what the parameter is made of, and what stands goes by earlier cells alone
  pub record RefWalks (stood : ℕ → Type 0) (tgt : ℕ → Stand) (h : ℕ) (q : Param) (y : Access) : Type 0 where
    pub access : AccessWalks p ok (layout_of p q.var) y
    pub steps : ReadKept h (e.Read y I32)
    pub passed : (v : ℕ) → stood v → AllBefore h (tgt v).rows
    pub caller : (v : ℕ) → ok v → AllBefore h (fr.base v).rows
    pub outside : Stays p fr x D L ok N w act outer frame inputs always_in G fair Names h outer

  index_cells : {n : _} (r : Row_of-Step n) (h : ℕ) → StepsKept p fr x D L ok N w act outer frame inputs always_in G fair Names h r → IndexCells p x D L N h r
  unfolding StepsKept IndexCells
  index_cells end_of-Step h k = tt
  index_cells (more_of-Step (At' q n m (more_of-Expr a end_of-Expr)) rest) h k = ((k.0.1.0.cell, k.0.1.1), index_cells rest (h + 1) k.1)
  index_cells (more_of-Step (Field f) rest) h k = index_cells rest h k

  read_still : (a : Expr) (h : ℕ) → ReadKept h a → AllStill x D L (read_kept p fr h a)
  unfolding ReadKept read_kept
  read_still (Read' v n steps num) h k = kept_still p fr x D L ok N w act outer frame inputs always_in G fair Names steps h k
  read_still _ h k = absurd k

  pub refs_keep : (k : ℕ) → RefsKeep p fr x D L ok N w act outer frame inputs always_in G fair Names k RefWalks
  refs_keep k stood tgt h q y r = read_still (e.Read y I32) h r.steps

  abbrev From : Said D → Said D → (State → Result) → Walk D.Env → Type 0
  From P Q go s = Goes_on p fr x D L ok N w act outer frame inputs always_in G fair Names P Q go s

  abbrev Stood : (ℕ → Type 0) → (ℕ → Stand) → (ℕ → Place) → Said D
  Stood stood tgt base = Stage p fr x D L ok N w act outer frame inputs always_in G fair Names stood tgt base

  abbrev read_passing : (ℕ → Place) → Param → Expr → ((ℕ → Place) → State → Result) → State → Result
  read_passing base q a go st =
      with_value {A = Bound} st (then_value (read_place w (here_in act st) st.store a st.tape) (λ b tape. Gives (record { store = st.store; base = λ v. if v == q.var then b else base v }) tape)) (λ b st. go b.base (with_store st b.store))

  module _ (stood : ℕ → Type 0) (tgt : ℕ → Stand) (base : ℕ → Place) (h : ℕ) (q : Param) where
    -- the parameter names the object to which these parts lead
    abbrev new : ℕ → List Part → ℕ → Place
    new v ps u = if u == q.var then within (act.base v) ps else base u

    abbrev stands_for : Stand → ℕ → Stand
    stands_for t u = if u == q.var then t else tgt u

    steps_pass : {n : _} (v : ℕ) (steps : Row_of-Step n) (go : (ℕ → Place) → State → Result) (st : State) →
        Stepping w act steps (λ ps st. go (λ u. if u == q.var then within (act.base v) ps else base u) st) st ≡
        with_value {A = Bound} st (then_value (then_value (steps_value w (here_in act st) st.store steps st.tape) (λ ps tape. Gives (within (act.base v) ps) tape))
        (λ b tape. Gives (record { store = st.store; base = λ u. if u == q.var then b else base u }) tape)) (λ b st. go b.base (with_store st b.store))
    steps_pass v steps go st = from (steps_value w (here_in act st) st.store steps st.tape)
      where
        from : (r : Value (List Part)) → with_value st r (λ ps st. go (λ u. if u == q.var then within (act.base v) ps else base u) st) ≡
            with_value {A = Bound} st (then_value (then_value r (λ ps tape. Gives (within (act.base v) ps) tape)) (λ b tape. Gives (record { store = st.store; base = λ u. if u == q.var then b else base u }) tape)) (λ b st. go b.base (with_store st b.store))
        from (Gives ps tape) = refl
        from (Stops end) = refl

    -- by the indices that are kept the parameter stands
    leads : {n : _} (v : ℕ) (steps : Row_of-Step n) (kept : ℕ → ℤ) (ps : List Part) → steps_layout (Some (layout_of p v)) steps ≡ Some (layout_of p q.var) → StepsKept p fr x D L ok N w act outer frame inputs always_in G fair Names h steps →
        KeptTo x N D L kept (layout_of p v) (fr.base v).rows (fr.base v).first (act.base v) → Carried kept h steps ps →
        KeptTo x N D L kept (layout_of p q.var) ((fr.base v).rows ++ kept_rows (layout_of p v) h steps) ((fr.base v).first + fields_cells (layout_of p v) steps) (within (act.base v) ps)
    leads v steps kept ps t k s c =
        kept_further p x D L N kept (layout_of p v) (layout_of p q.var) (fr.base v).rows (kept_rows (layout_of p v) h steps) (fr.base v).first (fields_cells (layout_of p v) steps) (act.base v) (within (act.base v) ps) s
        (λ d laid. carried_leads p x D L N steps kept (layout_of p v) (layout_of p q.var) h d (act.base v) ps (index_cells steps h k) t laid c)

    -- with it all that stood
    stands_too : (t : Stand) (b : Place) (kept : ℕ → ℤ) → KeptTo x N D L kept (layout_of p q.var) t.rows t.first b → InFrame x N D L p stood (record { prefix = []; result = 0; base = tgt }) base kept →
        (u : ℕ) → stood u ⊎ (u ≡ q.var) → KeptTo x N D L kept (layout_of p u) (if u == q.var then t else tgt u).rows (if u == q.var then t else tgt u).first (if u == q.var then b else base u)
    stands_too t b kept new old u o =
        elim (u == q.var) as (λ i. (u == q.var) ≡ i → KeptTo x N D L kept (layout_of p u) (if i then t else tgt u).rows (if i then t else tgt u).first (if i then b else base u)) [
          | true ↦ λ i. let is : q.var ≡ u = grind (arith, nat_tests) in subst (λ (u : ℕ). KeptTo x N D L kept (layout_of p u) t.rows t.first b) is new
          | false ↦ λ i. other o i
        ] refl
      where
        other : stood u ⊎ (u ≡ q.var) → (u == q.var) ≡ false → KeptTo x N D L kept (layout_of p u) (tgt u).rows (tgt u).first (base u)
        other (inl s) i = old u s
        other (inr is) i = absurd (differ u q.var i is)
          where
            differ : (v w : ℕ) → (v == w) ≡ false → v ≡ w → ⊥
            differ v w i is = grind (arith, nat_tests)

    others : (b : Place) (u : ℕ) → (u == q.var) ≡ false → (if u == q.var then b else base u) ≡ base u
    others b u e = rw e refl

    read_hold : (a : Expr) (Q : Said D) (go : (ℕ → Place) → State → Result) (rest : Walk D.Env) → ReadWalks p ok (layout_of p q.var) a → ReadKept h a → ((v : ℕ) → stood v → AllBefore h (tgt v).rows) →
        ((v : ℕ) → ok v → AllBefore h (fr.base v).rows) → Stays p fr x D L ok N w act outer frame inputs always_in G fair Names h outer →
        ((after : ℕ → Place) → Others p fr x D L ok N w act outer frame inputs always_in G fair Names base q after → From (Stood (with_stood p fr x D L ok N w act outer frame inputs always_in G fair Names stood q) (λ u. if u == q.var then ir_places.read_target p fr h a else tgt u) after) Q (go after) rest) →
        WalkKeeps x D L anywhere rest → From (Stood stood tgt base) Q (read_passing base q a go) (before D x (read_kept p fr h a) rest)
    unfolding ReadKept read_kept read_place ir_places.read_target
    read_hold (Read' v n steps num) Q go rest r k passed caller outside f keeps =
        let to : Stand = record { first = (fr.base v).first + fields_cells (layout_of p v) steps; rows = (fr.base v).rows ++ kept_rows (layout_of p v) h steps } in
        on_same p fr x D L ok N w act outer frame inputs always_in G fair Names (Stood stood tgt base) Q (Stepping w act steps (λ ps st. go (λ u. if u == q.var then within (act.base v) ps else base u) st)) (read_passing base q (Read' v n steps num) go)
        (before D x (kept p fr h steps) rest) (λ st. steps_pass v steps go st)
        (λ es st g has m i. steps_follow p fr x D L ok N w act outer frame inputs always_in G fair Names stood tgt base h (λ d le kept z s. frame_stays p x D L N stood (record { prefix = []; result = 0; base = tgt }) base h passed d le kept z s)
        (λ d le kept z s. (frame_stays p x D L N ok fr act.base h caller d le kept z s.0, outside d le kept z s.1)) steps h (λ at. Unit {0}) Q (λ ps st. go (λ u. if u == q.var then within (act.base v) ps else base u) st) rest (omega arith) (λ c le kept z s. tt) k
        (λ ps es st g has m i. f (λ u. if u == q.var then within (act.base v) ps else base u) (λ u e. others (within (act.base v) ps) u e) es st g has
        (any_said x D L G fair Names (SeenAt p fr x D L ok N w act outer frame inputs always_in G fair Names)
        (λ e. Telling p fr x D L ok N w act outer frame inputs always_in G fair Names stood tgt base (λ at. Unit {0} × Carried at h steps ps) st.store st.result st.clock e)
        (λ e. Stood (with_stood p fr x D L ok N w act outer frame inputs always_in G fair Names stood q) (λ u. if u == q.var then to else tgt u) (λ u. if u == q.var then within (act.base v) ps else base u) st.store st.result st.clock e) es
        (λ e s. record {
          kept = s.kept;
          frame = λ u o. stands_too to (within (act.base v) ps) s.kept (leads v steps s.kept ps r.1.1 k (s.outside.0.0 v r.0) s.outside.1.1) s.frame u o;
          outside = s.outside.0;
          holds = s.holds;
        }) m) i) keeps es st g has
        (any_said x D L G fair Names (SeenAt p fr x D L ok N w act outer frame inputs always_in G fair Names) (λ e. Stood stood tgt base st.store st.result st.clock e)
        (λ e. Telling p fr x D L ok N w act outer frame inputs always_in G fair Names stood tgt base (λ at. Unit {0}) st.store st.result st.clock e) es
        (λ e s. record { kept = s.kept; frame = s.frame; outside = (s.outside, tt); holds = s.holds }) m) i)
    read_hold _ Q go rest r k passed caller outside f keeps = absurd r

  pub refs_hold : (k : ℕ) → RefsHold p fr x D L ok N w act outer frame inputs always_in G fair Names k RefWalks
  refs_hold k stood tgt base h q y Q go rest r sq f keeps = read_hold stood tgt base h q (e.Read y I32) Q go rest r.access r.steps r.passed r.caller r.outside f keeps
