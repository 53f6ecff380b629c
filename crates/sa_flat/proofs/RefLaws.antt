-- Arguments by reference: hidden cells keep their indices, one after another.
use Rattle.std.proofs.Common.{append-nil, ap, ◌≡◌, ◌≢◌, ℕ, ◌+◌, ◌*◌, ◌<◌, ◌≤◌, ℤ, pos, false, List, [], ◌∷◌, ◌++◌, refl, sym, subst, ◌∙◌, arith, Some}
use Rattle.sa_base.specs.declared.num.Num.{Num}
use Rattle.sa_base.specs.declared.pos.Pos.{Pos}
use Rattle.sa_typed.specs.Layouts.{Layout, Layouts, row, fields, nth_field, or_nothing}
use Rattle.sa_typed.specs.Evaluation.{Setting, Store, Value, Gives, Stops, then_value, checked_index, eval, steps_value, within}
use Rattle.sa_typed.specs.WellTyped.{type_of, steps_layout}
use Rattle.sa_typed.specs.Executions.{Loop, Visit, State, Result, Activation, with_value, here_in}
use Rattle.sa_typed.specs.declared.expr.Expr.{Expr, Row_of-Step, end_of-Step, more_of-Step, more_of-Expr, end_of-Expr}
use Rattle.sa_typed.specs.declared.expr.Step.{Step, At', Field}
use Rattle.sa_typed.specs.declared.shape.Part.{Part}
use Rattle.sa_typed.specs.declared.shape.Part.TheVariants as part
use Rattle.sa_typed.specs.declared.program.Place.{Place}
use Rattle.sa_typed.specs.declared.program.Program.{Program}
use Rattle.sa_ir.specs.declared.frame.Kept.{Kept}
use Rattle.sa_ir.specs.declared.frame.Target.{Target as Stand}
use Rattle.sa_ir.specs.declared.node.IrAssign.TheVariants as assign
use Rattle.sa_ir.specs.declared.node.Node.TheVariants as node
use Rattle.sa_ir.specs.Frames.{Frame as Call}
use Rattle.sa_ir.specs.Places.{lowered, stride_of, cells_to, fields_cells, kept_rows}
use Rattle.sa_ir.specs.Sizes.{cells_before}
use Rattle.sa_ir.specs.Nodes.{kept}
use Rattle.sa_flat.specs.Domain.{Domain}
use Rattle.sa_flat.specs.Meanings.{Cells, in_alive, index_alarms}
use Rattle.sa_flat.specs.Expressions.{meaning}
use Rattle.sa_flat.specs.Assignments.{Change, change, keep}
use Rattle.sa_flat.specs.Pieces.{Found, Piece, Walk, changed, followed}
use Rattle.sa_flat.specs.Nodes.{piece}
use Rattle.sa_flat.proofs.Lawful.{Lawful, anywhere, AliveAnd}
use Rattle.sa_flat.proofs.Goods.{alive_is, Good, Holds}
use Rattle.sa_flat.proofs.KeepLaws.{AreFair, ChangeKeeps, WalkKeeps, Still, changed_still}
use Rattle.sa_flat.proofs.ChangeLaws.{keep_good}
use Rattle.sa_flat.proofs.TargetLaws.{IsOfType}
use Rattle.sa_flat.proofs.FollowLaws.{Said, AlwaysStable, CoversAll, FollowsAll}
use Rattle.sa_flat.proofs.NodeRolls.{before, assign_piece}
use Rattle.sa_flat.proofs.WalkPremises.{Walks}
use Rattle.sa_flat.proofs.FitExpressions.{FrameFits, InputsFit, fit}
use Rattle.sa_flat.proofs.StateLaws.{Naming, has, with_cell, with_same, with_agrees, KeptTo, InFrame, InCall, in_call_stable, AtVisit}
use Rattle.sa_flat.proofs.LaidLaws.{Laid, laid_field, step_leads, row_step, field_step}
use Rattle.sa_flat.proofs.MeanExpressions.{within_more}
use Rattle.sa_flat.proofs.SimpleLaws.{InputsAlways}
use Rattle.sa_flat.proofs.HiddenLaws.{KeepsIndex, keep_leaves}
use Rattle.sa_flat.proofs.BodyLaws.{any_said, Implies}
use Rattle.sa_flat.proofs.ValueLaws.{value_then}
use Rattle.sa_flat.proofs.CallLaws.{AllStill, nodes_keep, standing, around, Caller, SeenAt, Goes_on, Stab, on_same}

-- ---- steps one by one
module _ (w : Setting) (act : Activation) where
  abbrev pub Stepping : {n : _} → Row_of-Step n → (List Part → State → Result) → State → Result
  Stepping r go st = with_value st (steps_value w (here_in act st) st.store r st.tape) go

  abbrev pub index_at : Pos → ℕ → Expr → State → Value ℕ
  index_at q n a st = then_value (eval w (here_in act st) st.store a st.tape) (λ z tape. checked_index q n z tape)

  pub step_index : {j : _} (q : Pos) (n : ℕ) (i : _) (a : Expr) (rest : Row_of-Step j) (go : List Part → State → Result) (st : State) →
      with_value st (index_at q n a st) (λ i st. Stepping rest (λ ps st. go (part.At i ∷ ps) st) st) ≡ Stepping (more_of-Step (At' q n i (more_of-Expr a end_of-Expr)) rest) go st
  unfolding eval
  step_index q n i a rest go st = first (eval w (here_in act st) st.store a st.tape)
    where
      third : (i : ℕ) (tape : List ℤ) (v : Value (List Part)) → with_value (record st { tape = tape }) v (λ ps st. go (part.At i ∷ ps) st) ≡ with_value st (then_value v (λ ps tape. Gives (part.At i ∷ ps) tape)) go
      third i tape (Gives ps u) = refl
      third i tape (Stops e) = refl

      second : (v : Value ℕ) → with_value st v (λ i st. Stepping rest (λ ps st. go (part.At i ∷ ps) st) st) ≡
          with_value st (then_value (then_value v (λ i tape. Gives (part.At i) tape)) (λ s tape. then_value (steps_value w (here_in act st) st.store rest tape) (λ ps tape. Gives (s ∷ ps) tape))) go
      second (Gives i tape) = third i tape (steps_value w (here_in act st) st.store rest tape)
      second (Stops e) = refl

      first : (v : Value ℤ) → with_value st (then_value v (λ z tape. checked_index q n z tape)) (λ i st. Stepping rest (λ ps st. go (part.At i ∷ ps) st) st) ≡
          with_value st (then_value (then_value v (λ z tape. then_value (checked_index q n z tape) (λ i tape. Gives (part.At i) tape))) (λ s tape. then_value (steps_value w (here_in act st) st.store rest tape) (λ ps tape. Gives (s ∷ ps) tape))) go
      first (Gives z tape) = second (checked_index q n z tape)
      first (Stops e) = refl

  pub step_field : {j : _} (f : ℕ) (rest : Row_of-Step j) (go : List Part → State → Result) (st : State) → Stepping rest (λ ps st. go (part.Field f ∷ ps) st) st ≡ Stepping (more_of-Step (Field f) rest) go st
  unfolding eval
  step_field f rest go st = from (steps_value w (here_in act st) st.store rest st.tape)
    where
      from : (v : Value (List Part)) → with_value st v (λ ps st. go (part.Field f ∷ ps) st) ≡ with_value st (then_value v (λ ps tape. Gives (part.Field f ∷ ps) tape)) go
      from (Gives ps u) = refl
      from (Stops e) = refl

  pub step_none : (go : List Part → State → Result) (st : State) → go [] st ≡ Stepping end_of-Step go st
  unfolding eval
  step_none go st = refl

-- cells from h on keep the indices of steps
unfoldable pub Carried : {n : _} → (ℕ → ℤ) → ℕ → Row_of-Step n → List Part → Type 0
Carried kept h end_of-Step ps = ps ≡ []
Carried kept h (more_of-Step (At' q n m a) rest) ps = (i : ℕ) × (qs : List Part) × (ps ≡ part.At i ∷ qs) × ((i < n) × (kept h ≡ pos i)) × Carried kept (h + 1) rest qs
Carried kept h (more_of-Step (Field f) rest) ps = (qs : List Part) × (ps ≡ part.Field f ∷ qs) × Carried kept h rest qs

module _ (p : Program) (fr : Call) (x : Cells) (D : Domain) (L : Lawful x D) (ok : ℕ → Type 0) (N : Naming x) (w : Setting) (act : Activation) (outer : (ℕ → ℤ) → Type 0)
    (frame : FrameFits p fr x D L ok) (inputs : InputsFit p fr x D L ok) (always_in : InputsAlways p fr x D L ok N w act.base outer) (G : Found D.Env) (fair : AreFair x D L G) (Names : ℕ → Loop → Type 0) where
  -- what is said of hidden cells doesn't go by those from h on
  abbrev pub Stays : ℕ → ((ℕ → ℤ) → Type 0) → Type 0
  Stays h E = (c : ℕ) → h ≤ c → (kept : ℕ → ℤ) (z : ℤ) → E kept → E (with_cell x N c z kept)

  unfoldable pub StepsKept : {n : _} → ℕ → Row_of-Step n → Type 0
  StepsKept h end_of-Step = Unit {0}
  StepsKept h (more_of-Step (At' q n m (more_of-Expr a end_of-Expr)) rest) = (Walks p ok a × (IsOfType x D L (type_of a) h × (N.shown h ≡ false))) × StepsKept (h + 1) rest
  StepsKept h (more_of-Step (Field f) rest) = StepsKept h rest

  keep_still : (h n : ℕ) (q : Pos) (a : Expr) → Walks p ok a → IsOfType x D L (type_of a) h → ChangeKeeps x D L (change D x (assign.Keep h q n (lowered p fr a)))
  unfolding change
  keep_still h n q a k o f env g = keep_good x D L f (type_of a) h n (meaning D x (lowered p fr a)) env o (fit p fr x D L ok frame inputs a k) g

  pub kept_still : {n : _} (r : Row_of-Step n) (h : ℕ) → StepsKept h r → AllStill x D L (kept p fr h r)
  unfolding kept StepsKept
  kept_still end_of-Step h k = tt
  kept_still (more_of-Step (At' q n m (more_of-Expr a end_of-Expr)) rest) h k =
      (subst (λ (s : Piece D.Env). Still x D L s) (sym (assign_piece D x (assign.Keep h q n (lowered p fr a)))) (changed_still x D L (change D x (assign.Keep h q n (lowered p fr a))) (keep_still h n q a k.0.0 k.0.1.0)), kept_still rest (h + 1) k.1)
  kept_still (more_of-Step (Field f) rest) h k = kept_still rest h k

  module _ (stood : ℕ → Type 0) (tgt : ℕ → Stand) (base : ℕ → Place) where
    abbrev On : Call
    On = record { prefix = []; result = 0; base = tgt }

    abbrev about : (ℕ → ℤ) → Type 0
    about kept = InFrame x N D L p ok fr act.base kept × outer kept

    -- the stage at which something more is said of hidden cells
    abbrev pub Telling : ((ℕ → ℤ) → Type 0) → Said D
    Telling E = InCall x N D L p stood (λ kept. (InFrame x N D L p ok fr act.base kept × outer kept) × E kept) (record { prefix = []; result = 0; base = tgt }) base

    abbrev Goes_from : ((ℕ → ℤ) → Type 0) → Said D → (State → Result) → Walk D.Env → Type 0
    Goes_from E Q go s = Goes_on p fr x D L ok N w act outer frame inputs always_in G fair Names (Telling E) Q go s

    weaker : (E F : (ℕ → ℤ) → Type 0) (Q : Said D) (go : State → Result) (s : Walk D.Env) → ((kept : ℕ → ℤ) → E kept → F kept) → Goes_from F Q go s → Goes_from E Q go s
    weaker E F Q go s k f es st u g h i =
        f es st u g (any_said x D L G fair Names (SeenAt p fr x D L ok N w act outer frame inputs always_in G fair Names) (λ e. Telling E st.store st.result st.clock e) (λ e. Telling F st.store st.result st.clock e) es
        (λ e s. record { kept = s.kept; frame = s.frame; outside = (s.outside.0, k s.kept s.outside.1); holds = s.holds }) h) i

    module _ (first : ℕ) (frame_stays : Stays first (InFrame x N D L p stood (record { prefix = []; result = 0; base = tgt }) base)) (around_stays : Stays first (λ kept. InFrame x N D L p ok fr act.base kept × outer kept)) where
      abbrev told : ((ℕ → ℤ) → Type 0) → ℕ → ℕ → ℕ → (ℕ → ℤ) → Type 0
      told E h n i at = E at × ((i < n) × (at h ≡ pos i))

      told_stays : (E : (ℕ → ℤ) → Type 0) (h n i : ℕ) → Stays h E → Stays (h + 1) (λ at. E at × ((i < n) × (at h ≡ pos i)))
      told_stays E h n i s c le at z e = (s c (omega (arith, le)) at z e.0, (e.1.0, sym (with_agrees x N c z at h (λ is. apart is)) ∙ e.1.1))
        where
          apart : h ≡ c → ⊥
          apart is = omega (arith, le, is)

      keep_covers : (E : (ℕ → ℤ) → Type 0) (h n : ℕ) (q : Pos) (a : Expr) (e : D.Env) (st : State) → first ≤ h → Stays h E → Walks p ok a → IsOfType x D L (type_of a) h → N.shown h ≡ false → Good x D L anywhere e →
          Telling E st.store st.result st.clock e →
          CoversAll x D L G fair Names (AtVisit x N D L) (λ i. AliveAnd (Telling (told E h n i) st.store st.result st.clock) ((change D x (assign.Keep h q n (lowered p fr a))).after e)) ((change D x (assign.Keep h q n (lowered p fr a))).alarms e)
          (index_at w act q n a st)
      unfolding change
      keep_covers E h n q a e st le es k o hid g s =
          from (index_at w act q n a st)
          (keep_leaves p fr x D L ok N w act.base outer frame inputs always_in st.store st.clock s.kept s.outside.0.0 s.outside.0.1 h n q a e st.tape g s.holds k o hid)
        where
          from : (v : Value ℕ) → KeepsIndex p fr x D L ok N w act.base outer frame inputs always_in st.store st.clock s.kept s.outside.0.0 s.outside.0.1 h n (keep D x h n (meaning D x (lowered p fr a)) e)
              ((meaning D x (lowered p fr a)).alarms e ++ in_alive ((meaning D x (lowered p fr a)).value.span e) (index_alarms q n)) v →
              CoversAll x D L G fair Names (AtVisit x N D L) (λ i. AliveAnd (Telling (told E h n i) st.store st.result st.clock) (keep D x h n (meaning D x (lowered p fr a)) e))
              ((meaning D x (lowered p fr a)).alarms e ++ in_alive ((meaning D x (lowered p fr a)).value.span e) (index_alarms q n)) v
          from (Gives i u) c =
              alive_is (Holds x D L (has x N st.store (with_cell x N h (pos i) s.kept)) st.clock) (Telling (told E h n i) st.store st.result st.clock) (keep D x h n (meaning D x (lowered p fr a)) e)
              (λ e j. record {
                kept = with_cell x N h (pos i) s.kept;
                frame = frame_stays h le s.kept (pos i) s.frame;
                outside = (around_stays h le s.kept (pos i) s.outside.0, (es h (omega arith) s.kept (pos i) s.outside.1, (c.0, with_same x N h (pos i) s.kept)));
                holds = j;
              }) c.1
          from (Stops end) c = c

      pub steps_follow : {n : _} (r : Row_of-Step n) (h : ℕ) (E : (ℕ → ℤ) → Type 0) (Q : Said D) (go : List Part → State → Result) (rest : Walk D.Env) → first ≤ h → Stays h E → StepsKept h r →
          ((ps : List Part) → Goes_from (λ at. E at × Carried at h r ps) Q (go ps) rest) → WalkKeeps x D L anywhere rest → Goes_from E Q (Stepping w act r go) (before D x (kept p fr h r) rest)
      unfolding kept StepsKept Carried
      steps_follow end_of-Step h E Q go rest le es k f keeps =
          on_same p fr x D L ok N w act outer frame inputs always_in G fair Names (Telling E) Q (go []) (Stepping w act end_of-Step go) rest (λ st. step_none w act go st)
          (weaker E (λ at. E at × Carried at h end_of-Step []) Q (go []) rest (λ at e. (e, refl)) (f []))
      steps_follow (more_of-Step (At' q n m (more_of-Expr a end_of-Expr)) steps) h E Q go rest le es k f keeps =
          let tail = before D x (kept p fr (h + 1) steps) rest in
          let next = λ (i : ℕ) (st : State). Stepping w act steps (λ ps st. go (part.At i ∷ ps) st) st in
          on_same p fr x D L ok N w act outer frame inputs always_in G fair Names (Telling E) Q (λ st. with_value st (index_at w act q n a st) next) (Stepping w act (more_of-Step (At' q n m (more_of-Expr a end_of-Expr)) steps) go)
          (followed D (piece D x (node.Assign (assign.Keep h q n (lowered p fr a)))) tail) (λ st. step_index w act q n m a steps go st)
          (subst (λ (s : Piece D.Env). Goes_from E Q (λ st. with_value st (index_at w act q n a st) next) (followed D s tail)) (sym (assign_piece D x (assign.Keep h q n (lowered p fr a))))
          (value_then x D L G fair Names (AtVisit x N D L) (Telling E) Q (InCall x N D L p ok outer fr act.base) (λ i. Telling (told E h n i)) (λ st. index_at w act q n a st) next (change D x (assign.Keep h q n (lowered p fr a))) tail
          (λ i store result clock. in_call_stable x N D L p stood (λ at. (InFrame x N D L p ok fr act.base at × outer at) × told E h n i at) (record { prefix = []; result = 0; base = tgt }) base store result clock)
          (λ store result clock. in_call_stable x N D L p ok outer fr act.base store result clock) (keep_still h n q a k.0.0 k.0.1.0) (λ e st g s. keep_covers E h n q a e st le es k.0.0 k.0.1.0 k.0.1.1 g s)
          (λ i. steps_follow steps (h + 1) (told E h n i) Q (λ ps st. go (part.At i ∷ ps) st) rest (omega (arith, le)) (told_stays E h n i es) k.1
          (λ ps. weaker (λ at. told E h n i at × Carried at (h + 1) steps ps) (λ at. E at × Carried at h (more_of-Step (At' q n m (more_of-Expr a end_of-Expr)) steps) (part.At i ∷ ps)) Q (go (part.At i ∷ ps)) rest
          (λ at e. (e.0.0, (i, ps, refl, e.0.1, e.1))) (f (part.At i ∷ ps))) keeps)
          (nodes_keep x D L (kept p fr (h + 1) steps) rest (kept_still steps (h + 1) k.1) keeps)))
      steps_follow (more_of-Step (Field g) steps) h E Q go rest le es k f keeps =
          on_same p fr x D L ok N w act outer frame inputs always_in G fair Names (Telling E) Q (Stepping w act steps (λ ps st. go (part.Field g ∷ ps) st)) (Stepping w act (more_of-Step (Field g) steps) go)
          (before D x (kept p fr h steps) rest) (λ st. step_field w act g steps go st)
          (steps_follow steps h E Q (λ ps st. go (part.Field g ∷ ps) st) rest le es k
          (λ ps. weaker (λ at. E at × Carried at h steps ps) (λ at. E at × Carried at h (more_of-Step (Field g) steps) (part.Field g ∷ ps)) Q (go (part.Field g ∷ ps)) rest (λ at e. (e.0, (ps, refl, e.1))) (f (part.Field g ∷ ps))) keeps)

-- ---- where a reference leads
module _ (p : Program) (x : Cells) (D : Domain) (L : Lawful x D) (N : Naming x) where
  abbrev named : Num → ℕ → Place → Type 0
  named num c a = N.names c a

  -- behind kept indices others may be kept
  pub kept_further : (kept : ℕ → ℤ) (l m : Layout) (rs new : List Kept) (c d : ℕ) (a b : Place) → KeptTo x N D L kept l rs c a → ((c : ℕ) → Laid (λ num c a. N.names c a) l c a → KeptTo x N D L kept m new (c + d) b) → KeptTo x N D L kept m (rs ++ new) (c + d) b
  kept_further kept l m [] new c d a b h k = k c h
  kept_further kept l m (r ∷ rs) new c d a b h k =
      let i = h.1.0 in
      let same : (c + i * r.stride) + d ≡ (c + d) + i * r.stride = swapped c d (i * r.stride) in
      (h.0, (i, h.1.1, h.1.2, subst (λ (e : ℕ). KeptTo x N D L kept m (rs ++ new) e b) same (kept_further kept l m rs new (c + i * r.stride) d a b h.1.3 k)))
    where
      swapped : (c d e : ℕ) → (c + e) + d ≡ (c + d) + e
      swapped c d e = omega arith

  laid_item : (n : ℕ) (l : Layout) (b i : ℕ) (a : Place) → Laid (λ num c a. N.names c a) (row n l) b a → i < n → Laid (λ num c a. N.names c a) l (b + i * stride_of (row n l)) (within a (part.At i ∷ []))
  unfolding Laid
  laid_item n l b i a h less = h i less

  laid_part : (ls : Layouts) (l : Layout) (b f : ℕ) (a : Place) → Laid (λ num c a. N.names c a) (fields ls) b a → nth_field ls f ≡ Some l → Laid (λ num c a. N.names c a) l (b + cells_before ls f) (within a (part.Field f ∷ []))
  unfolding Laid
  laid_part ls l b f a h e =
      let same : 0 + f ≡ f = omega arith in
      subst (λ (g : ℕ). Laid (λ num c a. N.names c a) l (b + cells_before ls f) (within a (part.Field g ∷ []))) same (laid_field (λ num c a. N.names c a) ls b 0 f a l h e)

  within_end : (a : Place) → within a [] ≡ a
  within_end a = ap (λ (ps : List Part). record { path = a.path; var = a.var; parts = ps }) (append-nil a.parts)

  field_case : (ls : Layouts) (l : Layout) (f : ℕ) → nth_field ls f ≡ Some l → (P : Layout → Type 0) → P l → P (or_nothing (nth_field ls f))
  field_case ls l f e P h = rw e h

  -- the cells that keep the indices of steps are hidden
  unfoldable pub IndexCells : {n : _} → ℕ → Row_of-Step n → Type 0
  IndexCells h end_of-Step = Unit {0}
  IndexCells h (more_of-Step (At' q n m a) rest) = (L.IsCell h × (N.shown h ≡ false)) × IndexCells (h + 1) rest
  IndexCells h (more_of-Step (Field f) rest) = IndexCells h rest

  -- from an object, by the indices that are kept
  pub carried_leads : {n : _} (r : Row_of-Step n) (kept : ℕ → ℤ) (l m : Layout) (h c : ℕ) (a : Place) (ps : List Part) → IndexCells h r → steps_layout (Some l) r ≡ Some m → Laid (λ num c a. N.names c a) l c a → Carried kept h r ps →
      KeptTo x N D L kept m (kept_rows l h r) (c + fields_cells l r) (within a ps)
  unfolding IndexCells Carried kept_rows fields_cells steps_layout cells_to
  carried_leads end_of-Step kept l m h c a ps k t o e =
      let none : c ≡ c + 0 = omega arith in
      let is : l ≡ m = cc in
      subst (λ (ps : List Part). Laid (λ num c a. N.names c a) m (c + 0) (within a ps)) (sym e)
      (subst (λ (b : Place). Laid (λ num c a. N.names c a) m (c + 0) b) (sym (within_end a))
      (subst (λ (c : ℕ). Laid (λ num c a. N.names c a) m c a) none (subst (λ (l : Layout). Laid (λ num c a. N.names c a) l c a) is o)))
  carried_leads (more_of-Step (At' q n j (more_of-Expr b end_of-Expr)) rest) kept l m h c a ps k t o e =
      step_leads l m (At' q n j (more_of-Expr b end_of-Expr)) rest t (λ u f t.
      row_step l u q n j b f (λ is.
      subst (λ (l : Layout). Laid (λ num c a. N.names c a) l c a → KeptTo x N D L kept m (kept_rows l h (more_of-Step (At' q n j (more_of-Expr b end_of-Expr)) rest)) (c + fields_cells l (more_of-Step (At' q n j (more_of-Expr b end_of-Expr)) rest)) (within a ps)) (sym is)
      (λ o. let i = e.0 in
      let stride = stride_of (row n u) in
      let same : (c + i * stride) + fields_cells u rest ≡ (c + fields_cells u rest) + i * stride = omega arith in (
        k.0,
        (
          i,
          e.3.0,
          e.3.1,
          subst (λ (ps : List Part). KeptTo x N D L kept m (kept_rows u (h + 1) rest) ((c + fields_cells u rest) + i * stride) (within a ps)) (sym e.2)
              (subst (λ (b : Place). KeptTo x N D L kept m (kept_rows u (h + 1) rest) ((c + fields_cells u rest) + i * stride) b) (sym (within_more a (part.At i) e.1))
              (subst (λ (c : ℕ). KeptTo x N D L kept m (kept_rows u (h + 1) rest) c (within (within a (part.At i ∷ [])) e.1)) same
              (carried_leads rest kept u m (h + 1) (c + i * stride) (within a (part.At i ∷ [])) e.1 k.1 t (laid_item n u c i a o e.3.0) e.4))),
        ),
      )) o))
  carried_leads (more_of-Step (Field g) rest) kept l m h c a ps k t o e =
      step_leads l m (Field g) rest t (λ u f t.
      field_step l u g f (λ ls is v.
      subst (λ (l : Layout). Laid (λ num c a. N.names c a) l c a → KeptTo x N D L kept m (kept_rows l h (more_of-Step (Field g) rest)) (c + fields_cells l (more_of-Step (Field g) rest)) (within a ps)) (sym is)
      (λ o. let same : (c + cells_before ls g) + fields_cells u rest ≡ c + (cells_before ls g + fields_cells u rest) = omega arith in
      field_case ls u g v (λ y. KeptTo x N D L kept m (kept_rows y h rest) (c + (cells_before ls g + fields_cells y rest)) (within a ps))
      (subst (λ (ps : List Part). KeptTo x N D L kept m (kept_rows u h rest) (c + (cells_before ls g + fields_cells u rest)) (within a ps)) (sym e.1)
      (subst (λ (b : Place). KeptTo x N D L kept m (kept_rows u h rest) (c + (cells_before ls g + fields_cells u rest)) b) (sym (within_more a (part.Field g) e.0))
      (subst (λ (c : ℕ). KeptTo x N D L kept m (kept_rows u h rest) c (within (within a (part.Field g ∷ [])) e.0)) same
      (carried_leads rest kept u m h (c + cells_before ls g) (within a (part.Field g ∷ [])) e.0 k t (laid_part ls u c g a o v) e.2))))) o))
