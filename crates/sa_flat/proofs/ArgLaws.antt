-- Arguments of typed calls: what the walk asks of them, and what the called function's variables stand for after them.
use Rattle.std.proofs.Common.{◌≡◌, ◌⊎◌, ℕ, ◌+◌, ◌*◌, ◌≤◌, ◌<◌, ℤ, Bool, true, false, List, [], ◌∷◌, ◌++◌, refl, sym, ap, subst, ◌∙◌, arith, Option, Some, None, inl, inr}
use Rattle.std.specs.Prelude.{◌==◌, ◌&&◌, ◌||◌, if◌then◌else◌, slice_get}
use Rattle.std.specs.List.{AllByRecursion}
use Rattle.std.proofs.lemmas.Bool.Decides.{nat_tests}
use Rattle.sa_base.specs.declared.num.Num.{Num}
use Rattle.sa_base.specs.declared.num.Num.TheVariants.{I32}
use Rattle.sa_base.specs.declared.pos.Pos.{Pos}
use Rattle.sa_typed.specs.Layouts.{Layout, Layouts, leaf, row, fields, nth_field, layout_of, or_nothing}
use Rattle.sa_typed.specs.Evaluation.{Setting, within}
use Rattle.sa_typed.specs.WellTyped.{type_of, steps_layout}
use Rattle.sa_typed.specs.Executions.{Loop, Activation}
use Rattle.sa_typed.specs.Frames.{access_indices, all_kept, read_indices, indices_of, refers}
use Rattle.sa_typed.specs.Frames as frames
use Rattle.sa_typed.specs.TypedExpressions.{IsPlace}
use Rattle.sa_typed.specs.TypedPrograms.{IsParameter, IsParameterLayout, IsArgument, AreArguments}
use Rattle.sa_typed.specs.declared.expr.Expr.{Expr, Read', Row_of-Step, end_of-Step, more_of-Step, more_of-Expr, end_of-Expr}
use Rattle.sa_typed.specs.declared.expr.Expr.TheVariants as e
use Rattle.sa_typed.specs.declared.expr.Access.{Access}
use Rattle.sa_typed.specs.declared.expr.Step.{At', Field}
use Rattle.sa_typed.specs.declared.shape.Part.TheVariants as part
use Rattle.sa_typed.specs.declared.stmt.Arg.{Arg}
use Rattle.sa_typed.specs.declared.stmt.Arg.TheVariants.{Value as ByValue, Object as ByReference}
use Rattle.sa_typed.specs.declared.program.Param.{Param}
use Rattle.sa_typed.specs.declared.program.Place.{Place}
use Rattle.sa_typed.specs.declared.program.Program.{Program}
use Rattle.sa_ir.specs.declared.frame.Kept.{Kept}
use Rattle.sa_ir.specs.declared.frame.Target.{Target as Stand}
use Rattle.sa_ir.specs.Frames.{Frame as Call, own_target}
use Rattle.sa_ir.specs.Names.{inner, at_field}
use Rattle.sa_ir.specs.Places as ir_places
use Rattle.sa_ir.specs.Places.{stride_of, cells_to, fields_cells, kept_rows}
use Rattle.sa_ir.specs.Sizes.{cells_before}
use Rattle.sa_ir.specs.Nodes as ir_nodes
use Rattle.sa_flat.specs.Domain.{Domain}
use Rattle.sa_flat.specs.Meanings.{Cells}
use Rattle.sa_flat.specs.Pieces.{Found}
use Rattle.sa_flat.proofs.Lawful.{Lawful}
use Rattle.sa_flat.proofs.KeepLaws.{AreFair, all_append}
use Rattle.sa_flat.proofs.TargetLaws.{IsOfType}
use Rattle.sa_flat.proofs.WalkPremises.{Walks, StepsWalk, StepWalks}
use Rattle.sa_flat.proofs.FitExpressions.{FrameFits, InputsFit, RowsRoam}
use Rattle.sa_flat.proofs.StateLaws.{Naming, with_cell}
use Rattle.sa_flat.proofs.LaidLaws.{Laid, laid_field, step_leads, row_step, field_step}
use Rattle.sa_flat.proofs.SimpleLaws.{InputsAlways, ReadWalks}
use Rattle.sa_flat.proofs.CallLaws.{standing, ArgsWalk, with_stood, with_stand, end_stood}
use Rattle.sa_flat.proofs.RefLaws.{StepsKept}
use Rattle.sa_flat.proofs.ReferenceLaws.{AllBefore, ReadKept, RefWalks}
use Rattle.sa_flat.proofs.TypedWalks.{named, expression_walks, place_walks}
use Rattle.sa_flat.proofs.ParamLaws.{no_both, or_cases, and_cases, same_number, own_named}
use Rattle.sa_flat.proofs.Lays.{StepsHidden, ReadHidden, ArgsHidden}

-- ---- rows before a cell
pub before_more : (h i : ℕ) (rs : List Kept) → h ≤ i → AllBefore h rs → AllBefore i rs
before_more h i [] le b = tt
before_more h i (r ∷ rs) le b = let less = b.0 in (omega (arith, le, less), before_more h i rs le b.1)

kept_before : {n : _} (r : Row_of-Step n) (l : Layout) (h : ℕ) → AllBefore (h + indices_of r) (kept_rows l h r)
unfolding kept_rows indices_of
kept_before end_of-Step l h = tt
kept_before (more_of-Step (At' q n m a) rest) l h =
    let same : (h + 1) + indices_of rest ≡ h + (1 + indices_of rest) = omega arith in
    (omega arith, subst (λ (i : ℕ). AllBefore i (kept_rows (inner l) (h + 1) rest)) same (kept_before rest (inner l) (h + 1)))
kept_before (more_of-Step (Field f) rest) l h = kept_before rest (at_field l f) h

module _ (p : Program) (x : Cells) (D : Domain) (L : Lawful x D) where
  abbrev Typed : Num → ℕ → Place → Type 0
  Typed num c a = IsOfType x D L num c

  -- ---- cells that kept indices may lead to; which call they are of says nothing
  pub roam_any : (fr gr : Call) (ok good : ℕ → Type 0) (l : Layout) (rs : List Kept) (c : ℕ) → RowsRoam p fr x D L ok l rs c → RowsRoam p gr x D L good l rs c
  roam_any fr gr ok good l [] c h = h
  roam_any fr gr ok good l (r ∷ rs) c h = (h.0, λ k less. roam_any fr gr ok good l rs (c + k * r.stride) (h.1 k less))

  module _ (fr : Call) (ok : ℕ → Type 0) where
    roam_further : (l m : Layout) (rs new : List Kept) (c d : ℕ) → RowsRoam p fr x D L ok l rs c → ((c : ℕ) (a : Place) → Laid (λ num c a. IsOfType x D L num c) l c a → RowsRoam p fr x D L ok m new (c + d)) →
        RowsRoam p fr x D L ok m (rs ++ new) (c + d)
    roam_further l m [] new c d h k = k c h.0 h.1
    roam_further l m (r ∷ rs) new c d h k = (
      h.0,
      λ i less. let same : (c + i * r.stride) + d ≡ (c + d) + i * r.stride = swapped c d (i * r.stride) in
          subst (λ (e : ℕ). RowsRoam p fr x D L ok m (rs ++ new) e) same (roam_further l m rs new (c + i * r.stride) d (h.1 i less) k),
    )
      where
        swapped : (c d e : ℕ) → (c + e) + d ≡ (c + d) + e
        swapped c d e = omega arith

    laid_item : (n : ℕ) (l : Layout) (b i : ℕ) (a : Place) → Laid (λ num c a. IsOfType x D L num c) (row n l) b a → i < n → Laid (λ num c a. IsOfType x D L num c) l (b + i * stride_of (row n l)) (within a (part.At i ∷ []))
    unfolding Laid
    laid_item n l b i a h less = h i less

    laid_part : (ls : Layouts) (l : Layout) (b f : ℕ) (a : Place) → Laid (λ num c a. IsOfType x D L num c) (fields ls) b a → nth_field ls f ≡ Some l → Laid (λ num c a. IsOfType x D L num c) l (b + cells_before ls f) (within a (part.Field f ∷ []))
    unfolding Laid
    laid_part ls l b f a h e =
        let same : 0 + f ≡ f = omega arith in
        subst (λ (g : ℕ). Laid (λ num c a. IsOfType x D L num c) l (b + cells_before ls f) (within a (part.Field g ∷ []))) same (laid_field (λ num c a. IsOfType x D L num c) ls b 0 f a l h e)

    field_case : (ls : Layouts) (l : Layout) (f : ℕ) → nth_field ls f ≡ Some l → (P : Layout → Type 0) → P l → P (or_nothing (nth_field ls f))
    field_case ls l f e P h = rw e h

    unfoldable StepCells : {n : _} → ℕ → Row_of-Step n → Type 0
    StepCells h end_of-Step = Unit {0}
    StepCells h (more_of-Step (At' q n m a) rest) = L.IsCell h × StepCells (h + 1) rest
    StepCells h (more_of-Step (Field f) rest) = StepCells h rest

    steps_roam : {n : _} (r : Row_of-Step n) (l m : Layout) (h c : ℕ) (a : Place) → StepCells h r → steps_layout (Some l) r ≡ Some m → Laid (λ num c a. IsOfType x D L num c) l c a →
        RowsRoam p fr x D L ok m (kept_rows l h r) (c + fields_cells l r)
    unfolding StepCells kept_rows fields_cells steps_layout cells_to
    steps_roam end_of-Step l m h c a k t o =
        let none : c ≡ c + 0 = omega arith in
        let is : l ≡ m = cc in
        (a, subst (λ (c : ℕ). Laid (λ num c a. IsOfType x D L num c) m c a) none (subst (λ (l : Layout). Laid (λ num c a. IsOfType x D L num c) l c a) is o))
    steps_roam (more_of-Step (At' q n j (more_of-Expr b end_of-Expr)) rest) l m h c a k t o =
        step_leads l m (At' q n j (more_of-Expr b end_of-Expr)) rest t (λ u f t.
        row_step l u q n j b f (λ is.
        subst (λ (l : Layout). Laid (λ num c a. IsOfType x D L num c) l c a → RowsRoam p fr x D L ok m (kept_rows l h (more_of-Step (At' q n j (more_of-Expr b end_of-Expr)) rest)) (c + fields_cells l (more_of-Step (At' q n j (more_of-Expr b end_of-Expr)) rest))) (sym is)
        (λ o. (
          k.0,
          λ i less. let stride = stride_of (row n u) in
              let same : (c + i * stride) + fields_cells u rest ≡ (c + fields_cells u rest) + i * stride = omega arith in
              subst (λ (c : ℕ). RowsRoam p fr x D L ok m (kept_rows u (h + 1) rest) c) same
              (steps_roam rest u m (h + 1) (c + i * stride) (within a (part.At i ∷ [])) k.1 t (laid_item n u c i a o less)),
        )) o))
    steps_roam (more_of-Step (Field g) rest) l m h c a k t o =
        step_leads l m (Field g) rest t (λ u f t.
        field_step l u g f (λ ls is v.
        subst (λ (l : Layout). Laid (λ num c a. IsOfType x D L num c) l c a → RowsRoam p fr x D L ok m (kept_rows l h (more_of-Step (Field g) rest)) (c + fields_cells l (more_of-Step (Field g) rest))) (sym is)
        (λ o. let same : (c + cells_before ls g) + fields_cells u rest ≡ c + (cells_before ls g + fields_cells u rest) = omega arith in
        field_case ls u g v (λ y. RowsRoam p fr x D L ok m (kept_rows y h rest) (c + (cells_before ls g + fields_cells y rest)))
        (subst (λ (c : ℕ). RowsRoam p fr x D L ok m (kept_rows u h rest) c) same
        (steps_roam rest u m h (c + cells_before ls g) (within a (part.Field g ∷ [])) k t (laid_part ls u c g a o v)))) o))

    step_cells : (N : Naming x) {n : _} (r : Row_of-Step n) (h : ℕ) → StepsHidden x D L N h r → StepCells h r
    unfolding StepCells StepsHidden
    step_cells N end_of-Step h k = tt
    step_cells N (more_of-Step (At' q n m (more_of-Expr a end_of-Expr)) rest) h k = (k.0.0.cell, step_cells N rest (h + 1) k.1)
    step_cells N (more_of-Step (Field f) rest) h k = step_cells N rest h k

    -- the argument of a reference
    pub read_roams : (N : Naming x) (a : Expr) (m : Layout) (h : ℕ) → FrameFits p fr x D L ok → ReadWalks p ok m a → ReadHidden x D L N h a →
        RowsRoam p fr x D L ok m (ir_places.read_target p fr h a).rows (ir_places.read_target p fr h a).first
    unfolding ir_places.read_target ReadHidden
    read_roams N (Read' v n steps num) m h fits r hid =
        roam_further (layout_of p v) m (fr.base v).rows (kept_rows (layout_of p v) h steps) (fr.base v).first (fields_cells (layout_of p v) steps) (fits v r.0)
        (λ c a o. steps_roam steps (layout_of p v) m h c a (step_cells N steps h hid) r.1.1 o)
    read_roams N _ m h fits r hid = absurd r

-- ---- typed arguments
abbrev pub ParamOk : Program → ℕ → Param → Type 0
ParamOk p g q = IsParameter p g q × ((q.reference ≡ false → frames.is_reference p q.var ≡ false) × (q.reference ≡ true → frames.is_reference p q.var ≡ true))

value_layout : (b : Bool) (l : Layout) → IsParameterLayout b l → b ≡ false → (num : Num) × (l ≡ leaf num)
value_layout b (leaf num) h e = (num, refl)
value_layout b (fields ls) h e = no_both b h e
value_layout b (row n l) h e = absurd h

module _ (p : Program) (fr : Call) (x : Cells) (D : Domain) (L : Lawful x D) (N : Naming x) (w : Setting) (act : Activation) (outer : (ℕ → ℤ) → Type 0) (f : ℕ)
    (frame : FrameFits p fr x D L (named p f)) (inputs : InputsFit p fr x D L (named p f)) (always_in : InputsAlways p fr x D L (named p f) N w act.base outer) (G : Found D.Env) (fair : AreFair x D L G) (Names : ℕ → Loop → Type 0)
    (k : ℕ) (caller : (v : ℕ) → named p f v → AllBefore k (fr.base v).rows) (outside : (d : ℕ) → k ≤ d → (kept : ℕ → ℤ) (z : ℤ) → outer kept → outer (with_cell x N d z kept)) (g : ℕ) where
  abbrev Ref : (ℕ → Type 0) → (ℕ → Stand) → ℕ → Param → Access → Type 0
  Ref = RefWalks p fr x D L (named p f) N w act outer frame inputs always_in G fair Names

  abbrev Args : (ℕ → Type 0) → (ℕ → Stand) → ℕ → List Param → List Arg → Type 0
  Args = ArgsWalk p fr x D L (named p f) N w act outer frame inputs always_in G fair Names k Ref

  abbrev stood_with : (ℕ → Type 0) → Param → ℕ → Type 0
  stood_with stood q = with_stood p fr x D L (named p f) N w act outer frame inputs always_in G fair Names stood q

  abbrev stand_with : (ℕ → Stand) → ℕ → Param → Access → ℕ → Stand
  stand_with tgt h q y = with_stand p fr x D L (named p f) N w act outer frame inputs always_in G fair Names tgt h q y

  abbrev pub end_of : (ℕ → Type 0) → List Param → List Arg → ℕ → Type 0
  end_of stood params args = end_stood p fr x D L (named p f) N w act outer frame inputs always_in G fair Names stood params args

  abbrev on : (ℕ → Stand) → Call
  on tgt = record { prefix = []; result = 0; base = tgt }

  -- what stands while arguments are passed, where indices are kept from h on
  pub record Passed (stood : ℕ → Type 0) (tgt : ℕ → Stand) (h : ℕ) : Type 0 where
    pub fits : FrameFits p (record { prefix = []; result = 0; base = tgt }) x D L stood
    pub intact : (v : ℕ) → frames.is_reference p v ≡ false → tgt v ≡ own_target p k v
    pub before : (v : ℕ) → stood v → AllBefore h (tgt v).rows
    pub own : (v : ℕ) → named p g v → frames.is_reference p v ≡ false → stood v

  -- and where they have been passed
  pub record Ended (stood : ℕ → Type 0) (tgt : ℕ → Stand) (h : ℕ) (params : List Param) (args : List Arg) : Type 0 where
    pub walk : Args stood tgt h params args
    pub fits : FrameFits p (record { prefix = []; result = 0; base = ir_nodes.bound p fr h params args tgt }) x D L (end_of stood params args)
    pub before : (v : ℕ) → end_of stood params args v → AllBefore (h + all_kept args) (ir_nodes.bound p fr h params args tgt v).rows
    pub stays : (v : ℕ) → stood v → end_of stood params args v
    pub refs : (v : ℕ) → refers v params ≡ true → end_of stood params args v

  -- ---- one reference
  module _ (stood : ℕ → Type 0) (tgt : ℕ → Stand) (h : ℕ) (q : Param) (y : Access) where
    stand_true : (v : ℕ) → (v == q.var) ≡ true → ir_places.target p fr h y ≡ stand_with tgt h q y v
    stand_true v e = rw e refl

    stand_false : (v : ℕ) → (v == q.var) ≡ false → tgt v ≡ stand_with tgt h q y v
    stand_false v e = rw e refl

    -- what holds of the reference's target and of what stood holds of what stands
    with_both : (P : ℕ → Stand → Type 0) → P q.var (ir_places.target p fr h y) → ((v : ℕ) → stood v → P v (tgt v)) → (v : ℕ) → stood_with stood q v → P v (stand_with tgt h q y v)
    with_both P new old v o =
        elim (v == q.var) as (λ b. (v == q.var) ≡ b → P v (stand_with tgt h q y v)) [
          | true ↦ λ e. subst (λ (t : Stand). P v t) (stand_true v e) (subst (λ (v : ℕ). P v (ir_places.target p fr h y)) (sym (same_number v q.var e)) new)
          | false ↦ λ e. subst (λ (t : Stand). P v t) (stand_false v e) (other o e)
        ] refl
      where
        other : stood_with stood q v → (v == q.var) ≡ false → P v (tgt v)
        other (inl s) e = old v s
        other (inr is) e = absurd (differ v q.var e is)
          where
            differ : (v w : ℕ) → (v == w) ≡ false → v ≡ w → ⊥
            differ v w e is = grind (arith, nat_tests)

    target_before : (a : Expr) → ReadWalks p (named p f) (layout_of p q.var) a → k ≤ h → AllBefore (h + read_indices a) (ir_places.read_target p fr h a).rows
    unfolding ir_places.read_target read_indices
    target_before (Read' v n steps num) r le =
        all_append (λ r. r.cell < h + indices_of steps) (fr.base v).rows (kept_rows (layout_of p v) h steps) (before_more k (h + indices_of steps) (fr.base v).rows (omega (arith, le)) (caller v r.0)) (kept_before steps (layout_of p v) h)
    target_before _ r le = absurd r

    steps_kept : {n : _} (r : Row_of-Step n) (h : ℕ) → StepsWalk p (named p f) r → StepsHidden x D L N h r → StepsKept p fr x D L (named p f) N w act outer frame inputs always_in G fair Names h r
    unfolding StepsKept StepsHidden Walks
    steps_kept end_of-Step h s hid = tt
    steps_kept (more_of-Step (At' q n m (more_of-Expr a end_of-Expr)) rest) h s hid = ((s.0, hid.0), steps_kept rest (h + 1) s.1 hid.1)
    steps_kept (more_of-Step (Field f) rest) h s hid = steps_kept rest h s.1 hid

    read_kept : (a : Expr) → ReadWalks p (named p f) (layout_of p q.var) a → ReadHidden x D L N h a → ReadKept p fr x D L (named p f) N w act outer frame inputs always_in G fair Names h a
    unfolding ReadKept ReadHidden
    read_kept (Read' v n steps num) r hid = steps_kept steps h r.1.0 hid
    read_kept _ r hid = absurd r

    pub passed_on : IsPlace p f (layout_of p q.var) y → ReadHidden x D L N h (e.Read y I32) → k ≤ h → frames.is_reference p q.var ≡ true → Passed stood tgt h → Passed (stood_with stood q) (stand_with tgt h q y) (h + access_indices y)
    passed_on place hid le is s = record {
      fits = λ v o. with_both (λ v t. RowsRoam p (on (stand_with tgt h q y)) x D L (stood_with stood q) (layout_of p v) t.rows t.first)
          (roam_any p x D L fr (on (stand_with tgt h q y)) (named p f) (stood_with stood q) (layout_of p q.var) (ir_places.target p fr h y).rows (ir_places.target p fr h y).first
          (read_roams p x D L fr (named p f) N (e.Read y I32) (layout_of p q.var) h frame (place_walks p f (layout_of p q.var) y place) hid))
          (λ v o. roam_any p x D L (on tgt) (on (stand_with tgt h q y)) stood (stood_with stood q) (layout_of p v) (tgt v).rows (tgt v).first (s.fits v o)) v o;
      intact = λ v free. sym (stand_false v (apart v free)) ∙ s.intact v free;
      before = with_both (λ v t. AllBefore (h + access_indices y) t.rows) (target_before (e.Read y I32) (place_walks p f (layout_of p q.var) y place) le) (λ v o. before_more h (h + access_indices y) (tgt v).rows (omega arith) (s.before v o));
      own = λ v n free. inl (s.own v n free);
    }
      where
        apart : (v : ℕ) → frames.is_reference p v ≡ false → (v == q.var) ≡ false
        apart v free =
            elim (v == q.var) as (λ b. (v == q.var) ≡ b → b ≡ false) [
              | true ↦ λ e. no_both (frames.is_reference p q.var) is (subst (λ (v : ℕ). frames.is_reference p v ≡ false) (same_number v q.var e) free)
              | false ↦ λ e. refl
            ] refl

    pub ref_walks : IsPlace p f (layout_of p q.var) y → ReadHidden x D L N h (e.Read y I32) → k ≤ h → Passed stood tgt h → Ref stood tgt h q y
    ref_walks place hid le s = record {
      access = place_walks p f (layout_of p q.var) y place;
      steps = read_kept (e.Read y I32) (place_walks p f (layout_of p q.var) y place) hid;
      passed = s.before;
      caller = λ v o. before_more k h (fr.base v).rows le (caller v o);
      outside = λ d up kept z o. outside d (omega (arith, le, up)) kept z o;
    }

  -- ---- all of them
  pub args_walk : (params : List Param) (args : List Arg) (stood : ℕ → Type 0) (tgt : ℕ → Stand) (h : ℕ) → k ≤ h → AllByRecursion (ParamOk p g) params → AreArguments p f params args → ArgsHidden x D L N h args → Passed stood tgt h → Ended stood tgt h params args
  unfolding AreArguments ArgsHidden ArgsWalk end_stood ir_nodes.bound refers all_kept
  args_walk [] [] stood tgt h le ok a hid s =
      let same : h ≡ h + 0 = omega arith in
      record { walk = tt; fits = s.fits; before = λ v o. subst (λ (h : ℕ). AllBefore h (tgt v).rows) same (s.before v o); stays = λ v o. o; refs = λ v r. cc }
  args_walk [] (a ∷ args) stood tgt h le ok t hid s = absurd t
  args_walk (q ∷ params) [] stood tgt h le ok t hid s = absurd t
  args_walk (q ∷ params) (ByValue at a ∷ args) stood tgt h le ok t hid s =
      let r = args_walk params args stood tgt h le ok.1 t.1 hid s in
      let free = ok.0.1.0 t.0.0 in
      let l = value_layout q.reference (layout_of p q.var) ok.0.0.layout t.0.0 in
      let none : h + all_kept args ≡ h + (0 + all_kept args) = omega arith in
      record {
        walk = ((s.fits, ((l.0, (s.own q.var (own_named g (slice_get p.vars q.var) ok.0.0.own) free, l.1)), (expression_walks p f a t.0.1, s.intact q.var free))), r.walk);
        fits = r.fits;
        before = λ v o. subst (λ (i : ℕ). AllBefore i (ir_nodes.bound p fr h params args tgt v).rows) none (r.before v o);
        stays = r.stays;
        refs = λ v e. r.refs v (value_first q.reference (q.var == v) (refers v params) t.0.0 e);
      }
    where
      value_first : (a b c : Bool) → a ≡ false → ((a && b) || c) ≡ true → c ≡ true
      value_first true b c e f = cc
      value_first false b c e f = f
  args_walk (q ∷ params) (ByReference y ∷ args) stood tgt h le ok t hid s =
      let next = passed_on stood tgt h q y t.0.1.place hid.0 le (ok.0.1.1 t.0.0) s in
      let r = args_walk params args (stood_with stood q) (stand_with tgt h q y) (h + access_indices y) (omega (arith, le)) ok.1 t.1 hid.1 next in
      let same : (h + access_indices y) + all_kept args ≡ h + (access_indices y + all_kept args) = omega arith in
      record {
        walk = (ref_walks stood tgt h q y t.0.1.place hid.0 le s, r.walk);
        fits = r.fits;
        before = λ v o. subst (λ (i : ℕ). AllBefore i (ir_nodes.bound p fr (h + access_indices y) params args (stand_with tgt h q y) v).rows) same (r.before v o);
        stays = λ v o. r.stays v (inl o);
        refs = λ v e. from v r.stays r.refs (or_cases (q.reference && q.var == v) (refers v params) e);
      }
    where
      from : (v : ℕ) → ((v : ℕ) → stood_with stood q v → end_of (stood_with stood q) params args v) → ((v : ℕ) → refers v params ≡ true → end_of (stood_with stood q) params args v) →
          ((q.reference && q.var == v) ≡ true) ⊎ (refers v params ≡ true) → end_of (stood_with stood q) params args v
      from v stays refs (inl e) = stays v (inr (sym (same_number q.var v (and_cases q.reference (q.var == v) e).1)))
      from v stays refs (inr e) = refs v e
