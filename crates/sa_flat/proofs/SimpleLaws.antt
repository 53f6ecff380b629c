-- Conditions and assignments of a call: what they leave lies in what their lowered forms leave.
use Rattle.std.proofs.Common.{append-nil, ◌≡◌, ℕ, ◌+◌, ◌*◌, ℤ, true, List, [], ◌∷◌, ◌++◌, refl, sym, ap, subst, ◌∙◌, arith, Option, Some}
use Rattle.std.specs.Prelude.{map, slice_get}
use Rattle.sa_base.specs.declared.num.Num.{Num}
use Rattle.sa_base.specs.declared.num.Num.TheVariants.{I32}
use Rattle.sa_base.specs.declared.pos.Pos.{Pos}
use Rattle.sa_base.specs.declared.alarm.Alarm.{Alarm}
use Rattle.sa_interval.specs.Span.{Span, Within}
use Rattle.sa_typed.specs.Arithmetic.{operate, converted, result_type}
use Rattle.sa_typed.specs.Layouts.{Layout, leaf, layout_of, num_in}
use Rattle.sa_typed.specs.Evaluation.{Setting, Here, Store, Value, Gives, Stops, then_value, given, is_in, range_of, place_of, eval, read_place, access_place}
use Rattle.sa_typed.specs.Executions.{strong_update, converted_value, compound_value, simple_value, declare_value}
use Rattle.sa_typed.specs.WellTyped.{type_of, steps_layout, num_of_input, IsLink}
use Rattle.sa_typed.specs.declared.expr.Expr.{Expr, Read', end_of-Step}
use Rattle.sa_typed.specs.declared.expr.Expr.TheVariants as e
use Rattle.sa_typed.specs.declared.expr.Access.{Access}
use Rattle.sa_typed.specs.declared.expr.Operator.{Operator}
use Rattle.sa_typed.specs.declared.stmt.Simple.TheVariants.{Declare, Assign, Compound}
use Rattle.sa_typed.specs.declared.stmt.Start.TheVariants as begins
use Rattle.sa_typed.specs.declared.program.Place.{Place}
use Rattle.sa_typed.specs.declared.program.Program.{Program}
use Rattle.sa_ir.specs.declared.frame.Kept.{Kept}
use Rattle.sa_ir.specs.Frames.{Frame as Call}
use Rattle.sa_ir.specs.Places.{kept_row, lowered, steps_cells, steps_rows, read_lowered, place, place_at}
use Rattle.sa_ir.specs.Nodes.{simple}
use Rattle.sa_flat.specs.Domain.{Domain}
use Rattle.sa_flat.specs.Meanings.{Meaning, Target, Cells, at_cell, read, operation, cast}
use Rattle.sa_flat.specs.Expressions.{meaning, target}
use Rattle.sa_flat.specs.Assignments.{assignment, store_at, change}
use Rattle.sa_flat.proofs.Lawful.{Lawful, Frame, anywhere, AliveAnd}
use Rattle.sa_flat.proofs.Goods.{alive_is, Good, Holds}
use Rattle.sa_flat.proofs.Operands.{IsCovered, covered_left, covered_right}
use Rattle.sa_flat.proofs.MeaningLaws.{Fit, cast_fit, operation_fit}
use Rattle.sa_flat.proofs.CoverLaws.{Shows, Covers, Means, operation_means}
use Rattle.sa_flat.proofs.UnaryLaws.{cast_means}
use Rattle.sa_flat.proofs.TargetLaws.{Leads, Finds, Places, Among, read_fit, read_means}
use Rattle.sa_flat.proofs.KeepLaws.{ChangeKeeps}
use Rattle.sa_flat.proofs.ChangeLaws.{assignment_keeps, assign_now}
use Rattle.sa_flat.proofs.LaidLaws.{Laid}
use Rattle.sa_flat.proofs.Rolls.{after_rows, target_of, place_target}
use Rattle.sa_flat.proofs.WalkPremises.{Walks, StepsWalk}
use Rattle.sa_flat.proofs.FitExpressions.{FrameFits, InputsFit, fit, leads_place, place_roams}
use Rattle.sa_flat.proofs.MeanExpressions.{ObjectAt, KeptAt, FrameStands, means, access, then_then}
use Rattle.sa_flat.proofs.StateLaws.{Naming, has, has_named, has_kept, point, point_has, has_single, update_has, KeptTo, InFrame, InCall}

-- an access whose indices are walked and that leads there
abbrev pub ReadWalks : Program → (ℕ → Type 0) → Layout → Expr → Type 0
ReadWalks p ok l (Read' v n steps num) = ok v × (StepsWalk p ok steps × (steps_layout (Some (layout_of p v)) steps ≡ Some l))
ReadWalks p ok l _ = ⊥

abbrev pub AccessWalks : Program → (ℕ → Type 0) → Layout → Access → Type 0
AccessWalks p ok l x = ReadWalks p ok l (e.Read x I32)

abbrev some_layout : Layout → Option Layout
some_layout l = Some l

module _ (p : Program) (fr : Call) (x : Cells) (D : Domain) (L : Lawful x D) (ok : ℕ → Type 0) where
  abbrev pub read_target_of : Expr → Target D.Env
  read_target_of a = target_of D x (read_lowered p fr a)

  pub read_leads : (a : Expr) (num : Num) → FrameFits p fr x D L ok → ReadWalks p ok (leaf num) a → Leads x D L num (read_target_of a)
  unfolding lowered read_lowered
  read_leads (Read' v n steps m) num frame h =
      leads_place p fr x D L ok (map kept_row (fr.base v).rows ++ steps_rows p fr (layout_of p v) steps) ((fr.base v).first + steps_cells (layout_of p v) steps) num
      (place_roams p fr x D L ok v steps (leaf num) frame h.0 h.1.1)
  read_leads _ num frame h = absurd h

  pub access_leads : (a : Access) (num : Num) → FrameFits p fr x D L ok → AccessWalks p ok (leaf num) a → Leads x D L num (target D x (place p fr a))
  access_leads a num frame h = subst (λ (t : Target D.Env). Leads x D L num t) (sym (place_target D x (place p fr a))) (read_leads (e.Read a I32) num frame h)

  -- a variable by itself
  abbrev pub VarWalks : Num → ℕ → Type 0
  VarWalks num v = ok v × (layout_of p v ≡ leaf num)

  variable_target : (v : ℕ) (l : Layout) → after_rows D x (map kept_row (fr.base v).rows ++ []) (at_cell D ((fr.base v).first + 0)) ≡ target D x (place_at (fr.base v))
  variable_target v l =
      let a = append-nil (map kept_row (fr.base v).rows) in
      let b : (fr.base v).first + 0 ≡ (fr.base v).first = omega arith in
      rw a (rw b (sym (place_target D x (place_at (fr.base v)))))

  pub variable_leads : (v : ℕ) (num : Num) → FrameFits p fr x D L ok → VarWalks num v → Leads x D L num (target D x (place_at (fr.base v)))
  unfolding lowered steps_layout
  variable_leads v num frame h =
      subst (λ (t : Target D.Env). Leads x D L num t) (variable_target v (leaf num))
      (leads_place p fr x D L ok (map kept_row (fr.base v).rows ++ []) ((fr.base v).first + 0) num (place_roams p fr x D L ok v end_of-Step (leaf num) frame h.0 (some_same h.1)))
    where
      some_same : {l m : Layout} → l ≡ m → Some l ≡ Some m
      some_same e = ap (λ (l : Layout). some_layout l) e

  -- ---- what assignments keep
  module _ (frame : FrameFits p fr x D L ok) (inputs : InputsFit p fr x D L ok) where
    pub value_fit : (num : Num) (q : Pos) (a : Expr) → Walks p ok a → Fit x D L num (cast D q num (meaning D x (lowered p fr a)))
    value_fit num q a h = cast_fit x D L q (type_of a) num (meaning D x (lowered p fr a)) (fit p fr x D L ok frame inputs a h)

    pub declare_keeps : (v : ℕ) (num : Num) (q : Pos) (a : Expr) → VarWalks num v → Walks p ok a → ChangeKeeps x D L (change D x (simple p fr (Declare v (begins.Value q a))))
    unfolding simple change
    declare_keeps v num q a h k =
        let e : num_in (layout_of p v) ≡ num = ap num_in h.1 in
        subst (λ (m : Num). ChangeKeeps x D L (assignment D x (target D x (place_at (fr.base v))) (cast D q m (meaning D x (lowered p fr a))))) (sym e)
        (assignment_keeps x D L num (target D x (place_at (fr.base v))) _ (variable_leads v num frame h) (value_fit num q a k))

    pub compound_fit : (b : Access) (num : Num) (op : Operator) (q : Pos) (work : Num) (a : Expr) → AccessWalks p ok (leaf num) b → Walks p ok a → IsLink op num work (type_of a) →
        Fit x D L num (cast D q num (operation D op q work (read D x (target D x (place p fr b))) (meaning D x (lowered p fr a))))
    compound_fit b num op q work a w h l =
        cast_fit x D L q (result_type op work) num _ (operation_fit x D L op q num work (type_of a) _ _ l (read_fit x D L num (target D x (place p fr b)) (access_leads b num frame w)) (fit p fr x D L ok frame inputs a h))

    pub assign_keeps : (b : Access) (num : Num) (q : Pos) (a : Expr) → AccessWalks p ok (leaf num) b → Walks p ok a → ChangeKeeps x D L (change D x (simple p fr (Assign b num q a)))
    unfolding simple change
    assign_keeps b num q a w h = assignment_keeps x D L num (target D x (place p fr b)) _ (access_leads b num frame w) (value_fit num q a h)

    pub compound_keeps : (b : Access) (num : Num) (op : Operator) (q : Pos) (work : Num) (a : Expr) → AccessWalks p ok (leaf num) b → Walks p ok a → IsLink op num work (type_of a) →
        ChangeKeeps x D L (change D x (simple p fr (Compound b num op q work a)))
    unfolding simple change
    compound_keeps b num op q work a w h l = assignment_keeps x D L num (target D x (place p fr b)) _ (access_leads b num frame w) (compound_fit b num op q work a w h l)

module _ (p : Program) (fr : Call) (x : Cells) (D : Domain) (L : Lawful x D) (ok : ℕ → Type 0) (N : Naming x) (w : Setting) (base : ℕ → Place) (outer : (ℕ → ℤ) → Type 0) where
  -- at each clock an input's range lies in what is said of clocks that hold it
  abbrev pub InputsAlways : Type 0
  InputsAlways = (clock : ℤ) (k : ℕ) (num : Num) → num_of_input (slice_get p.inputs k) ≡ Some num → (s : Span) → Within s clock → (z : ℤ) → is_in (range_of w k) z ≡ true → Within (x.input k s) z

  abbrev pub InThis : Store → ℤ → ℤ → D.Env → Type 0
  InThis = InCall x N D L p ok outer fr base

  abbrev Named : Num → ℕ → Place → Type 0
  Named num c a = N.names c a

  kept_at : (store : Store) (kept : ℕ → ℤ) (here : Here) (l : Layout) (rs : List Kept) (c : ℕ) (a : Place) → KeptTo x N D L kept l rs c a →
      KeptAt p fr x D L ok w here store (has x N store kept) (point x N store kept) (point_has x N store kept) Named l rs c a
  kept_at store kept here l [] c a h = h
  kept_at store kept here l (r ∷ rs) c a h =
      (h.0.0, (h.1.0, h.1.1, (λ at q. sym (has_kept x N store kept r.cell (at r.cell) h.0.1 (q r.cell)) ∙ h.1.2), kept_at store kept here l rs (c + h.1.0 * r.stride) a h.1.3))

  module _ (frame : FrameFits p fr x D L ok) (inputs : InputsFit p fr x D L ok) (always_in : InputsAlways) where
    -- what is known of a state in this call
    module _ (store : Store) (clock : ℤ) (kept : ℕ → ℤ) (stands : InFrame x N D L p ok fr base kept) (outside : outer kept) where
      abbrev here_now : Here
      here_now = record { base = base; clock = clock }

      abbrev Means_here : Meaning D.Env → (List ℤ → Value ℤ) → Type 0
      Means_here m go = Means x D L (has x N store kept) (point x N store kept) (point_has x N store kept) clock m go

      abbrev Places_here : {A : Type 0} → (A → ℕ → Type 0) → Target D.Env → (List ℤ → Value A) → Type 0
      Places_here Is t go = Places x D L (has x N store kept) (point x N store kept) (point_has x N store kept) clock Is t go

      abbrev Object : Layout → Place → ℕ → Type 0
      Object l a c = ObjectAt p fr x D L ok w here_now store (has x N store kept) (point x N store kept) (point_has x N store kept) Named l 0 a c

      frame_stands : FrameStands p fr x D L ok w here_now store (has x N store kept) (point x N store kept) (point_has x N store kept) Named
      frame_stands v o = kept_at store kept here_now (layout_of p v) (fr.base v).rows (fr.base v).first (base v) (stands v o)

      pub expression_means : (a : Expr) → Walks p ok a → Means_here (meaning D x (lowered p fr a)) (λ tape. eval w here_now store a tape)
      expression_means a h =
          means p fr x D L ok w here_now store (has x N store kept) (point x N store kept) (point_has x N store kept) Named frame inputs frame_stands (λ k num e s t z i. always_in clock k num e s t z i)
          (λ num c a n. has_named x N store kept c a n) (λ c z v s h k. has_single x N store kept c z v s h k) a h

      read_places : (a : Expr) (l : Layout) → ReadWalks p ok l a → Places_here (Object l) (read_target_of p fr x D L ok a) (λ tape. read_place w here_now store a tape)
      unfolding lowered read_lowered read_place
      read_places (Read' v n steps m) l h =
          access p fr x D L ok w here_now store (has x N store kept) (point x N store kept) (point_has x N store kept) Named frame inputs frame_stands (λ k num e s t z i. always_in clock k num e s t z i)
          (λ num c a n. has_named x N store kept c a n) (λ c z v s h k. has_single x N store kept c z v s h k) v steps l h.0 h.1.0 h.1.1
      read_places _ l h = absurd h

      pub access_places : (a : Access) (l : Layout) → AccessWalks p ok l a → Places_here (Object l) (target D x (place p fr a)) (λ tape. access_place w here_now store a tape)
      access_places a l h = subst (λ (t : Target D.Env). Places_here (Object l) t (λ tape. access_place w here_now store a tape)) (sym (place_target D x (place p fr a))) (read_places (e.Read a I32) l h)

      pub object_named : (num : Num) (a : Place) (c : ℕ) → Object (leaf num) a c → N.names c a
      unfolding Laid
      object_named num a c s = let b = s.0 in let e = s.1 in let same : c ≡ b = omega (arith, e) in subst (λ (c : ℕ). N.names c a) (sym same) s.2

      pub place_read : (b : Access) (num : Num) → AccessWalks p ok (leaf num) b →
          Means_here (read D x (target D x (place p fr b))) (λ tape. then_value (access_place w here_now store b tape) (λ a tape. Gives (store a) tape))
      place_read b num h =
          read_means x D L (has x N store kept) (point x N store kept) (point_has x N store kept) clock (Object (leaf num)) num (target D x (place p fr b)) (λ tape. access_place w here_now store b tape) store
          (λ c z v s h k. has_single x N store kept c z v s h k) (access_leads p fr x D L ok b num frame h) (access_places b (leaf num) h) (λ a c o. has_named x N store kept c a (object_named num a c o))

      -- ---- an assignment to one element
      -- what an evaluation leaves is in the environment after, and an error is among the alarms
      abbrev pub Leaves : ℤ → Option D.Env → List Alarm → Value Store → Type 0
      Leaves result o alarms (Gives s tape) = AliveAnd (InThis s result clock) o
      Leaves result o alarms (Stops e) = IsCovered alarms e

      -- one element that a target leads to
      pub assigned : (f : Frame) (result : ℤ) (num : Num) (env : D.Env) (t : Target D.Env) (m : Meaning D.Env) (c : ℕ) (a : Place) (z : ℤ) → Good x D L f env → Holds x D L (has x N store kept) clock env → Leads x D L num t → Fit x D L num m →
          Object (leaf num) a c → Among x D L (has x N store kept) (point x N store kept) (point_has x N store kept) clock t env c →
          Shows x D L (has x N store kept) (point x N store kept) (point_has x N store kept) clock m.value env z → AliveAnd (InThis (strong_update a z store) result clock) (store_at D x t m.value env)
      assigned f result num env t m c a z g n leads fits object among shows =
          alive_is (Holds x D L (has x N (strong_update a z store) kept) clock) (InThis (strong_update a z store) result clock) (store_at D x t m.value env) (λ e h. record { kept = kept; frame = stands; outside = outside; holds = h })
          (assign_now x D L f num (has x N store kept) (has x N (strong_update a z store) kept) (point x N store kept) (point x N (strong_update a z store) kept) clock (point_has x N store kept) t m.value env c z
          (point_has x N (strong_update a z store) kept) leads fits.value g n among.among shows (update_has x N D L store kept c a z (object_named num a c object)))

      -- the left side first, and then a value that may go by what stands there
      pub assignment_leaves : (result : ℤ) (num : Num) (env : D.Env) (b : Access) (m : Meaning D.Env) (go : List ℤ → Value ℤ) (next : Place → List ℤ → Value ℤ) (tape : List ℤ) → Good x D L anywhere env →
          Holds x D L (has x N store kept) clock env → AccessWalks p ok (leaf num) b → Fit x D L num m → ((a : Place) (u : List ℤ) → access_place w here_now store b tape ≡ Gives a u →
          (r : Value ℤ) → next a u ≡ r → Covers x D L (has x N store kept) (point x N store kept) (point_has x N store kept) clock m env r) →
          Leaves result ((assignment D x (target D x (place p fr b)) m).after env) ((assignment D x (target D x (place p fr b)) m).alarms env)
          (then_value (access_place w here_now store b tape) (λ a tape. then_value (next a tape) (λ z tape. Gives (strong_update a z store) tape)))
      assignment_leaves result num env b m go next tape g n walks fits covers = first (access_place w here_now store b tape) refl (access_places b (leaf num) walks anywhere env tape g n)
        where
          t : Target D.Env
          t = target D x (place p fr b)

          second : (a : Place) (c : ℕ) → Object (leaf num) a c → Among x D L (has x N store kept) (point x N store kept) (point_has x N store kept) clock (target D x (place p fr b)) env c → (r : Value ℤ) →
              Covers x D L (has x N store kept) (point x N store kept) (point_has x N store kept) clock m env r →
              Leaves result (store_at D x (target D x (place p fr b)) m.value env) ((target D x (place p fr b)).alarms env ++ m.alarms env) (then_value r (λ z tape. Gives (strong_update a z store) tape))
          second a c o am (Gives z u) k = assigned anywhere result num env (target D x (place p fr b)) m c a z g n (access_leads p fr x D L ok b num frame walks) fits o am k.0
          second a c o am (Stops end) k = covered_right ((target D x (place p fr b)).alarms env) (m.alarms env) end k

          first : (v : Value Place) → access_place w here_now store b tape ≡ v → Finds x D L (has x N store kept) (point x N store kept) (point_has x N store kept) clock (Object (leaf num)) (target D x (place p fr b)) env v →
              Leaves result (store_at D x (target D x (place p fr b)) m.value env) ((target D x (place p fr b)).alarms env ++ m.alarms env) (then_value v (λ a tape. then_value (next a tape) (λ z tape. Gives (strong_update a z store) tape)))
          first (Gives a u) e k = second a k.0 k.1 k.2 (next a u) (covers a u e (next a u) refl)
          first (Stops end) e k = covered_left ((target D x (place p fr b)).alarms env) (m.alarms env) end k

      pub variable_places : (v : ℕ) (num : Num) → VarWalks p fr x D L ok num v → Places_here (Object (leaf num)) (target D x (place_at (fr.base v))) (λ tape. Gives (place_of here_now v []) tape)
      unfolding lowered steps_layout eval StepsWalk
      variable_places v num h =
          subst (λ (t : Target D.Env). Places_here (Object (leaf num)) t (λ tape. Gives (place_of here_now v []) tape)) (variable_target p fr x D L ok v (leaf num))
          (access p fr x D L ok w here_now store (has x N store kept) (point x N store kept) (point_has x N store kept) Named frame inputs frame_stands (λ k num e s t z i. always_in clock k num e s t z i)
          (λ num c a n. has_named x N store kept c a n) (λ c z v s h k. has_single x N store kept c z v s h k) v end_of-Step (leaf num) h.0 tt (ap (λ (l : Layout). some_layout l) h.1))

      pub declare_leaves : (result : ℤ) (env : D.Env) (v : ℕ) (num : Num) (q : Pos) (a : Expr) (tape : List ℤ) → Good x D L anywhere env → Holds x D L (has x N store kept) clock env → VarWalks p fr x D L ok num v → Walks p ok a →
          Leaves result ((change D x (simple p fr (Declare v (begins.Value q a)))).after env) ((change D x (simple p fr (Declare v (begins.Value q a)))).alarms env) (simple_value p w here_now (Declare v (begins.Value q a)) store tape)
      unfolding simple change simple_value declare_value
      declare_leaves result env v num q a tape g n walks h =
          let e : num_in (layout_of p v) ≡ num = ap num_in walks.1 in
          subst (λ (k : Num). Leaves result (store_at D x (target D x (place_at (fr.base v))) (cast D q k (meaning D x (lowered p fr a))).value env)
          ((target D x (place_at (fr.base v))).alarms env ++ (cast D q k (meaning D x (lowered p fr a))).alarms env)
          (then_value (converted_value w here_now store k q a tape) (λ z tape. Gives (strong_update (place_of here_now v []) z store) tape))) (sym e)
          (from (converted_value w here_now store num q a tape) (means anywhere env tape g n))
        where
          m : Meaning D.Env
          m = cast D q num (meaning D x (lowered p fr a))

          means : Means_here (cast D q num (meaning D x (lowered p fr a))) (λ tape. converted_value w here_now store num q a tape)
          means = cast_means x D L (has x N store kept) (point x N store kept) (point_has x N store kept) clock q (type_of a) num (meaning D x (lowered p fr a)) (λ tape. eval w here_now store a tape) (fit p fr x D L ok frame inputs a h) (expression_means a h)

          from : (r : Value ℤ) → Covers x D L (has x N store kept) (point x N store kept) (point_has x N store kept) clock (cast D q num (meaning D x (lowered p fr a))) env r →
              Leaves result (store_at D x (target D x (place_at (fr.base v))) (cast D q num (meaning D x (lowered p fr a))).value env) ((target D x (place_at (fr.base v))).alarms env ++ (cast D q num (meaning D x (lowered p fr a))).alarms env)
              (then_value r (λ z tape. Gives (strong_update (place_of here_now v []) z store) tape))
          from (Gives z u) k =
              let at = variable_places v num walks anywhere env tape g n in
              assigned anywhere result num env (target D x (place_at (fr.base v))) (cast D q num (meaning D x (lowered p fr a))) at.0 (place_of here_now v []) z g n (variable_leads p fr x D L ok v num frame walks)
              (value_fit p fr x D L ok frame inputs num q a h) at.1 at.2 k.0
          from (Stops end) k = covered_right ((target D x (place_at (fr.base v))).alarms env) ((cast D q num (meaning D x (lowered p fr a))).alarms env) end k

      pub assign_leaves : (result : ℤ) (env : D.Env) (b : Access) (num : Num) (q : Pos) (a : Expr) (tape : List ℤ) → Good x D L anywhere env → Holds x D L (has x N store kept) clock env → AccessWalks p ok (leaf num) b → Walks p ok a →
          Leaves result ((change D x (simple p fr (Assign b num q a))).after env) ((change D x (simple p fr (Assign b num q a))).alarms env) (simple_value p w here_now (Assign b num q a) store tape)
      unfolding simple change simple_value
      assign_leaves result env b num q a tape g n walks h =
          let m = cast D q num (meaning D x (lowered p fr a)) in
          let means : Means_here m (λ tape. converted_value w here_now store num q a tape) =
          cast_means x D L (has x N store kept) (point x N store kept) (point_has x N store kept) clock q (type_of a) num (meaning D x (lowered p fr a)) (λ tape. eval w here_now store a tape) (fit p fr x D L ok frame inputs a h) (expression_means a h) in
          assignment_leaves result num env b m (λ tape. converted_value w here_now store num q a tape) (λ place tape. converted_value w here_now store num q a tape) tape g n walks (value_fit p fr x D L ok frame inputs num q a h)
          (λ place u e r k. subst (λ (r : Value ℤ). Covers x D L (has x N store kept) (point x N store kept) (point_has x N store kept) clock m env r) k (means anywhere env u g n))

      pub compound_leaves : (result : ℤ) (env : D.Env) (b : Access) (num : Num) (op : Operator) (q : Pos) (work : Num) (a : Expr) (tape : List ℤ) → Good x D L anywhere env → Holds x D L (has x N store kept) clock env →
          AccessWalks p ok (leaf num) b → Walks p ok a → IsLink op num work (type_of a) →
          Leaves result ((change D x (simple p fr (Compound b num op q work a))).after env) ((change D x (simple p fr (Compound b num op q work a))).alarms env) (simple_value p w here_now (Compound b num op q work a) store tape)
      unfolding simple change simple_value
      compound_leaves result env b num op q work a tape g n walks h l =
          let t = target D x (place p fr b) in
          let inner = operation D op q work (read D x t) (meaning D x (lowered p fr a)) in
          let m = cast D q num inner in
          let reads = λ (tape : List ℤ). then_value (access_place w here_now store b tape) (λ a tape. Gives (store a) tape) in
          let worked = λ (tape : List ℤ). then_value (reads tape) (λ y tape. then_value (eval w here_now store a tape) (λ z tape. given q (operate op work y z) tape)) in
          let inner_fit = operation_fit x D L op q num work (type_of a) (read D x t) (meaning D x (lowered p fr a)) l (read_fit x D L num t (access_leads p fr x D L ok b num frame walks)) (fit p fr x D L ok frame inputs a h) in
          let inner_means : Means_here inner worked =
          operation_means x D L (has x N store kept) (point x N store kept) (point_has x N store kept) clock op q num work (type_of a) (read D x t) (meaning D x (lowered p fr a)) reads (λ tape. eval w here_now store a tape) l
          (read_fit x D L num t (access_leads p fr x D L ok b num frame walks)) (fit p fr x D L ok frame inputs a h) (place_read b num walks) (expression_means a h) in
          let means : Means_here m (λ tape. then_value (worked tape) (λ z tape. given q (converted num z) tape)) =
          cast_means x D L (has x N store kept) (point x N store kept) (point_has x N store kept) clock q (result_type op work) num inner worked inner_fit inner_means in
          assignment_leaves result num env b m (λ tape. then_value (worked tape) (λ z tape. given q (converted num z) tape)) (λ place tape. compound_value w here_now store num op work q (store place) a tape) tape g n walks
          (compound_fit p fr x D L ok frame inputs b num op q work a walks h l)
          (λ place u e r k. subst (λ (r : Value ℤ). Covers x D L (has x N store kept) (point x N store kept) (point_has x N store kept) clock m env r)
          (ap (λ (v : Value Place). then_value (then_value (then_value v (λ a tape. Gives (store a) tape)) (λ y tape. then_value (eval w here_now store a tape) (λ z tape. given q (operate op work y z) tape))) (λ z tape. given q (converted num z) tape)) e ∙
          then_then (eval w here_now store a u) (λ z tape. given q (operate op work (store place) z) tape) (λ z tape. given q (converted num z) tape) ∙ k)
          (means anywhere env tape g n))
