-- Hidden cells: the result of a call goes to its cell, and from there to its destination; an index of a reference is kept in one.
use Rattle.std.proofs.Common.{◌≡◌, ◌≢◌, ℕ, ◌<◌, ℤ, pos, Bool, true, false, ◌&&◌, List, [], ◌∷◌, ◌++◌, refl, sym, ap, subst, ◌∙◌, arith, Option, Some, None, ◌⊎◌, inl, inr}
use Rattle.std.specs.Prelude.{if◌then◌else◌, ◌==◌, unsigned_abs}
use Rattle.std.specs.Int.RustNames.{int_le, int_lt}
use Rattle.std.proofs.lemmas.Int.{ints}
use Rattle.std.proofs.lemmas.Bool.Decides.{nat_tests}
use Rattle.sa_base.specs.declared.num.Num.{Num}
use Rattle.sa_base.specs.declared.pos.Pos.{Pos}
use Rattle.sa_base.specs.declared.alarm.Alarm.{Alarm}
use Rattle.sa_base.specs.declared.alarm.Kind.TheVariants.{Index}
use Rattle.sa_interval.specs.Span.{Span}
use Rattle.sa_interval.specs.Rows.{is_part}
use Rattle.sa_typed.specs.Arithmetic.{converted}
use Rattle.sa_typed.specs.Evaluation.{Setting, Here, Store, Value, Gives, Stops, Error, then_value, given, checked_index, eval, access_place}
use Rattle.sa_typed.specs.Executions.{strong_update, converted_value}
use Rattle.sa_typed.specs.Layouts.{leaf}
use Rattle.sa_typed.specs.WellTyped.{type_of}
use Rattle.sa_typed.specs.declared.expr.Expr.{Expr}
use Rattle.sa_typed.specs.declared.expr.Access.{Access}
use Rattle.sa_typed.specs.declared.program.Place.{Place}
use Rattle.sa_typed.specs.declared.program.Program.{Program}
use Rattle.sa_ir.specs.declared.expr.IrExpr.TheVariants as e
use Rattle.sa_ir.specs.Frames.{Frame as Call}
use Rattle.sa_ir.specs.Places.{lowered, only, place}
use Rattle.sa_operators.specs.Alarms.{IsAmong}
use Rattle.sa_flat.specs.Domain.{Domain}
use Rattle.sa_flat.specs.Meanings.{Meaning, Target, Cells, in_alive, indices, index_alarms, at_cell, read, cast}
use Rattle.sa_flat.specs.Expressions.{meaning, target}
use Rattle.sa_flat.specs.Assignments.{assignment, store_at, keep}
use Rattle.sa_flat.proofs.Lawful.{Lawful, Frame, anywhere, AliveAnd}
use Rattle.sa_flat.proofs.Goods.{alive_is, Stable, Good, Pick, Holds, holds_stable}
use Rattle.sa_flat.proofs.MeaningLaws.{Fit, cast_fit}
use Rattle.sa_flat.proofs.Operands.{InSpan, IsCovered, covered_left, covered_right}
use Rattle.sa_flat.proofs.CoverLaws.{Covers, Means}
use Rattle.sa_flat.proofs.UnaryLaws.{cast_means}
use Rattle.sa_flat.proofs.TargetLaws.{IsOfType, Leads, Places, cell_places, read_fit, read_means}
use Rattle.sa_flat.proofs.ChangeLaws.{Agree, assign_now, keep_now}
use Rattle.sa_flat.proofs.Rolls.{place_target, read_meaning}
use Rattle.sa_flat.proofs.WalkPremises.{Walks}
use Rattle.sa_flat.proofs.FitExpressions.{FrameFits, InputsFit, fit}
use Rattle.sa_flat.proofs.StateLaws.{Naming, has_by, has, has_kept, has_single, point, point_has, with_cell, with_same, with_agrees, with_pick, InFrame}
use Rattle.sa_flat.proofs.SimpleLaws.{InputsAlways, AccessWalks, Leaves, value_fit, expression_means, assignment_leaves}

module _ (x : Cells) (N : Naming x) where
  pub kept_has : (st : Store) (kept : ℕ → ℤ) (c : ℕ) → N.shown c ≡ false → has x N st kept c (kept c)
  unfolding has
  kept_has st kept c e = subst (λ (b : Bool). has_by x N b st kept c (kept c)) (sym e) refl

  other_kept : (st : Store) (kept bt : ℕ → ℤ) (c d : ℕ) (y : ℤ) → ((d : ℕ) → d ≢ c → kept d ≡ bt d) → d ≢ c → has x N st bt d y → has x N st kept d y
  unfolding has
  other_kept st kept bt c d y agree o h =
      elim (N.shown d) as (λ b. has_by x N b st bt d y → has_by x N b st kept d y) [
        | true ↦ λ h. h
        | false ↦ λ h. agree d o ∙ h
      ] h

  module _ (D : Domain) (L : Lawful x D) where
    -- one hidden cell gets a number
    pub hidden_updates : (st : Store) (kept : ℕ → ℤ) (c : ℕ) (z : ℤ) → N.shown c ≡ false → (bt : ℕ → ℤ) → Pick x D L (has x N st (with_cell x N c z kept)) bt →
        (at : ℕ → ℤ) × Pick x D L (has x N st kept) at × Agree c at bt × (bt c ≡ z)
    hidden_updates st kept c z s bt p = (
      with_cell x N c (kept c) bt,
      with_pick x N st kept c (kept c) bt (kept_has st kept c s) (λ d o. other_kept st kept (with_cell x N c z kept) c d (bt d) (with_agrees x N c z kept) o (p d)),
      with_agrees x N c (kept c) bt,
      sym (has_kept x N st (with_cell x N c z kept) c (bt c) s (p c)) ∙ with_same x N c z kept,
    )

    -- what is said where a call has returned: what is told of hidden cells and the result, and what the calls outside say holds
    pub record Returned (outer : (ℕ → ℤ) → Type 0) (told : (ℕ → ℤ) → ℤ → Type 0) (store : Store) (result clock : ℤ) (e : D.Env) : Type 0 where
      pub kept : ℕ → ℤ
      pub outside : outer kept
      pub is_result : told kept result
      pub holds : Holds x D L (has x N store kept) clock e

    pub returned_stable : (outer : (ℕ → ℤ) → Type 0) (told : (ℕ → ℤ) → ℤ → Type 0) (store : Store) (result clock : ℤ) → Stable x D L (Returned outer told store result clock)
    returned_stable outer told store result clock = record {
      left = λ f a b u v h. record { kept = h.kept; outside = h.outside; is_result = h.is_result; holds = (stable h.kept).left f a b u v h.holds };
      right = λ f a b u v h. record { kept = h.kept; outside = h.outside; is_result = h.is_result; holds = (stable h.kept).right f a b u v h.holds };
      below = λ f a b u v le h. record { kept = h.kept; outside = h.outside; is_result = h.is_result; holds = (stable h.kept).below f a b u v le h.holds };
      reduced = λ f a u h. alive_is (Holds x D L (has x N store h.kept) clock) (Returned outer told store result clock) (D.reduce x.all a)
          (λ e i. record { kept = h.kept; outside = h.outside; is_result = h.is_result; holds = i }) ((stable h.kept).reduced f a u h.holds);
    }
      where
        stable : (kept : ℕ → ℤ) → Stable x D L (Holds x D L (has x N store kept) clock)
        stable kept = holds_stable x D L (has x N store kept) clock (point x N store kept) (point_has x N store kept)

    -- the cell has the result
    abbrev pub in_cell : ℕ → (ℕ → ℤ) → ℤ → Type 0
    in_cell k kept z = kept k ≡ z

    abbrev pub untold : (ℕ → ℤ) → ℤ → Type 0
    untold kept z = Unit {0}

    pub only_leads : (num : Num) (k : ℕ) → IsOfType x D L num k → Leads x D L num (target D x (only k))
    only_leads num k o =
        let at : Leads x D L num (at_cell D k) = record { cells = λ f env g. (o, tt); fixed = o.cell } in
        subst (λ (t : Target D.Env). Leads x D L num t) (sym (place_target D x (only k))) at

    only_read : (k : ℕ) (num : Num) → meaning D x (e.Read (only k) num) ≡ read D x (target D x (only k))
    only_read k num = read_meaning D x (only k) num ∙ ap (λ (t : Target D.Env). read D x t) (sym (place_target D x (only k)))

    pub only_read_fit : (k : ℕ) (num : Num) → IsOfType x D L num k → Fit x D L num (meaning D x (e.Read (only k) num))
    only_read_fit k num o = subst (λ (m : Meaning D.Env). Fit x D L num m) (sym (only_read k num)) (read_fit x D L num (target D x (only k)) (only_leads num k o))

module _ (p : Program) (fr : Call) (x : Cells) (D : Domain) (L : Lawful x D) (ok : ℕ → Type 0) (N : Naming x) (w : Setting) (base : ℕ → Place) (outer : (ℕ → ℤ) → Type 0)
    (frame : FrameFits p fr x D L ok) (inputs : InputsFit p fr x D L ok) (always_in : InputsAlways p fr x D L ok N w base outer)
    (store : Store) (clock : ℤ) (kept : ℕ → ℤ) (stands : InFrame x N D L p ok fr base kept) (outside : outer kept) where
  abbrev pub here : Here
  here = record { base = base; clock = clock }

  -- ---- a return
  abbrev pub Returns : Option D.Env → List Alarm → Value ℤ → Type 0
  Returns o alarms (Gives z tape) = AliveAnd (Returned x N D L outer (in_cell x N D L fr.result) store z clock) o
  Returns o alarms (Stops e) = IsCovered alarms e

  pub return_leaves : (env : D.Env) (num : Num) (q : Pos) (a : Expr) (tape : List ℤ) → Good x D L anywhere env → Holds x D L (has x N store kept) clock env → Walks p ok a → IsOfType x D L num fr.result →
      N.shown fr.result ≡ false → ((z : ℤ) → outer (with_cell x N fr.result z kept)) →
      Returns (store_at D x (target D x (only fr.result)) (cast D q num (meaning D x (lowered p fr a))).value env) ((target D x (only fr.result)).alarms env ++ (cast D q num (meaning D x (lowered p fr a))).alarms env)
      (converted_value w here store num q a tape)
  return_leaves env num q a tape g n h o s stays = from (converted_value w here store num q a tape) (means anywhere env tape g n)
    where
      means : (f : Frame) (env : D.Env) (tape : List ℤ) → Good x D L f env → Holds x D L (has x N store kept) clock env →
          Covers x D L (has x N store kept) (point x N store kept) (point_has x N store kept) clock (cast D q num (meaning D x (lowered p fr a))) env (converted_value w here store num q a tape)
      means = cast_means x D L (has x N store kept) (point x N store kept) (point_has x N store kept) clock q (type_of a) num (meaning D x (lowered p fr a)) (λ tape. eval w here store a tape) (fit p fr x D L ok frame inputs a h)
          (expression_means p fr x D L ok N w base outer frame inputs always_in store clock kept stands outside a h)

      from : (v : Value ℤ) → Covers x D L (has x N store kept) (point x N store kept) (point_has x N store kept) clock (cast D q num (meaning D x (lowered p fr a))) env v →
          Returns (store_at D x (target D x (only fr.result)) (cast D q num (meaning D x (lowered p fr a))).value env) ((target D x (only fr.result)).alarms env ++ (cast D q num (meaning D x (lowered p fr a))).alarms env) v
      from (Gives z u) k =
          let after = with_cell x N fr.result z kept in
          alive_is (Holds x D L (has x N store after) clock) (Returned x N D L outer (in_cell x N D L fr.result) store z clock) (store_at D x (target D x (only fr.result)) (cast D q num (meaning D x (lowered p fr a))).value env)
          (λ e i. record { kept = after; outside = stays z; is_result = with_same x N fr.result z kept; holds = i })
          (assign_now x D L anywhere num (has x N store kept) (has x N store after) (point x N store kept) (point x N store after) clock (point_has x N store kept) (target D x (only fr.result)) (cast D q num (meaning D x (lowered p fr a))).value env
          fr.result z (point_has x N store after) (only_leads x N D L num fr.result o) (value_fit p fr x D L ok frame inputs num q a h).value g n among k.0
          (λ bt q. inl (hidden_updates x N D L store kept fr.result z s bt q)))
        where
          among : AliveAnd (λ ks. IsAmong fr.result ks) ((target D x (only fr.result)).cells env)
          among = subst (λ (t : Target D.Env). AliveAnd (λ ks. IsAmong fr.result ks) (t.cells env)) (sym (place_target D x (only fr.result))) (inl refl)
      from (Stops end) k = covered_right ((target D x (only fr.result)).alarms env) ((cast D q num (meaning D x (lowered p fr a))).alarms env) end k

  -- ---- the destination of a result
  result_means : (k : ℕ) (num : Num) (result : ℤ) → IsOfType x D L num k → N.shown k ≡ false → kept k ≡ result →
      Means x D L (has x N store kept) (point x N store kept) (point_has x N store kept) clock (read D x (target D x (only k))) (λ tape. Gives result tape)
  result_means k num result o s is =
      read_means x D L (has x N store kept) (point x N store kept) (point_has x N store kept) clock (λ (a c : ℕ). c ≡ k) num (target D x (only k)) (λ tape. Gives k tape) (λ a. result)
      (λ c z v u h i. has_single x N store kept c z v u h i) (only_leads x N D L num k o)
      (subst (λ (t : Target D.Env). Places x D L (has x N store kept) (point x N store kept) (point_has x N store kept) clock (λ (a c : ℕ). c ≡ k) t (λ tape. Gives k tape)) (sym (place_target D x (only k)))
      (cell_places x D L (has x N store kept) (point x N store kept) (point_has x N store kept) clock (λ (a c : ℕ). c ≡ k) k k refl))
      (λ a c e. subst (λ (c : ℕ). has x N store kept c result) (sym e) (subst (λ (z : ℤ). has x N store kept k z) is (kept_has x N store kept k s)))

  pub deliver_leaves : (k : ℕ) (result : ℤ) (env : D.Env) (num to : Num) (q : Pos) (b : Access) (tape : List ℤ) → Good x D L anywhere env → Holds x D L (has x N store kept) clock env → AccessWalks p ok (leaf to) b →
      IsOfType x D L num k → N.shown k ≡ false → kept k ≡ result →
      Leaves p fr x D L ok N w base outer frame inputs always_in store clock kept stands outside result ((assignment D x (target D x (place p fr b)) (cast D q to (meaning D x (e.Read (only k) num)))).after env)
      ((assignment D x (target D x (place p fr b)) (cast D q to (meaning D x (e.Read (only k) num)))).alarms env)
      (then_value (access_place w here store b tape) (λ a tape. then_value (given q (converted to result) tape) (λ z tape. Gives (strong_update a z store) tape)))
  deliver_leaves k result env num to q b tape g n walks o s is =
      subst (λ (m : Meaning D.Env). Leaves p fr x D L ok N w base outer frame inputs always_in store clock kept stands outside result ((assignment D x (target D x (place p fr b)) (cast D q to m)).after env)
      ((assignment D x (target D x (place p fr b)) (cast D q to m)).alarms env)
      (then_value (access_place w here store b tape) (λ a tape. then_value (given q (converted to result) tape) (λ z tape. Gives (strong_update a z store) tape)))) (sym (only_read x N D L k num))
      (assignment_leaves p fr x D L ok N w base outer frame inputs always_in store clock kept stands outside result to env b (cast D q to (read D x (target D x (only k)))) (λ tape. given q (converted to result) tape)
      (λ a tape. given q (converted to result) tape) tape g n walks (cast_fit x D L q num to (read D x (target D x (only k))) fits)
      (λ a u e r i. subst (λ (r : Value ℤ). Covers x D L (has x N store kept) (point x N store kept) (point_has x N store kept) clock (cast D q to (read D x (target D x (only k)))) env r) i (means anywhere env u g n)))
    where
      fits : Fit x D L num (read D x (target D x (only k)))
      fits = read_fit x D L num (target D x (only k)) (only_leads x N D L num k o)

      means : Means x D L (has x N store kept) (point x N store kept) (point_has x N store kept) clock (cast D q to (read D x (target D x (only k)))) (λ tape. given q (converted to result) tape)
      means = cast_means x D L (has x N store kept) (point x N store kept) (point_has x N store kept) clock q num to (read D x (target D x (only k))) (λ tape. Gives result tape) fits (result_means k num result o s is)

  -- ---- an index that is kept
  abbrev pub KeepsIndex : ℕ → ℕ → Option D.Env → List Alarm → Value ℕ → Type 0
  KeepsIndex c size o alarms (Gives k tape) = (k < size) × AliveAnd (Holds x D L (has x N store (with_cell x N c (pos k) kept)) clock) o
  KeepsIndex c size o alarms (Stops e) = IsCovered alarms e

  pub keep_leaves : (c size : ℕ) (q : Pos) (a : Expr) (env : D.Env) (tape : List ℤ) → Good x D L anywhere env → Holds x D L (has x N store kept) clock env → Walks p ok a → IsOfType x D L (type_of a) c → N.shown c ≡ false →
      KeepsIndex c size (keep D x c size (meaning D x (lowered p fr a)) env)
      ((meaning D x (lowered p fr a)).alarms env ++ in_alive ((meaning D x (lowered p fr a)).value.span env) (index_alarms q size))
      (then_value (eval w here store a tape) (λ z tape. checked_index q size z tape))
  keep_leaves c size q a env tape g n h o s =
      from (eval w here store a tape) (expression_means p fr x D L ok N w base outer frame inputs always_in store clock kept stands outside a h anywhere env tape g n)
    where
      outside_of : (o : Option Span) (z : ℤ) → InSpan o z → (int_le (pos 0) z && int_lt z (pos size)) ≡ false → IsCovered (in_alive o (index_alarms q size)) (Error q Index)
      outside_of None z s e = absurd s
      outside_of (Some r) z s e =
          let a = s.above in
          let b = s.below in
          let out : is_part r (indices size) ≡ false = grind (arith, ints) in
          rw out (inl refl)

      now : (k : ℕ) → InSpan ((meaning D x (lowered p fr a)).value.span env) (pos k) → k < size → AliveAnd (Holds x D L (has x N store (with_cell x N c (pos k) kept)) clock) (keep D x c size (meaning D x (lowered p fr a)) env)
      now k shown less =
          keep_now x D L anywhere (type_of a) (has x N store kept) (has x N store (with_cell x N c (pos k) kept)) (point x N store (with_cell x N c (pos k) kept)) clock c size k (meaning D x (lowered p fr a)) env
          (point_has x N store (with_cell x N c (pos k) kept)) o (fit p fr x D L ok frame inputs a h) g n shown less (λ bt u. hidden_updates x N D L store kept c (pos k) s bt u)

      from : (v : Value ℤ) → Covers x D L (has x N store kept) (point x N store kept) (point_has x N store kept) clock (meaning D x (lowered p fr a)) env v →
          KeepsIndex c size (keep D x c size (meaning D x (lowered p fr a)) env) ((meaning D x (lowered p fr a)).alarms env ++ in_alive ((meaning D x (lowered p fr a)).value.span env) (index_alarms q size))
          (then_value v (λ z tape. checked_index q size z tape))
      from (Gives z u) k =
          elim (int_le (pos 0) z && int_lt z (pos size)) as (λ b. (int_le (pos 0) z && int_lt z (pos size)) ≡ b →
          KeepsIndex c size (keep D x c size (meaning D x (lowered p fr a)) env) ((meaning D x (lowered p fr a)).alarms env ++ in_alive ((meaning D x (lowered p fr a)).value.span env) (index_alarms q size))
          (if b then Gives (unsigned_abs z) u else Stops (Error q Index))) [
            | true ↦ λ e.
                let is : pos (unsigned_abs z) ≡ z = grind (arith, ints) in
                let less : unsigned_abs z < size = grind (arith, ints) in
                (less, now (unsigned_abs z) (subst (λ (z : ℤ). InSpan ((meaning D x (lowered p fr a)).value.span env) z) (sym is) k.0.span) less)
            | false ↦ λ e. covered_right ((meaning D x (lowered p fr a)).alarms env) (in_alive ((meaning D x (lowered p fr a)).value.span env) (index_alarms q size)) (Error q Index)
                (outside_of ((meaning D x (lowered p fr a)).value.span env) z k.0.span e)
          ] refl
      from (Stops end) k = covered_left ((meaning D x (lowered p fr a)).alarms env) (in_alive ((meaning D x (lowered p fr a)).value.span env) (index_alarms q size)) end k
