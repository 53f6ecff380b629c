-- Each operator on meanings shows the number that is evaluated, has each error among its alarms, and its guards keep the points.
use Rattle.std.proofs.Common.{◌≡◌, ℕ, ℤ, pos, negsuc, ◌+ℤ◌, ◌-ℤ◌, ◌≤ℤ◌, Bool, true, false, not, List, [], ◌++◌, refl, sym, ap, subst, ◌∙◌, arith, Option, Some, None}
use Rattle.std.specs.Prelude.{if◌then◌else◌, IsTrue, Result, Ok, Err, option_map}
use Rattle.std.specs.Int.RustNames.{int_le, int_lt}
use Rattle.std.specs.Ordering.{int_eq}
use Rattle.std.proofs.lemmas.Int.{ints}
use Rattle.sa_base.specs.declared.num.Num.{Num}
use Rattle.sa_base.specs.declared.num.Num.TheVariants.{I32}
use Rattle.sa_base.specs.declared.pos.Pos.{Pos}
use Rattle.sa_base.specs.declared.alarm.Alarm.{Alarm}
use Rattle.sa_base.specs.declared.alarm.Kind.{Kind}
use Rattle.sa_base.specs.declared.alarm.Kind.TheVariants.{Overflow, Conversion}
use Rattle.sa_interval.specs.Span.{Span, Within}
use Rattle.sa_interval.specs.Rows.{single, is_part, sum_of, difference_of}
use Rattle.sa_typed.specs.Arithmetic.{as_num, operate, truth, converted, result_type}
use Rattle.sa_typed.specs.Evaluation.{Error, Value, Gives, Stops, then_value, given, is_zero}
use Rattle.sa_typed.specs.WellTyped.{converts, IsLink}
use Rattle.sa_typed.specs.declared.expr.Operator.{Operator}
use Rattle.sa_typed.specs.declared.expr.Operator.TheVariants as o
use Rattle.sa_operators.specs.Operators.{range_of, IsIn, conversion_alarms, operator_alarms}
use Rattle.sa_env.specs.declared.form.Form.{Form}
use Rattle.sa_flat.specs.Domain.{Domain}
use Rattle.sa_flat.specs.Forms.{negative, sum_form, difference_form, form_number}
use Rattle.sa_flat.specs.Meanings.{Operand, Meaning, Cells, in_alive, with_both, linked, form_within, as_operand, converted_operand, number_operand, both_forms, form_in, both_spans, operation_form, at_most, negated, imposed, bound, equal, unequal, less, at_most_as, truth as truth_of, compared, plain, literal, met, operation_value, operation}
use Rattle.sa_flat.specs.Passes.{alive_then}
use Rattle.sa_flat.proofs.Lawful.{Lawful, Frame, IfAlive, AliveAnd, IsForm}
use Rattle.sa_flat.proofs.Goods.{alive_is, alive_both, alive_on, Good, good_if, either_left, either_right, Pick, Holds, alive_all, holds_stable}
use Rattle.sa_flat.proofs.Numbers.{as_num_same, in_type_same, gives_ok, ok_is, of_part, sum_of_type, difference_of_type, sum_number, negative_number, difference_number, negative_cells, difference_cells}
use Rattle.sa_flat.proofs.Operands.{InSpan, InType, IsCovered, covered_left, covered_right, Given, link_given, convert_given, operand_shows}
use Rattle.sa_flat.proofs.MeaningLaws.{Fits, Fit, bound_good, truth_good, operand_fits, operation_fits}

module _ (x : Cells) (D : Domain) (L : Lawful x D) (has : ℕ → ℤ → Type 0) (one : ℕ → ℤ) (picked : Pick x D L has one) (time : ℤ) where
  abbrev pub Now : D.Env → Type 0
  Now e = Holds x D L has time e

  -- the number of a form at every pick
  abbrev pub IsNumber : ℤ → Option Form → Type 0
  IsNumber z o = IfAlive (λ h. (at : ℕ → ℤ) → Pick x D L has at → form_number h at ≡ z) o

  -- an operand and the number that it has
  pub record Shows (a : Operand D.Env) (env : D.Env) (z : ℤ) : Type 0 where
    pub span : InSpan (a.span env) z
    pub form : IsNumber z (a.form env)

  -- a value is shown and the guard for it keeps the points, an error is among the alarms
  abbrev pub Covers : Meaning D.Env → D.Env → Value ℤ → Type 0
  Covers m env (Gives z tape) = Shows m.value env z × AliveAnd Now (m.guard (not (is_zero z)) env)
  Covers m env (Stops e) = IsCovered (m.alarms env) e

  -- what an evaluation gives on every tape
  abbrev pub Means : Meaning D.Env → (List ℤ → Value ℤ) → Type 0
  Means m go = (f : Frame) (env : D.Env) (tape : List ℤ) → Good x D L f env → Now env → Covers m env (go tape)

  -- ---- imposing
  abbrev IsCells : Option Form → Type 0
  IsCells o = IfAlive (IsForm L.IsCell) o

  impose_now : (f : Frame) (h : Form) (k : ℤ) (env : D.Env) → Good x D L f env → Now env → IsForm L.IsCell h → ((at : ℕ → ℤ) → Pick x D L has at → form_number h at ≤ℤ k) →
      AliveAnd (λ e. Now e × Good x D L f e) (D.impose h k env)
  impose_now f h k env g n c below =
      alive_both Now (Good x D L f) (D.impose h k env)
      (alive_all x D L has one picked (λ e at. D.Point e at time) (D.impose h k env) (λ at q. L.impose_sound f h k env at time c g.under g.closed (n at q) (below at q)))
      (good_if x D L f (D.impose h k env) (L.impose_keeps f h k env g.under g.closed))

  at_most_now : (f : Frame) (o : Option Form) (y k : ℤ) (env : D.Env) → Good x D L f env → Now env → IsCells o → IsNumber y o → y ≤ℤ k →
      AliveAnd (λ e. Now e × Good x D L f e) (at_most D o k env)
  at_most_now f None y k env g n c i h = (n, g)
  at_most_now f (Some w) y k env g n c i h = impose_now f w k env g n c (λ at q. subst (λ (z : ℤ). z ≤ℤ k) (sym (i at q)) h)

  difference_is : (o u : Option Form) (y z : ℤ) → IsNumber y o → IsNumber z u → IsNumber (y -ℤ z) (both_forms o u difference_form)
  difference_is None u y z h k = tt
  difference_is (Some f) None y z h k = tt
  difference_is (Some f) (Some g) y z h k = from (difference_form f g) refl
    where
      from : (d : Option Form) → difference_form f g ≡ d → IsNumber (y -ℤ z) d
      from None e = tt
      from (Some d) e = λ at q. difference_number f g d at e ∙ (let a = h at q in let b = k at q in rw a (rw b refl))

  difference_cells_of : (o u : Option Form) → IsCells o → IsCells u → IsCells (both_forms o u difference_form)
  difference_cells_of None u h k = tt
  difference_cells_of (Some f) None h k = tt
  difference_cells_of (Some f) (Some g) h k = difference_cells L.IsCell f g h k

  pub negated_is : (o : Option Form) (z : ℤ) → IsNumber z o → IsNumber (pos 0 -ℤ z) (option_map negative o)
  negated_is None z h = tt
  negated_is (Some f) z h = λ at q. negative_number f at ∙ ap (λ (k : ℤ). pos 0 -ℤ k) (h at q)

  negated_cells : (o : Option Form) → IsCells o → IsCells (option_map negative o)
  negated_cells None h = tt
  negated_cells (Some f) h = negative_cells L.IsCell f h

  imposed_now : (f : Frame) (d o u : Option Form) (s t : Span) (y z k : ℤ) (env : D.Env) → Good x D L f env → Now env → IsCells d → IsNumber (y -ℤ z) d → IsCells o → IsNumber y o → IsCells u → IsNumber z u →
      Within s y → Within t z → (y -ℤ z) ≤ℤ k → AliveAnd Now (imposed D d o u s t k env)
  imposed_now f (Some h) o u s t y z k env g n dc di oc oi uc ui ys zt le =
      alive_is (λ e. Now e × Good x D L f e) Now (D.impose h k env) (λ e p. p.0) (at_most_now f (Some h) (y -ℤ z) k env g n dc di le)
  imposed_now f None o u s t y z k env g n dc di oc oi uc ui ys zt le =
      let top = zt.below in
      let low = ys.above in
      alive_on (λ e. Now e × Good x D L f e) Now (at_most D o (k +ℤ t.hi) env) (at_most D (negated D u) (k -ℤ s.lo))
      (at_most_now f o y (k +ℤ t.hi) env g n oc oi (omega (arith, ints)))
      (λ e p. alive_is (λ e. Now e × Good x D L f e) Now (at_most D (negated D u) (k -ℤ s.lo) e) (λ e p. p.0)
      (at_most_now f (negated D u) (pos 0 -ℤ z) (k -ℤ s.lo) e p.1 p.0 (negated_cells u uc) (negated_is u z ui) (omega (arith, ints))))

  -- ---- bounds of two numbers
  pub bound_now : (f : Frame) (num work : Num) (a b : Operand D.Env) (y z k : ℤ) (env : D.Env) → Good x D L f env → Now env → Fits x D L num a → Fits x D L work b → Shows a env y → Shows b env z →
      (y -ℤ z) ≤ℤ k → AliveAnd Now (bound D a b k env)
  unfolding bound
  bound_now f num work a b y z k env g n fa fb ya zb le = from (a.span env) (b.span env) ya.span zb.span
    where
      from : (s t : Option Span) → InSpan s y → InSpan t z →
          AliveAnd Now (alive_then s (λ s. alive_then t (λ t. if int_lt k (s.lo -ℤ t.hi) then None else imposed D (both_forms (a.form env) (b.form env) difference_form) (a.form env) (b.form env) s t k env)))
      from None t h i = absurd h
      from (Some s) None h i = absurd i
      from (Some s) (Some t) h i =
          let low = h.above in
          let top = i.below in
          let test : int_lt k (s.lo -ℤ t.hi) ≡ false = grind (arith, ints) in
          rw test (imposed_now f (both_forms (a.form env) (b.form env) difference_form) (a.form env) (b.form env) s t y z k env g n
          (difference_cells_of (a.form env) (b.form env) (fa.form env) (fb.form env)) (difference_is (a.form env) (b.form env) y z ya.form zb.form) (fa.form env) ya.form (fb.form env) zb.form h i le)

  -- ---- comparisons
  -- an operand has this number wherever it is evaluated
  abbrev pub Always : Operand D.Env → ℤ → Type 0
  Always a y = (f : Frame) (env : D.Env) → Good x D L f env → Now env → Shows a env y

  -- two operands and their numbers
  pub record Pair (a b : Operand D.Env) (y z : ℤ) : Type 0 where
    pub left : Num
    pub right : Num
    pub fits_left : Fits x D L left a
    pub fits_right : Fits x D L right b
    pub first : Always a y
    pub second : Always b z

  turned_pair : (a b : Operand D.Env) (y z : ℤ) → Pair a b y z → Pair b a z y
  turned_pair a b y z h = record { left = h.right; right = h.left; fits_left = h.fits_right; fits_right = h.fits_left; first = h.second; second = h.first }

  pair_bound : (f : Frame) (a b : Operand D.Env) (y z k : ℤ) (env : D.Env) → Good x D L f env → Now env → Pair a b y z → (y -ℤ z) ≤ℤ k → AliveAnd Now (bound D a b k env)
  pair_bound f a b y z k env g n h le = bound_now f h.left h.right a b y z k env g n h.fits_left h.fits_right (h.first f env g n) (h.second f env g n) le

  same_difference : (y z : ℤ) → y ≡ z → ((y -ℤ z) ≤ℤ pos 0) × ((z -ℤ y) ≤ℤ pos 0)
  same_difference y z e = subst (λ (w : ℤ). ((y -ℤ w) ≤ℤ pos 0) × ((w -ℤ y) ≤ℤ pos 0)) e (omega (arith, ints), omega (arith, ints))

  pub equal_now : (f : Frame) (a b : Operand D.Env) (y z : ℤ) (env : D.Env) → Good x D L f env → Now env → Pair a b y z → y ≡ z → AliveAnd Now (equal D a b env)
  equal_now f a b y z env g n h e =
      let le = same_difference y z e in
      alive_on (λ e. Now e × Good x D L f e) Now (bound D a b (pos 0) env) (bound D b a (pos 0))
      (alive_both Now (Good x D L f) (bound D a b (pos 0) env) (pair_bound f a b y z (pos 0) env g n h le.0) (bound_good x D L f a b (pos 0) env g))
      (λ e p. pair_bound f b a z y (pos 0) e p.1 p.0 (turned_pair a b y z h) le.1)

  pub unequal_now : (f : Frame) (a b : Operand D.Env) (y z : ℤ) (env : D.Env) → Good x D L f env → Now env → Pair a b y z → int_eq y z ≡ false → AliveAnd Now (unequal D a b env)
  unequal_now f a b y z env g n h e =
      let u = bound_good x D L f a b (negsuc 0) env g in
      let v = bound_good x D L f b a (negsuc 0) env g in
      elim (int_lt y z) as (λ t. int_lt y z ≡ t → AliveAnd Now (unequal D a b env)) [
        | true ↦ λ t. either_left x D L Now (holds_stable x D L has time one picked) f (bound D a b (negsuc 0) env) (bound D b a (negsuc 0) env) u v
            (pair_bound f a b y z (negsuc 0) env g n h (grind (arith, ints)))
        | false ↦ λ t. either_right x D L Now (holds_stable x D L has time one picked) f (bound D a b (negsuc 0) env) (bound D b a (negsuc 0) env) u v
            (pair_bound f b a z y (negsuc 0) env g n (turned_pair a b y z h) (grind (arith, ints)))
      ] refl

  less_now : (f : Frame) (a b : Operand D.Env) (y z : ℤ) (env : D.Env) → Good x D L f env → Now env → Pair a b y z → int_lt y z ≡ true → AliveAnd Now (less D a b env)
  less_now f a b y z env g n h e = pair_bound f a b y z (negsuc 0) env g n h (grind (arith, ints))

  at_most_is : (f : Frame) (a b : Operand D.Env) (y z : ℤ) (env : D.Env) → Good x D L f env → Now env → Pair a b y z → int_le y z ≡ true → AliveAnd Now (at_most_as D a b env)
  at_most_is f a b y z env g n h e = pair_bound f a b y z (pos 0) env g n h (grind (arith, ints))

  pub eq_fact : (y z : ℤ) → int_eq y z ≡ true → y ≡ z
  eq_fact y z e = grind (arith, ints)

  not_less : (y z : ℤ) → int_lt y z ≡ false → int_le z y ≡ true
  not_less y z e = grind (arith, ints)

  not_at_most : (y z : ℤ) → int_le y z ≡ false → int_lt z y ≡ true
  not_at_most y z e = grind (arith, ints)

  -- a number is always itself
  pub number_fits : (num : Num) (z : ℤ) → IsIn num (single z) → Fits x D L num (number_operand z)
  number_fits num z h = record { span = λ f env g. h; form = λ env. (tt, tt) }

  pub number_shows : (z : ℤ) → Always (number_operand z) z
  number_shows z f env g n = record { span = record { above = omega (arith, ints); below = omega (arith, ints) }; form = λ at q. omega (arith, ints) }

  zero_in : IsIn I32 (single (pos 0))
  zero_in = record { ordered = omega (arith, ints); part = record { above = omega (arith, ints); below = omega (arith, ints) } }

  zero_pair : (num : Num) (a : Operand D.Env) (y : ℤ) → Fits x D L num a → Always a y → Pair a (number_operand (pos 0)) y (pos 0)
  zero_pair num a y h k = record { left = num; right = I32; fits_left = h; fits_right = number_fits I32 (pos 0) zero_in; first = k; second = number_shows (pos 0) }

  -- the guard of a value
  pub truth_now : (f : Frame) (num : Num) (a : Operand D.Env) (y : ℤ) (env : D.Env) → Good x D L f env → Now env → Fits x D L num a → Always a y → AliveAnd Now (truth_of D a (not (is_zero y)) env)
  unfolding truth_of
  truth_now f num a y env g n h k =
      elim (int_eq y (pos 0)) as (λ t. int_eq y (pos 0) ≡ t → AliveAnd Now (truth_of D a (not t) env)) [
        | true ↦ λ e. equal_now f a (number_operand (pos 0)) y (pos 0) env g n (zero_pair num a y h k) (eq_fact y (pos 0) e)
        | false ↦ λ e. unequal_now f a (number_operand (pos 0)) y (pos 0) env g n (zero_pair num a y h k) e
      ] refl

  plain_covers : (num : Num) (a : Operand D.Env) (alarms : D.Env → List Alarm) (z : ℤ) → Fits x D L num a → Always a z → (f : Frame) (env : D.Env) → Good x D L f env → Now env →
      Shows a env z × AliveAnd Now ((plain D a alarms).guard (not (is_zero z)) env)
  plain_covers num a alarms z h k f env g n = (k f env g n, truth_now f num a z env g n h k)

  pub literal_fit : (num : Num) (z : ℤ) → IsIn num (single z) → Fit x D L num (literal D z)
  literal_fit num z h = record { value = number_fits num z h; guard = λ f so env g. truth_good x D L f (number_operand z) so env g }

  pub literal_means : (num : Num) (z : ℤ) → IsIn num (single z) → Means (literal D z) (λ tape. Gives z tape)
  literal_means num z h f env tape g n = plain_covers num (number_operand z) (λ env. []) z (number_fits num z h) (number_shows z) f env g n

  -- ---- comparisons by whether they hold
  by_truth : (op : Operator) (a b v : Operand D.Env) (k : ℤ) (t : Bool) (env : D.Env) → gives_ok (truth t) ≡ gives_ok k → AliveAnd Now (compared D op a b v t env) →
      AliveAnd Now (compared D op a b v (not (is_zero k)) env)
  by_truth op a b v k t env e h = subst (λ (z : ℤ). AliveAnd Now (compared D op a b v (not (is_zero z)) env)) (ok_is (truth t) k e) (from t h)
    where
      from : (t : Bool) → AliveAnd Now (compared D op a b v t env) → AliveAnd Now (compared D op a b v (not (is_zero (truth t))) env)
      from true h = h
      from false h = h

  -- the guard of an operator
  compared_now : (f : Frame) (op : Operator) (left work right num : Num) (a b v : Operand D.Env) (y z k : ℤ) (env : D.Env) → Good x D L f env → Now env → IsLink op left work right →
      (IsTrue (converts right work) → Pair a b (as_num work y) (as_num work z)) → Fits x D L num v → Always v k → operate op work y z ≡ Ok k → AliveAnd Now (compared D op a b v (not (is_zero k)) env)
  unfolding compared operate
  compared_now f o.Equal left work right num a b v y z k env g n l h fv kv e =
      by_truth o.Equal a b v k (int_eq (as_num work y) (as_num work z)) env e
      (elim (int_eq (as_num work y) (as_num work z)) as (λ t. int_eq (as_num work y) (as_num work z) ≡ t → AliveAnd Now (compared D o.Equal a b v t env)) [
        | true ↦ λ t. equal_now f a b (as_num work y) (as_num work z) env g n (h l.second) (eq_fact (as_num work y) (as_num work z) t)
        | false ↦ λ t. unequal_now f a b (as_num work y) (as_num work z) env g n (h l.second) t
      ] refl)
  compared_now f o.NotEqual left work right num a b v y z k env g n l h fv kv e =
      by_truth o.NotEqual a b v k (not (int_eq (as_num work y) (as_num work z))) env e
      (elim (int_eq (as_num work y) (as_num work z)) as (λ t. int_eq (as_num work y) (as_num work z) ≡ t → AliveAnd Now (compared D o.NotEqual a b v (not t) env)) [
        | true ↦ λ t. equal_now f a b (as_num work y) (as_num work z) env g n (h l.second) (eq_fact (as_num work y) (as_num work z) t)
        | false ↦ λ t. unequal_now f a b (as_num work y) (as_num work z) env g n (h l.second) t
      ] refl)
  compared_now f o.Less left work right num a b v y z k env g n l h fv kv e =
      by_truth o.Less a b v k (int_lt (as_num work y) (as_num work z)) env e
      (elim (int_lt (as_num work y) (as_num work z)) as (λ t. int_lt (as_num work y) (as_num work z) ≡ t → AliveAnd Now (compared D o.Less a b v t env)) [
        | true ↦ λ t. less_now f a b (as_num work y) (as_num work z) env g n (h l.second) t
        | false ↦ λ t. at_most_is f b a (as_num work z) (as_num work y) env g n (turned_pair a b (as_num work y) (as_num work z) (h l.second)) (not_less (as_num work y) (as_num work z) t)
      ] refl)
  compared_now f o.LessEqual left work right num a b v y z k env g n l h fv kv e =
      by_truth o.LessEqual a b v k (int_le (as_num work y) (as_num work z)) env e
      (elim (int_le (as_num work y) (as_num work z)) as (λ t. int_le (as_num work y) (as_num work z) ≡ t → AliveAnd Now (compared D o.LessEqual a b v t env)) [
        | true ↦ λ t. at_most_is f a b (as_num work y) (as_num work z) env g n (h l.second) t
        | false ↦ λ t. less_now f b a (as_num work z) (as_num work y) env g n (turned_pair a b (as_num work y) (as_num work z) (h l.second)) (not_at_most (as_num work y) (as_num work z) t)
      ] refl)
  compared_now f o.Greater left work right num a b v y z k env g n l h fv kv e =
      by_truth o.Greater a b v k (int_lt (as_num work z) (as_num work y)) env e
      (elim (int_lt (as_num work z) (as_num work y)) as (λ t. int_lt (as_num work z) (as_num work y) ≡ t → AliveAnd Now (compared D o.Greater a b v t env)) [
        | true ↦ λ t. less_now f b a (as_num work z) (as_num work y) env g n (turned_pair a b (as_num work y) (as_num work z) (h l.second)) t
        | false ↦ λ t. at_most_is f a b (as_num work y) (as_num work z) env g n (h l.second) (not_less (as_num work z) (as_num work y) t)
      ] refl)
  compared_now f o.GreaterEqual left work right num a b v y z k env g n l h fv kv e =
      by_truth o.GreaterEqual a b v k (int_le (as_num work z) (as_num work y)) env e
      (elim (int_le (as_num work z) (as_num work y)) as (λ t. int_le (as_num work z) (as_num work y) ≡ t → AliveAnd Now (compared D o.GreaterEqual a b v t env)) [
        | true ↦ λ t. at_most_is f b a (as_num work z) (as_num work y) env g n (turned_pair a b (as_num work y) (as_num work z) (h l.second)) t
        | false ↦ λ t. less_now f a b (as_num work y) (as_num work z) env g n (h l.second) (not_at_most (as_num work z) (as_num work y) t)
      ] refl)
  compared_now f o.Plus left work right num a b v y z k env g n l h fv kv e = truth_now f num v k env g n fv kv
  compared_now f o.Minus left work right num a b v y z k env g n l h fv kv e = truth_now f num v k env g n fv kv
  compared_now f o.Times left work right num a b v y z k env g n l h fv kv e = truth_now f num v k env g n fv kv
  compared_now f o.Divide left work right num a b v y z k env g n l h fv kv e = truth_now f num v k env g n fv kv
  compared_now f o.Remainder left work right num a b v y z k env g n l h fv kv e = truth_now f num v k env g n fv kv
  compared_now f o.ShiftLeft left work right num a b v y z k env g n l h fv kv e = truth_now f num v k env g n fv kv
  compared_now f o.ShiftRight left work right num a b v y z k env g n l h fv kv e = truth_now f num v k env g n fv kv
  compared_now f o.BitAnd left work right num a b v y z k env g n l h fv kv e = truth_now f num v k env g n fv kv
  compared_now f o.BitXor left work right num a b v y z k env g n l h fv kv e = truth_now f num v k env g n fv kv
  compared_now f o.BitOr left work right num a b v y z k env g n l h fv kv e = truth_now f num v k env g n fv kv

  -- ---- numbers under conversions
  pub within_number : (num : Num) (s : Span) (o : Option Form) (z w : ℤ) → (is_part s (range_of num) ≡ true → z ≡ w) → IsNumber z o → IsNumber w (form_within num s o)
  within_number num s o z w k h =
      elim (is_part s (range_of num)) as (λ b. is_part s (range_of num) ≡ b → IsNumber w (if b then o else None)) [
        | true ↦ λ e. subst (λ (u : ℤ). IsNumber u o) (k e) h
        | false ↦ λ e. tt
      ] refl

  kept_number : (num : Num) (s : Option Span) (o : Option Form) (z w : ℤ) → ((s : Span) → Within s z → is_part s (range_of num) ≡ true → z ≡ w) → InSpan s z → IsNumber z o →
      IsNumber w (alive_then s (λ s. form_within num s o))
  kept_number num None o z w k i h = absurd i
  kept_number num (Some s) o z w k i h = within_number num s o z w (λ e. k s i e) h

  pub operand_always : (from num : Num) (a : Operand D.Env) (z : ℤ) → IsTrue (converts from num) → Fits x D L from a → Always a z → Always (as_operand num a) (as_num num z)
  operand_always from num a z c h k f env g n =
      let s = k f env g n in
      record {
        span = operand_shows from num (a.span env) z (h.span f env g) s.span;
        form = kept_number num (a.span env) (a.form env) z (as_num num z) (λ t i e. sym (as_num_same num z (of_part num t z e i))) s.span s.form;
      }

  -- a conversion that gives a number
  pub converted_always : (q : Pos) (from num : Num) (a : Operand D.Env) (z w : ℤ) → Fits x D L from a → Always a z → converted num z ≡ Ok w → Always (converted_operand num a) w
  converted_always q from num a z w h k e f env g n =
      let s = k f env g n in
      record {
        span = subst (λ (r : Result ℤ Kind). Given ((converted_operand num a).span env) (in_alive (a.span env) (conversion_alarms num q)) (given q r [])) e
            (convert_given q from num (a.span env) z [] (h.span f env g) s.span);
        form = kept_number num (a.span env) (a.form env) z w (λ t i p. ok_is z w (sym (in_type_same Conversion num z (of_part num t z p i)) ∙ e)) s.span s.form;
      }

  -- ---- sums and differences
  sum_is : (o u : Option Form) (y z : ℤ) → IsNumber y o → IsNumber z u → IsNumber (y +ℤ z) (both_forms o u sum_form)
  sum_is None u y z h k = tt
  sum_is (Some f) None y z h k = tt
  sum_is (Some f) (Some g) y z h k = from (sum_form f g) refl
    where
      from : (d : Option Form) → sum_form f g ≡ d → IsNumber (y +ℤ z) d
      from None e = tt
      from (Some d) e = λ at q. sum_number f g d at e ∙ (let a = h at q in let b = k at q in rw a (rw b refl))

  spans_number : (first second num : Num) (s t : Option Span) (row : Span → Span → Span) (o : Option Form) (y z r w : ℤ) → InType first s → InType second t → InSpan s y → InSpan t z →
      ((a b : Span) → a.lo ≤ℤ a.hi → b.lo ≤ℤ b.hi → Within a y → Within b z → is_part (row a b) (range_of num) ≡ true → r ≡ w) → IsNumber r o → IsNumber w (form_in num (both_spans s t row) o)
  spans_number first second num None t row o y z r w is it iy iz k h = absurd iy
  spans_number first second num (Some a) None row o y z r w is it iy iz k h = absurd iz
  spans_number first second num (Some a) (Some b) row o y z r w is it iy iz k h = within_number num (row a b) o r w (k a b is.ordered it.ordered iy iz) h

  operation_number : (op : Operator) (left work right : Num) (a b : Operand D.Env) (y z k : ℤ) (f : Frame) (env : D.Env) → Good x D L f env → Now env → IsLink op left work right →
      (IsTrue (converts right work) → Pair a b (as_num work y) (as_num work z)) → operate op work y z ≡ Ok k → IsNumber k (operation_form op work a b env)
  unfolding operation_form operate
  operation_number o.Plus left work right a b y z k f env g n l h e =
      let p = h l.second in
      let s = p.first f env g n in
      let t = p.second f env g n in
      let sum = as_num work y +ℤ as_num work z in
      spans_number p.left p.right work (a.span env) (b.span env) sum_of (both_forms (a.form env) (b.form env) sum_form) (as_num work y) (as_num work z) sum k
      (p.fits_left.span f env g) (p.fits_right.span f env g) s.span t.span
      (λ c d oc od ic id is. ok_is sum k (sym (in_type_same Overflow work sum (sum_of_type work c d (as_num work y) (as_num work z) oc od ic id is)) ∙ e))
      (sum_is (a.form env) (b.form env) (as_num work y) (as_num work z) s.form t.form)
  operation_number o.Minus left work right a b y z k f env g n l h e =
      let p = h l.second in
      let s = p.first f env g n in
      let t = p.second f env g n in
      let less = as_num work y -ℤ as_num work z in
      spans_number p.left p.right work (a.span env) (b.span env) difference_of (both_forms (a.form env) (b.form env) difference_form) (as_num work y) (as_num work z) less k
      (p.fits_left.span f env g) (p.fits_right.span f env g) s.span t.span
      (λ c d oc od ic id is. ok_is less k (sym (in_type_same Overflow work less (difference_of_type work c d (as_num work y) (as_num work z) oc od ic id is)) ∙ e))
      (difference_is (a.form env) (b.form env) (as_num work y) (as_num work z) s.form t.form)
  operation_number op left work right a b y z k f env g n l h e = tt

  -- what the domain knows of a form
  met_shows : (f : Frame) (h : Option Form) (s : Option Span) (z : ℤ) (env : D.Env) → Good x D L f env → Now env → IsCells h → IsNumber z h → InSpan s z → InSpan (met D h s env) z
  met_shows f None s z env g n c i k = k
  met_shows f (Some h) None z env g n c i k = absurd k
  met_shows f (Some h) (Some s) z env g n c i k =
      let e = i one picked in
      subst (λ (w : ℤ). InSpan (D.within h s env) w) e (L.within_sound f h s env one time c g.under g.closed (n one picked) (subst (λ (w : ℤ). Within s w) (sym e) k))

  operands : (op : Operator) (left work right : Num) (a b : Operand D.Env) (y z : ℤ) → IsLink op left work right → Fits x D L left a → Fits x D L right b → Always a y → Always b z →
      IsTrue (converts right work) → Pair (as_operand work a) (as_operand work b) (as_num work y) (as_num work z)
  operands op left work right a b y z l fa fb ya zb c = record {
    left = work;
    right = work;
    fits_left = operand_fits x D L left work a l.first fa;
    fits_right = operand_fits x D L right work b c fb;
    first = operand_always left work a y l.first fa ya;
    second = operand_always right work b z c fb zb;
  }

  operation_always : (op : Operator) (q : Pos) (left work right : Num) (a b : Operand D.Env) (y z k : ℤ) → IsLink op left work right → Fits x D L left a → Fits x D L right b → Always a y → Always b z →
      operate op work y z ≡ Ok k → Always (operation_value D op work a b) k
  operation_always op q left work right a b y z k l fa fb ya zb e f env g n =
      let s = ya f env g n in
      let t = zb f env g n in
      let u = as_operand work a in
      let v = as_operand work b in
      let number : IsNumber k (operation_form op work u v env) = operation_number op left work right u v y z k f env g n l (operands op left work right a b y z l fa fb ya zb) e in
      let given_k : InSpan (linked op work (a.span env) (b.span env)) k =
      subst (λ (r : Result ℤ Kind). Given (linked op work (a.span env) (b.span env)) (with_both (a.span env) (b.span env) (operator_alarms op q work)) (given q r [])) e
      (link_given op q left work right (a.span env) (b.span env) y z [] l (fa.span f env g) (fb.span f env g) s.span t.span) in
      record {
        span = met_shows f (operation_form op work u v env) (linked op work (a.span env) (b.span env)) k env g n ((operation_fits x D L op left work right a b l fa fb).form env) number given_k;
        form = number;
      }

  -- ---- one evaluation after another
  pub always : (m : Meaning D.Env) (go : List ℤ → Value ℤ) (tape rest : List ℤ) (z : ℤ) → Means m go → go tape ≡ Gives z rest → Always m.value z
  always m go tape rest z h e f env g n =
      let c : Covers m env (Gives z rest) = subst (λ (v : Value ℤ). Covers m env v) e (h f env tape g n) in c.0

  pub operation_means : (op : Operator) (q : Pos) (left work right : Num) (a b : Meaning D.Env) (go next : List ℤ → Value ℤ) → IsLink op left work right → Fit x D L left a → Fit x D L right b →
      Means a go → Means b next → Means (operation D op q work a b) (λ tape. then_value (go tape) (λ y tape. then_value (next tape) (λ z tape. given q (operate op work y z) tape)))
  operation_means op q left work right a b go next l fa fb ha hb f env tape g n = first (go tape) refl
    where
      done : (y z : ℤ) (t : List ℤ) → Always a.value y → Always b.value z → (r : Result ℤ Kind) → operate op work y z ≡ r → Covers (operation D op q work a b) env (given q r t)
      done y z t ya zb (Ok k) e =
          let v = operation_value D op work a.value b.value in
          let fv = operation_fits x D L op left work right a.value b.value l fa.value fb.value in
          let kv = operation_always op q left work right a.value b.value y z k l fa.value fb.value ya zb e in (
            kv f env g n,
            compared_now f op left work right (result_type op work) (as_operand work a.value) (as_operand work b.value) v y z k env g n l
                (operands op left work right a.value b.value y z l fa.value fb.value ya zb) fv kv e,
          )
      done y z t ya zb (Err kind) e =
          let s = ya f env g n in
          let u = zb f env g n in
          let bad : IsCovered (with_both (a.value.span env) (b.value.span env) (operator_alarms op q work)) (Error q kind) =
          subst (λ (r : Result ℤ Kind). Given (linked op work (a.value.span env) (b.value.span env)) (with_both (a.value.span env) (b.value.span env) (operator_alarms op q work)) (given q r t)) e
          (link_given op q left work right (a.value.span env) (b.value.span env) y z t l (fa.value.span f env g) (fb.value.span f env g) s.span u.span) in
          covered_right (a.alarms env) (b.alarms env ++ with_both (a.value.span env) (b.value.span env) (operator_alarms op q work)) (Error q kind)
          (covered_right (b.alarms env) (with_both (a.value.span env) (b.value.span env) (operator_alarms op q work)) (Error q kind) bad)

      second : (y : ℤ) (t : List ℤ) → Always a.value y → (v : Value ℤ) → next t ≡ v → Covers (operation D op q work a b) env (then_value v (λ z tape. given q (operate op work y z) tape))
      second y t ya (Gives z u) e = done y z u ya (always b next t u z hb e) (operate op work y z) refl
      second y t ya (Stops end) e =
          covered_right (a.alarms env) (b.alarms env ++ with_both (a.value.span env) (b.value.span env) (operator_alarms op q work)) end
          (covered_left (b.alarms env) (with_both (a.value.span env) (b.value.span env) (operator_alarms op q work)) end
          (subst (λ (v : Value ℤ). Covers b env v) e (hb f env t g n)))

      first : (v : Value ℤ) → go tape ≡ v → Covers (operation D op q work a b) env (then_value v (λ y tape. then_value (next tape) (λ z tape. given q (operate op work y z) tape)))
      first (Gives y t) e = second y t (always a go tape t y ha e) (next t) refl
      first (Stops end) e = covered_left (a.alarms env) (b.alarms env ++ with_both (a.value.span env) (b.value.span env) (operator_alarms op q work)) end (subst (λ (v : Value ℤ). Covers a env v) e (ha f env tape g n))
