-- What meanings owe: values stay in their types and show the numbers that are evaluated, errors are among the alarms, and a
-- guard keeps the states in which the condition is so. Each operator on meanings owes it where its parts do.
use Rattle.std.proofs.Common.{ℤ, pos, negsuc, ◌+ℤ◌, ◌-ℤ◌, Bool, true, false, not, List, Option, Some, None}
use Rattle.std.specs.Prelude.{if◌then◌else◌, IsTrue, option_map}
use Rattle.std.specs.Int.RustNames.{int_lt}
use Rattle.sa_base.specs.declared.num.Num.{Num}
use Rattle.sa_base.specs.declared.pos.Pos.{Pos}
use Rattle.sa_base.specs.declared.alarm.Alarm.{Alarm}
use Rattle.sa_interval.specs.Span.{Span}
use Rattle.sa_interval.specs.Rows.{is_part, sum_of, difference_of}
use Rattle.sa_typed.specs.Arithmetic.{result_type, prefix_type}
use Rattle.sa_typed.specs.WellTyped.{converts, IsLink}
use Rattle.sa_typed.specs.declared.expr.Operator.{Operator}
use Rattle.sa_typed.specs.declared.expr.Operator.TheVariants as o
use Rattle.sa_typed.specs.declared.expr.Prefix.{Prefix}
use Rattle.sa_typed.specs.declared.expr.Prefix.TheVariants as p
use Rattle.sa_operators.specs.Operators.{range_of, negated_span}
use Rattle.sa_env.specs.declared.form.Form.{Form}
use Rattle.sa_flat.specs.Domain.{Domain}
use Rattle.sa_flat.specs.Forms.{negative, sum_form, difference_form}
use Rattle.sa_flat.specs.Meanings.{Operand, Meaning, Cells, linked, form_within, as_operand, converted_operand, number_operand, both_forms, both_spans, operation_form, prefix_form, at_most, negated, imposed, bound, equal, unequal, truth as truth_of, compared, plain, met, operation_value, operation, prefix_value, prefix_guard, prefixed, cast}
use Rattle.sa_flat.specs.Passes.{alive_then}
use Rattle.sa_flat.proofs.Lawful.{Lawful, Frame, IfAlive, IsForm}
use Rattle.sa_flat.proofs.Goods.{alive_keeps, Good, GoodIf, good_if, either_good}
use Rattle.sa_flat.proofs.Numbers.{sum_cells, negative_cells, difference_cells}
use Rattle.sa_flat.proofs.Operands.{InType, link_in, prefix_in, convert_in, operand_in}

module _ (x : Cells) (D : Domain) (L : Lawful x D) where
  -- ---- types and frames
  pub record Fits (num : Num) (a : Operand D.Env) : Type 0 where
    pub span : (f : Frame) (env : D.Env) → Good x D L f env → InType num (a.span env)
    pub form : (env : D.Env) → IfAlive (IsForm L.IsCell) (a.form env)

  pub record Fit (num : Num) (m : Meaning D.Env) : Type 0 where
    pub value : Fits num m.value
    pub guard : (f : Frame) (so : Bool) (env : D.Env) → Good x D L f env → GoodIf x D L f (m.guard so env)

  impose_good : (f : Frame) (h : Form) (k : ℤ) (env : D.Env) → Good x D L f env → GoodIf x D L f (D.impose h k env)
  impose_good f h k env g = good_if x D L f (D.impose h k env) (L.impose_keeps f h k env g.under g.closed)

  at_most_good : (f : Frame) (o : Option Form) (k : ℤ) (env : D.Env) → Good x D L f env → GoodIf x D L f (at_most D o k env)
  at_most_good f None k env g = g
  at_most_good f (Some h) k env g = impose_good f h k env g

  imposed_good : (f : Frame) (d o u : Option Form) (s t : Span) (k : ℤ) (env : D.Env) → Good x D L f env → GoodIf x D L f (imposed D d o u s t k env)
  imposed_good f (Some h) o u s t k env g = impose_good f h k env g
  imposed_good f None o u s t k env g =
      alive_keeps (Good x D L f) (Good x D L f) (at_most D o (k +ℤ t.hi) env) (at_most D (negated D u) (k -ℤ s.lo)) (at_most_good f o (k +ℤ t.hi) env g) (λ e g. at_most_good f (negated D u) (k -ℤ s.lo) e g)

  pub bound_good : (f : Frame) (a b : Operand D.Env) (k : ℤ) (env : D.Env) → Good x D L f env → GoodIf x D L f (bound D a b k env)
  unfolding bound
  bound_good f a b k env g = from (a.span env) (b.span env)
    where
      from : (s t : Option Span) → GoodIf x D L f (alive_then s (λ s. alive_then t (λ t. if int_lt k (s.lo -ℤ t.hi) then None else imposed D (both_forms (a.form env) (b.form env) difference_form) (a.form env) (b.form env) s t k env)))
      from None t = tt
      from (Some s) None = tt
      from (Some s) (Some t) =
          elim (int_lt k (s.lo -ℤ t.hi)) as (λ q. GoodIf x D L f (if q then None else imposed D (both_forms (a.form env) (b.form env) difference_form) (a.form env) (b.form env) s t k env)) [
            | true ↦ tt
            | false ↦ imposed_good f (both_forms (a.form env) (b.form env) difference_form) (a.form env) (b.form env) s t k env g
          ]

  pub equal_good : (f : Frame) (a b : Operand D.Env) (env : D.Env) → Good x D L f env → GoodIf x D L f (equal D a b env)
  equal_good f a b env g = alive_keeps (Good x D L f) (Good x D L f) (bound D a b (pos 0) env) (bound D b a (pos 0)) (bound_good f a b (pos 0) env g) (λ e g. bound_good f b a (pos 0) e g)

  pub unequal_good : (f : Frame) (a b : Operand D.Env) (env : D.Env) → Good x D L f env → GoodIf x D L f (unequal D a b env)
  unequal_good f a b env g = either_good x D L f (bound D a b (negsuc 0) env) (bound D b a (negsuc 0) env) (bound_good f a b (negsuc 0) env g) (bound_good f b a (negsuc 0) env g)

  pub truth_good : (f : Frame) (a : Operand D.Env) (so : Bool) (env : D.Env) → Good x D L f env → GoodIf x D L f (truth_of D a so env)
  unfolding truth_of
  truth_good f a true env g = unequal_good f a (number_operand (pos 0)) env g
  truth_good f a false env g = equal_good f a (number_operand (pos 0)) env g

  compared_good : (f : Frame) (op : Operator) (a b v : Operand D.Env) (so : Bool) (env : D.Env) → Good x D L f env → GoodIf x D L f (compared D op a b v so env)
  unfolding compared
  compared_good f o.Equal a b v true env g = equal_good f a b env g
  compared_good f o.Equal a b v false env g = unequal_good f a b env g
  compared_good f o.NotEqual a b v true env g = unequal_good f a b env g
  compared_good f o.NotEqual a b v false env g = equal_good f a b env g
  compared_good f o.Less a b v true env g = bound_good f a b (negsuc 0) env g
  compared_good f o.Less a b v false env g = bound_good f b a (pos 0) env g
  compared_good f o.LessEqual a b v true env g = bound_good f a b (pos 0) env g
  compared_good f o.LessEqual a b v false env g = bound_good f b a (negsuc 0) env g
  compared_good f o.Greater a b v true env g = bound_good f b a (negsuc 0) env g
  compared_good f o.Greater a b v false env g = bound_good f a b (pos 0) env g
  compared_good f o.GreaterEqual a b v true env g = bound_good f b a (pos 0) env g
  compared_good f o.GreaterEqual a b v false env g = bound_good f a b (negsuc 0) env g
  compared_good f op a b v so env g = truth_good f v so env g

  pub plain_fit : (num : Num) (a : Operand D.Env) (alarms : D.Env → List Alarm) → Fits num a → Fit num (plain D a alarms)
  plain_fit num a alarms h = record { value = h; guard = λ f so env g. truth_good f a so env g }

  -- ---- forms of cells
  within_form : (num : Num) (s : Span) (o : Option Form) → IfAlive (IsForm L.IsCell) o → IfAlive (IsForm L.IsCell) (form_within num s o)
  within_form num s o h = elim (is_part s (range_of num)) as (λ b. IfAlive (IsForm L.IsCell) (if b then o else None)) [ true ↦ h | false ↦ tt ]

  kept_form : (num : Num) (s : Option Span) (o : Option Form) → IfAlive (IsForm L.IsCell) o → IfAlive (IsForm L.IsCell) (alive_then s (λ s. form_within num s o))
  kept_form num None o h = tt
  kept_form num (Some s) o h = within_form num s o h

  both_form : (f g : Option Form) (join : Form → Form → Option Form) → ((f g : Form) → IsForm L.IsCell f → IsForm L.IsCell g → IfAlive (IsForm L.IsCell) (join f g)) →
      IfAlive (IsForm L.IsCell) f → IfAlive (IsForm L.IsCell) g → IfAlive (IsForm L.IsCell) (both_forms f g join)
  both_form None g join j h k = tt
  both_form (Some f) None join j h k = tt
  both_form (Some f) (Some g) join j h k = j f g h k

  operand_form : (num : Num) (a : Operand D.Env) (env : D.Env) → IfAlive (IsForm L.IsCell) (a.form env) → IfAlive (IsForm L.IsCell) ((as_operand num a).form env)
  operand_form num a env h = kept_form num (a.span env) (a.form env) h

  operation_forms : (op : Operator) (num : Num) (a b : Operand D.Env) (env : D.Env) → IfAlive (IsForm L.IsCell) (a.form env) → IfAlive (IsForm L.IsCell) (b.form env) →
      IfAlive (IsForm L.IsCell) (operation_form op num a b env)
  unfolding operation_form
  operation_forms o.Plus num a b env h k =
      kept_form num (both_spans (a.span env) (b.span env) sum_of) (both_forms (a.form env) (b.form env) sum_form) (both_form (a.form env) (b.form env) sum_form (λ f g h k. sum_cells L.IsCell f g h k) h k)
  operation_forms o.Minus num a b env h k =
      kept_form num (both_spans (a.span env) (b.span env) difference_of) (both_forms (a.form env) (b.form env) difference_form) (both_form (a.form env) (b.form env) difference_form (λ f g h k. difference_cells L.IsCell f g h k) h k)
  operation_forms op num a b env h k = tt

  negative_forms : (o : Option Form) → IfAlive (IsForm L.IsCell) o → IfAlive (IsForm L.IsCell) (option_map negative o)
  negative_forms None h = tt
  negative_forms (Some f) h = negative_cells L.IsCell f h

  prefix_forms : (op : Prefix) (num : Num) (a : Operand D.Env) (env : D.Env) → IfAlive (IsForm L.IsCell) (a.form env) → IfAlive (IsForm L.IsCell) (prefix_form op num a env)
  unfolding prefix_form
  prefix_forms p.Minus num a env h = kept_form num (option_map (negated_span num) (a.span env)) (option_map negative (a.form env)) (negative_forms (a.form env) h)
  prefix_forms op num a env h = tt

  -- ---- operators keep types
  met_in : (f : Frame) (num : Num) (h : Option Form) (s : Option Span) (env : D.Env) → Good x D L f env → InType num s → InType num (met D h s env)
  met_in f num None s env g k = k
  met_in f num (Some h) None env g k = tt
  met_in f num (Some h) (Some s) env g k = L.within_in f h num s env g.under g.closed k

  pub operand_fits : (from num : Num) (a : Operand D.Env) → IsTrue (converts from num) → Fits from a → Fits num (as_operand num a)
  operand_fits from num a c h = record {
    span = λ f env g. operand_in from num (a.span env) c (h.span f env g);
    form = λ env. operand_form num a env (h.form env);
  }

  pub converted_fits : (from num : Num) (a : Operand D.Env) → Fits from a → Fits num (converted_operand num a)
  converted_fits from num a h = record {
    span = λ f env g. convert_in from num (a.span env) (h.span f env g);
    form = λ env. kept_form num (a.span env) (a.form env) (h.form env);
  }

  pub operation_fits : (op : Operator) (left work right : Num) (a b : Operand D.Env) → IsLink op left work right → Fits left a → Fits right b → Fits (result_type op work) (operation_value D op work a b)
  operation_fits op left work right a b l h k = record {
    span = λ f env g. met_in f (result_type op work) (operation_form op work (as_operand work a) (as_operand work b) env) (linked op work (a.span env) (b.span env)) env g
        (link_in op left work right (a.span env) (b.span env) l (h.span f env g) (k.span f env g));
    form = λ env. operation_forms op work (as_operand work a) (as_operand work b) env (operand_form work a env (h.form env)) (operand_form work b env (k.form env));
  }

  pub operation_fit : (op : Operator) (q : Pos) (left work right : Num) (a b : Meaning D.Env) → IsLink op left work right → Fit left a → Fit right b → Fit (result_type op work) (operation D op q work a b)
  operation_fit op q left work right a b l h k = record {
    value = operation_fits op left work right a.value b.value l h.value k.value;
    guard = λ f so env g. compared_good f op (as_operand work a.value) (as_operand work b.value) (operation_value D op work a.value b.value) so env g;
  }

  pub prefix_fits : (op : Prefix) (from num : Num) (a : Operand D.Env) → IsTrue (converts from num) → Fits from a → Fits (prefix_type op num) (prefix_value D op num a)
  prefix_fits op from num a c h = record {
    span = λ f env g. prefix_in op from num (a.span env) c (h.span f env g);
    form = λ env. prefix_forms op num (as_operand num a) env (operand_form num a env (h.form env));
  }

  prefix_guard_good : (f : Frame) (op : Prefix) (from num : Num) (a : Meaning D.Env) → Fit from a → (so : Bool) (env : D.Env) → Good x D L f env → GoodIf x D L f (prefix_guard D op num a so env)
  unfolding prefix_guard
  prefix_guard_good f p.Not from num a h so env g = h.guard f (not so) env g
  prefix_guard_good f p.Minus from num a h so env g = truth_good f (prefix_value D p.Minus num a.value) so env g
  prefix_guard_good f p.Plus from num a h so env g = truth_good f (prefix_value D p.Plus num a.value) so env g
  prefix_guard_good f p.Complement from num a h so env g = truth_good f (prefix_value D p.Complement num a.value) so env g

  pub prefix_fit : (op : Prefix) (q : Pos) (from num : Num) (a : Meaning D.Env) → IsTrue (converts from num) → Fit from a → Fit (prefix_type op num) (prefixed D op q num a)
  prefix_fit op q from num a c h = record { value = prefix_fits op from num a.value c h.value; guard = λ f so env g. prefix_guard_good f op from num a h so env g }

  pub cast_fit : (q : Pos) (from num : Num) (a : Meaning D.Env) → Fit from a → Fit num (cast D q num a)
  cast_fit q from num a h = plain_fit num (converted_operand num a.value) _ (converted_fits from num a.value h.value)
