-- Casts and operators before their operand: they show what is evaluated.
use Rattle.std.proofs.Common.{◌≡◌, ℕ, ℤ, pos, ◌-ℤ◌, Bool, true, false, not, List, [], refl, sym, subst, ◌∙◌, arith, Option, Some, None}
use Rattle.std.specs.Prelude.{IsTrue, Result, Ok, Err, option_map}
use Rattle.std.specs.Ordering.{int_eq}
use Rattle.std.proofs.lemmas.Int.{ints}
use Rattle.sa_base.specs.declared.num.Num.{Num}
use Rattle.sa_base.specs.declared.num.Num.TheVariants.{I8, U8, I16, U16, I32, U32, I64, U64}
use Rattle.sa_base.specs.declared.pos.Pos.{Pos}
use Rattle.sa_base.specs.declared.alarm.Kind.{Kind}
use Rattle.sa_base.specs.declared.alarm.Kind.TheVariants.{Overflow}
use Rattle.sa_interval.specs.Span.{Span, Within}
use Rattle.sa_interval.specs.Rows.{single}
use Rattle.sa_typed.specs.Arithmetic as arithmetic
use Rattle.sa_typed.specs.Arithmetic.{IsOf, as_num, truth, converted, promoted, prefix_type}
use Rattle.sa_typed.specs.Evaluation.{Error, Value, Gives, Stops, then_value, given, is_zero}
use Rattle.sa_typed.specs.WellTyped.{converts}
use Rattle.sa_typed.specs.declared.expr.Prefix.{Prefix}
use Rattle.sa_typed.specs.declared.expr.Prefix.TheVariants as p
use Rattle.sa_operators.specs.Operators.{range_of, conversion_alarms, prefix_span, prefix_alarms, negated_span}
use Rattle.sa_operators.proofs.FitLaws.{within_part}
use Rattle.sa_flat.specs.Domain.{Domain}
use Rattle.sa_flat.specs.Forms.{negative}
use Rattle.sa_flat.specs.Meanings.{Operand, Meaning, Cells, in_alive, as_operand, converted_operand, form_in, prefix_form, prefix_value, prefix_guard, prefixed, cast}
use Rattle.sa_flat.specs.Passes.{alive_then}
use Rattle.sa_flat.proofs.Lawful.{Lawful, Frame, AliveAnd}
use Rattle.sa_flat.proofs.Goods.{Good, Pick}
use Rattle.sa_flat.proofs.Numbers.{as_num_same, in_type_same, ok_is, difference_of_type}
use Rattle.sa_flat.proofs.Operands.{InSpan, InType, IsCovered, covered_left, covered_right, Given, prefix_given, convert_given}
use Rattle.sa_flat.proofs.MeaningLaws.{Fits, Fit, operand_fits, converted_fits, prefix_fits}
use Rattle.sa_flat.proofs.CoverLaws.{Now, IsNumber, Covers, Means, Always, within_number, negated_is, operand_always, converted_always, truth_now, always}

-- promotion changes no number (ISO C 6.3.1.1p3)
wider : (from : Num) (z : ℤ) → IsOf from z → IsOf (promoted from) z
wider I8 z h = let a = h.low in let b = h.high in record { low = omega (arith, ints); high = omega (arith, ints) }
wider U8 z h = let a = h.low in let b = h.high in record { low = omega (arith, ints); high = omega (arith, ints) }
wider I16 z h = let a = h.low in let b = h.high in record { low = omega (arith, ints); high = omega (arith, ints) }
wider U16 z h = let a = h.low in let b = h.high in record { low = omega (arith, ints); high = omega (arith, ints) }
wider I32 z h = h
wider U32 z h = h
wider I64 z h = h
wider U64 z h = h

pub promoted_same : (from num : Num) (z : ℤ) → num ≡ promoted from → IsOf from z → as_num num z ≡ z
promoted_same from num z e h = subst (λ (num : Num). as_num num z ≡ z) (sym e) (as_num_same (promoted from) z (wider from z h))

not_is : (num : Num) (y k : ℤ) → arithmetic.prefixed p.Not num y ≡ Ok k → truth (int_eq (as_num num y) (pos 0)) ≡ k
unfolding arithmetic.prefixed
not_is num y k e = ok_is (truth (int_eq (as_num num y) (pos 0))) k e

module _ (x : Cells) (D : Domain) (L : Lawful x D) (has : ℕ → ℤ → Type 0) (one : ℕ → ℤ) (picked : Pick x D L has one) (time : ℤ) where
  -- a number that is shown is of the type
  pub of_shown : (num : Num) (s : Option Span) (z : ℤ) → InType num s → InSpan s z → IsOf num z
  of_shown num None z h i = absurd i
  of_shown num (Some s) z h i = let w = within_part s (range_of num) z h.part i in record { low = w.above; high = w.below }

  -- ---- casts
  pub cast_means : (q : Pos) (from num : Num) (a : Meaning D.Env) (go : List ℤ → Value ℤ) → Fit x D L from a → Means x D L has one picked time a go →
      Means x D L has one picked time (cast D q num a) (λ tape. then_value (go tape) (λ y tape. given q (converted num y) tape))
  cast_means q from num a go fa ha f env tape g n = first (go tape) refl
    where
      done : (y : ℤ) (t : List ℤ) → Always x D L has one picked time a.value y → (r : Result ℤ Kind) → converted num y ≡ r → Covers x D L has one picked time (cast D q num a) env (given q r t)
      done y t ya (Ok k) e =
          let kv = converted_always x D L has one picked time q from num a.value y k fa.value ya e in
          (kv f env g n, truth_now x D L has one picked time f num (converted_operand num a.value) k env g n (converted_fits x D L from num a.value fa.value) kv)
      done y t ya (Err kind) e =
          let s = ya f env g n in
          let bad : IsCovered (in_alive (a.value.span env) (conversion_alarms num q)) (Error q kind) =
          subst (λ (r : Result ℤ Kind). Given ((converted_operand num a.value).span env) (in_alive (a.value.span env) (conversion_alarms num q)) (given q r t)) e
          (convert_given q from num (a.value.span env) y t (fa.value.span f env g) s.span) in
          covered_right (a.alarms env) (in_alive (a.value.span env) (conversion_alarms num q)) (Error q kind) bad

      first : (v : Value ℤ) → go tape ≡ v → Covers x D L has one picked time (cast D q num a) env (then_value v (λ y tape. given q (converted num y) tape))
      first (Gives y t) e = done y t (always x D L has one picked time a go tape t y ha e) (converted num y) refl
      first (Stops end) e =
          covered_left (a.alarms env) (in_alive (a.value.span env) (conversion_alarms num q)) end (subst (λ (v : Value ℤ). Covers x D L has one picked time a env v) e (ha f env tape g n))

  -- ---- operators before their operand
  single_zero : Within (single (pos 0)) (pos 0)
  single_zero = record { above = omega (arith, ints); below = omega (arith, ints) }

  minus_number : (num : Num) (a : Operand D.Env) (y k : ℤ) (env : D.Env) (s : Option Span) → InType num s → InSpan s y → Ok k ≡ arithmetic.fitted num (pos 0 -ℤ y) →
      IsNumber x D L has one picked time y (a.form env) → IsNumber x D L has one picked time k (form_in num (option_map (negated_span num) s) (option_map negative (a.form env)))
  minus_number num a y k env None it i e h = absurd i
  minus_number num a y k env (Some s) it i e h =
      within_number x D L has one picked time num (negated_span num s) (option_map negative (a.form env)) (pos 0 -ℤ y) k
      (λ is. ok_is (pos 0 -ℤ y) k (sym (in_type_same Overflow num (pos 0 -ℤ y) (difference_of_type num (single (pos 0)) s (pos 0) y (omega (arith, ints)) it.ordered single_zero i is)) ∙ sym e))
      (negated_is x D L has one picked time (a.form env) y h)

  prefix_number : (op : Prefix) (num : Num) (a : Operand D.Env) (y k : ℤ) (f : Frame) (env : D.Env) → Good x D L f env → Now x D L has one picked time env → Fits x D L num a →
      Always x D L has one picked time a (as_num num y) → arithmetic.prefixed op num y ≡ Ok k → IsNumber x D L has one picked time k (prefix_form op num a env)
  unfolding prefix_form arithmetic.prefixed
  prefix_number p.Minus num a y k f env g n h ya e = let s = ya f env g n in minus_number num a (as_num num y) k env (a.span env) (h.span f env g) s.span (sym e) s.form
  prefix_number p.Plus num a y k f env g n h ya e = tt
  prefix_number p.Complement num a y k f env g n h ya e = tt
  prefix_number p.Not num a y k f env g n h ya e = tt

  prefix_always : (op : Prefix) (q : Pos) (from num : Num) (a : Operand D.Env) (y k : ℤ) → IsTrue (converts from num) → Fits x D L from a → Always x D L has one picked time a y → arithmetic.prefixed op num y ≡ Ok k →
      Always x D L has one picked time (prefix_value D op num a) k
  prefix_always op q from num a y k c fa ya e f env g n =
      let s = ya f env g n in
      record {
        span = subst (λ (r : Result ℤ Kind). Given (alive_then (a.span env) (prefix_span op num)) (in_alive (a.span env) (prefix_alarms op q num)) (given q r [])) e
            (prefix_given op q from num (a.span env) y [] c (fa.span f env g) s.span);
        form = prefix_number op num (as_operand num a) y k f env g n (operand_fits x D L from num a c fa) (operand_always x D L has one picked time from num a y c fa ya) e;
      }

  -- the guard of an operator: `!` turns that of its operand
  guard_now : (op : Prefix) (q : Pos) (from num : Num) (a : Meaning D.Env) (y k : ℤ) (f : Frame) (env : D.Env) → Good x D L f env → Now x D L has one picked time env → num ≡ promoted from →
      IsTrue (converts from num) → Fit x D L from a → Always x D L has one picked time a.value y → AliveAnd (Now x D L has one picked time) (a.guard (not (is_zero y)) env) →
      arithmetic.prefixed op num y ≡ Ok k → AliveAnd (Now x D L has one picked time) (prefix_guard D op num a (not (is_zero k)) env)
  unfolding prefix_guard
  guard_now p.Not q from num a y k f env g n same c fa ya h e =
      let of = of_shown from (a.value.span env) y (fa.value.span f env g) (ya f env g n).span in
      turned (as_num num y) (promoted_same from num y same of) (not_is num y k e)
    where
      by_zero : (t : Bool) (b : ℤ) → AliveAnd (Now x D L has one picked time) (a.guard (not t) env) → truth t ≡ b → AliveAnd (Now x D L has one picked time) (a.guard (not (not (is_zero b))) env)
      by_zero true b h e = subst (λ (b : ℤ). AliveAnd (Now x D L has one picked time) (a.guard (not (not (is_zero b))) env)) e h
      by_zero false b h e = subst (λ (b : ℤ). AliveAnd (Now x D L has one picked time) (a.guard (not (not (is_zero b))) env)) e h

      turned : (w : ℤ) → w ≡ y → truth (int_eq w (pos 0)) ≡ k → AliveAnd (Now x D L has one picked time) (a.guard (not (not (is_zero k))) env)
      turned w e i = by_zero (int_eq y (pos 0)) k h (subst (λ (w : ℤ). truth (int_eq w (pos 0)) ≡ k) e i)
  guard_now p.Minus q from num a y k f env g n same c fa ya h e =
      truth_now x D L has one picked time f (prefix_type p.Minus num) (prefix_value D p.Minus num a.value) k env g n (prefix_fits x D L p.Minus from num a.value c fa.value) (prefix_always p.Minus q from num a.value y k c fa.value ya e)
  guard_now p.Plus q from num a y k f env g n same c fa ya h e =
      truth_now x D L has one picked time f (prefix_type p.Plus num) (prefix_value D p.Plus num a.value) k env g n (prefix_fits x D L p.Plus from num a.value c fa.value) (prefix_always p.Plus q from num a.value y k c fa.value ya e)
  guard_now p.Complement q from num a y k f env g n same c fa ya h e =
      truth_now x D L has one picked time f (prefix_type p.Complement num) (prefix_value D p.Complement num a.value) k env g n (prefix_fits x D L p.Complement from num a.value c fa.value)
      (prefix_always p.Complement q from num a.value y k c fa.value ya e)

  pub prefix_means : (op : Prefix) (q : Pos) (from num : Num) (a : Meaning D.Env) (go : List ℤ → Value ℤ) → num ≡ promoted from → IsTrue (converts from num) → Fit x D L from a →
      Means x D L has one picked time a go → Means x D L has one picked time (prefixed D op q num a) (λ tape. then_value (go tape) (λ y tape. given q (arithmetic.prefixed op num y) tape))
  prefix_means op q from num a go same c fa ha f env tape g n = first (go tape) refl
    where
      done : (y : ℤ) (t : List ℤ) → Always x D L has one picked time a.value y → AliveAnd (Now x D L has one picked time) (a.guard (not (is_zero y)) env) → (r : Result ℤ Kind) →
          arithmetic.prefixed op num y ≡ r → Covers x D L has one picked time (prefixed D op q num a) env (given q r t)
      done y t ya h (Ok k) e = (prefix_always op q from num a.value y k c fa.value ya e f env g n, guard_now op q from num a y k f env g n same c fa ya h e)
      done y t ya h (Err kind) e =
          let s = ya f env g n in
          let bad : IsCovered (in_alive (a.value.span env) (prefix_alarms op q num)) (Error q kind) =
          subst (λ (r : Result ℤ Kind). Given (alive_then (a.value.span env) (prefix_span op num)) (in_alive (a.value.span env) (prefix_alarms op q num)) (given q r t)) e
          (prefix_given op q from num (a.value.span env) y t c (fa.value.span f env g) s.span) in
          covered_right (a.alarms env) (in_alive (a.value.span env) (prefix_alarms op q num)) (Error q kind) bad

      first : (v : Value ℤ) → go tape ≡ v → Covers x D L has one picked time (prefixed D op q num a) env (then_value v (λ y tape. given q (arithmetic.prefixed op num y) tape))
      first (Gives y t) e =
          let both : Covers x D L has one picked time a env (Gives y t) = subst (λ (v : Value ℤ). Covers x D L has one picked time a env v) e (ha f env tape g n) in
          done y t (always x D L has one picked time a go tape t y ha e) both.1 (arithmetic.prefixed op num y) refl
      first (Stops end) e =
          covered_left (a.alarms env) (in_alive (a.value.span env) (prefix_alarms op q num)) end (subst (λ (v : Value ℤ). Covers x D L has one picked time a env v) e (ha f env tape g n))
