-- The form of a value is one of its numbers, whatever numbers the cells have: operators and conversions keep that.
use Rattle.std.proofs.Common.{◌≡◌, ℤ, pos, ◌+ℤ◌, ◌-ℤ◌, ◌≤ℤ◌, true, false, refl, sym, subst, arith, ℕ, Option, Some, None}
use Rattle.std.specs.Prelude.{if◌then◌else◌, IfSome, IsSomeAnd, option_map, Result}
use Rattle.std.proofs.lemmas.Int.{ints, clamps}
use Rattle.sa_base.specs.declared.alarm.Kind.{Kind}
use Rattle.sa_base.specs.declared.alarm.Kind.TheVariants.{Conversion}
use Rattle.sa_base.specs.declared.num.Num.{Num}
use Rattle.sa_base.specs.declared.pos.Pos.{Pos}
use Rattle.sa_interval.specs.Span.{Span, Within, cut}
use Rattle.sa_interval.specs.Rows.{single, is_part, sum_of, difference_of}
use Rattle.sa_interval.proofs.Sums.{least_sum, least_difference}
use Rattle.sa_typed.specs.Arithmetic.{IsOf}
use Rattle.sa_typed.proofs.ArithmeticLaws.{num_facts}
use Rattle.sa_typed.specs.declared.expr.Operator.{Operator}
use Rattle.sa_typed.specs.declared.expr.Operator.TheVariants as o
use Rattle.sa_typed.specs.declared.expr.Prefix.{Prefix}
use Rattle.sa_typed.specs.declared.expr.Prefix.TheVariants as p
use Rattle.sa_operators.specs.Operators.{range_of, as_span, in_type_span, converted_span, conversion_alarms, operator_span, prefix_span, negated_span}
use Rattle.sa_operators.specs.OperatorLaws.{IsSmallSpan, Suits, SuitsRight, Covers}
use Rattle.sa_operators.proofs.FitLaws.{is_part_from, types_are_small, conversions_cover, operands_cover, operands_stay}
use Rattle.sa_env.specs.declared.form.Form.{Form}
use Rattle.sa_flat.specs.Forms.{sum_form, difference_form, negative, form_number}
use Rattle.sa_flat.specs.Meanings.{linked, form_within, form_in, both_forms, as_operand, operation_form, prefix_form}
use Rattle.sa_flat.specs.Passes.{alive_then}
use Rattle.sa_flat.proofs.Numbers.{as_num_same, in_type_same, of_part, sum_of_type, difference_of_type, sum_number, difference_number, negative_number}
use Rattle.sa_effects.specs.declared.value.Value.{Value}
use Rattle.sa_effects.specs.Values.{held, operated, prefixed, converted, Shows, IsFormed}

nowhere : Pos
nowhere = record { line = 0; col = 0 }

module _ (at : ℕ → ℤ) where
  -- ---- conversions
  within_shows : (num : Num) (s : Span) (t : Option Span) (f : Option Form) → (is_part s (range_of num) ≡ true → Shows at t f) → Shows at t (form_within num s f)
  within_shows num s t f h =
      elim (is_part s (range_of num)) as (λ b. is_part s (range_of num) ≡ b → Shows at t (if b then f else None)) [ true ↦ λ e. h e | false ↦ λ e. tt ] refl

  -- of a value that shows its form, where all its numbers stay what they are
  moved_shows : (s : Span) (t : Option Span) (f : Option Form) → ((z : ℤ) → Within s z → IsSomeAnd t (λ t. Within t z)) → Shows at (Some s) f → Shows at t f
  moved_shows s t None k h = tt
  moved_shows s t (Some f) k h = k (form_number f at) h

  as_span_holds : (num : Num) (s : Span) (z : ℤ) → IsSmallSpan s → is_part s (range_of num) ≡ true → Within s z → Within (as_span num s) z
  as_span_holds num s z h e w = subst (λ (y : ℤ). Within (as_span num s) y) (as_num_same num z (of_part num s z e w)) (operands_cover num s z h w)

  operand_shows : (num : Num) (s : Option Span) (f : Option Form) → IfSome s IsSmallSpan → Shows at s f → Shows at (option_map (as_span num) s) (form_in num s f)
  operand_shows num None f h k = tt
  operand_shows num (Some s) f h k = within_shows num s (Some (as_span num s)) f (λ e. moved_shows s (Some (as_span num s)) f (λ z w. as_span_holds num s z h e w) k)

  -- a span that is part of the type, and what is left of it there
  fits_holds : (num : Num) (s : Span) (z : ℤ) → s.lo ≤ℤ s.hi → is_part s (range_of num) ≡ true → Within s z → IsSomeAnd (in_type_span num s) (λ t. Within t z)
  fits_holds num s z order e w =
      let small = types_are_small num s (record { ordered = order; part = is_part_from s (range_of num) e }) in
      subst (λ (r : Result ℤ Kind). Covers nowhere (converted_span num s) (conversion_alarms num nowhere s) r) (in_type_same Conversion num z (of_part num s z e w)) (conversions_cover num nowhere s z small w)

  converted_shows : (num : Num) (s : Option Span) (f : Option Form) → IfSome s (λ s. s.lo ≤ℤ s.hi) → Shows at s f → Shows at (alive_then s (converted_span num)) (form_in num s f)
  converted_shows num None f h k = tt
  converted_shows num (Some s) f h k = within_shows num s (converted_span num s) f (λ e. moved_shows s (converted_span num s) f (λ z w. fits_holds num s z h e w) k)

  -- ---- sums and differences
  exact_in : (num : Num) (z : ℤ) → IsOf num z → cut z ≡ z
  exact_in num z h = let k = num_facts num in let a = k.least in let b = k.greatest in let l = h.low in let g = h.high in omega (arith, ints, clamps)

  -- the exact number of a row whose numbers are all of the type
  row_holds : (num : Num) (s : Span) (z : ℤ) → s.lo ≤ℤ s.hi → is_part s (range_of num) ≡ true → IsOf num z → Within s (cut z) → IsSomeAnd (in_type_span num s) (λ t. Within t z)
  row_holds num s z order e h w = fits_holds num s z order e (subst (λ (y : ℤ). Within s y) (exact_in num z h) w)

  sum_ordered : (a b : Span) → a.lo ≤ℤ a.hi → b.lo ≤ℤ b.hi → (sum_of a b).lo ≤ℤ (sum_of a b).hi
  sum_ordered a b h k = omega (arith, ints, clamps)

  difference_ordered : (a b : Span) → a.lo ≤ℤ a.hi → b.lo ≤ℤ b.hi → (difference_of a b).lo ≤ℤ (difference_of a b).hi
  difference_ordered a b h k = omega (arith, ints, clamps)

  -- a form that is there has this number
  abbrev Is : ℤ → Option Form → Type 0
  Is z f = IfSome f (λ f. form_number f at ≡ z)

  sum_is : (f g : Form) → Is (form_number f at +ℤ form_number g at) (sum_form f g)
  sum_is f g = from (sum_form f g) refl
    where
      from : (d : Option Form) → sum_form f g ≡ d → Is (form_number f at +ℤ form_number g at) d
      from None e = tt
      from (Some d) e = sum_number f g d at e

  difference_is : (f g : Form) → Is (form_number f at -ℤ form_number g at) (difference_form f g)
  difference_is f g = from (difference_form f g) refl
    where
      from : (d : Option Form) → difference_form f g ≡ d → Is (form_number f at -ℤ form_number g at) d
      from None e = tt
      from (Some d) e = difference_number f g d at e

  shows_is : (t : Option Span) (z : ℤ) (d : Option Form) → Is z d → IsSomeAnd t (λ t. Within t z) → Shows at t d
  shows_is t z None i h = tt
  shows_is t z (Some d) i h = holds t h
    where
      holds : (t : Option Span) → IsSomeAnd t (λ t. Within t z) → IsSomeAnd t (λ t. Within t (form_number d at))
      holds None h = h
      holds (Some t) h = subst (λ (y : ℤ). Within t y) (sym i) h

  sum_shows : (num : Num) (a b : Span) (f g : Option Form) → a.lo ≤ℤ a.hi → b.lo ≤ℤ b.hi → Shows at (Some a) f → Shows at (Some b) g →
      Shows at (in_type_span num (sum_of a b)) (form_within num (sum_of a b) (both_forms f g sum_form))
  sum_shows num a b f g oa ob h k = within_shows num (sum_of a b) (in_type_span num (sum_of a b)) (both_forms f g sum_form) (λ e. from f g h k e)
    where
      from : (f g : Option Form) → Shows at (Some a) f → Shows at (Some b) g → is_part (sum_of a b) (range_of num) ≡ true → Shows at (in_type_span num (sum_of a b)) (both_forms f g sum_form)
      from None g h k e = tt
      from (Some f) None h k e = tt
      from (Some f) (Some g) h k e =
          let y = form_number f at in
          let z = form_number g at in
          shows_is (in_type_span num (sum_of a b)) (y +ℤ z) (sum_form f g) (sum_is f g)
          (row_holds num (sum_of a b) (y +ℤ z) (sum_ordered a b oa ob) e (sum_of_type num a b y z oa ob h k e) ((least_sum a b oa ob).holds (y +ℤ z) (y, z, h, k, refl)))

  difference_shows : (num : Num) (a b : Span) (f g : Option Form) → a.lo ≤ℤ a.hi → b.lo ≤ℤ b.hi → Shows at (Some a) f → Shows at (Some b) g →
      Shows at (in_type_span num (difference_of a b)) (form_within num (difference_of a b) (both_forms f g difference_form))
  difference_shows num a b f g oa ob h k = within_shows num (difference_of a b) (in_type_span num (difference_of a b)) (both_forms f g difference_form) (λ e. from f g h k e)
    where
      from : (f g : Option Form) → Shows at (Some a) f → Shows at (Some b) g → is_part (difference_of a b) (range_of num) ≡ true → Shows at (in_type_span num (difference_of a b)) (both_forms f g difference_form)
      from None g h k e = tt
      from (Some f) None h k e = tt
      from (Some f) (Some g) h k e =
          let y = form_number f at in
          let z = form_number g at in
          shows_is (in_type_span num (difference_of a b)) (y -ℤ z) (difference_form f g) (difference_is f g)
          (row_holds num (difference_of a b) (y -ℤ z) (difference_ordered a b oa ob) e (difference_of_type num a b y z oa ob h k e) ((least_difference a b oa ob).holds (y -ℤ z) (y, z, h, k, refl)))

  negative_shows : (num : Num) (a : Span) (f : Option Form) → a.lo ≤ℤ a.hi → Shows at (Some a) f →
      Shows at (in_type_span num (negated_span num a)) (form_within num (negated_span num a) (option_map negative f))
  negative_shows num a f oa h = within_shows num (negated_span num a) (in_type_span num (negated_span num a)) (option_map negative f) (λ e. from f h e)
    where
      zero_in : Within (single (pos 0)) (pos 0)
      zero_in = record { above = omega (arith, ints); below = omega (arith, ints) }

      zero_ordered : pos 0 ≤ℤ pos 0
      zero_ordered = omega (arith, ints)

      from : (f : Option Form) → Shows at (Some a) f → is_part (negated_span num a) (range_of num) ≡ true → Shows at (in_type_span num (negated_span num a)) (option_map negative f)
      from None h e = tt
      from (Some f) h e =
          let z = form_number f at in
          shows_is (in_type_span num (negated_span num a)) (pos 0 -ℤ z) (Some (negative f)) (negative_number f at)
          (row_holds num (negated_span num a) (pos 0 -ℤ z) (difference_ordered (single (pos 0)) a zero_ordered oa) e (difference_of_type num (single (pos 0)) a (pos 0) z zero_ordered oa zero_in h e)
          ((least_difference (single (pos 0)) a zero_ordered oa).holds (pos 0 -ℤ z) (pos 0, z, zero_in, h, refl)))

  -- ---- operators
  small_of : (num : Num) (s : Option Span) → IfSome s (Suits num) → IfSome s IsSmallSpan
  small_of num None h = tt
  small_of num (Some s) h = h.small

  linked_shows : (op : Operator) (num : Num) (s t : Option Span) (f g : Option Form) → IfSome s (Suits num) → IfSome t (SuitsRight op num) → Shows at s f → Shows at t g →
      Shows at (linked op num s t) (operation_form op num (as_operand num (held (record { span = s; form = f }))) (as_operand num (held (record { span = t; form = g }))) tt)
  unfolding operation_form operator_span
  linked_shows o.Plus num None t f g h k v w = tt
  linked_shows o.Plus num (Some a) None f g h k v w = tt
  linked_shows o.Plus num (Some a) (Some b) f g h k v w =
      sum_shows num (as_span num a) (as_span num b) (form_within num a f) (form_within num b g) (operands_stay num a h).ordered (operands_stay num b k).ordered
      (operand_shows num (Some a) f h.small v) (operand_shows num (Some b) g k.small w)
  linked_shows o.Minus num None t f g h k v w = tt
  linked_shows o.Minus num (Some a) None f g h k v w = tt
  linked_shows o.Minus num (Some a) (Some b) f g h k v w =
      difference_shows num (as_span num a) (as_span num b) (form_within num a f) (form_within num b g) (operands_stay num a h).ordered (operands_stay num b k).ordered
      (operand_shows num (Some a) f h.small v) (operand_shows num (Some b) g k.small w)
  linked_shows op num s t f g h k v w = tt

  prefix_shows : (op : Prefix) (num : Num) (s : Option Span) (f : Option Form) → IfSome s (Suits num) → Shows at s f →
      Shows at (alive_then s (prefix_span op num)) (prefix_form op num (as_operand num (held (record { span = s; form = f }))) tt)
  unfolding prefix_form prefix_span
  prefix_shows p.Minus num None f h v = tt
  prefix_shows p.Minus num (Some a) f h v = negative_shows num (as_span num a) (form_within num a f) (operands_stay num a h).ordered (operand_shows num (Some a) f h.small v)
  prefix_shows op num s f h v = tt

pub operated_formed : (at : ℕ → ℤ) (op : Operator) (num : Num) (a b : Value) → IfSome a.span (Suits num) → IfSome b.span (SuitsRight op num) → IsFormed at a → IsFormed at b → IsFormed at (operated op num a b)
operated_formed at op num a b h k v w = linked_shows at op num a.span b.span a.form b.form h k v w

pub prefixed_formed : (at : ℕ → ℤ) (op : Prefix) (num : Num) (a : Value) → IfSome a.span (Suits num) → IsFormed at a → IsFormed at (prefixed op num a)
prefixed_formed at op num a h v = prefix_shows at op num a.span a.form h v

pub converted_formed : (at : ℕ → ℤ) (num : Num) (a : Value) → IfSome a.span IsSmallSpan → IsFormed at a → IsFormed at (converted num a)
converted_formed at num a h v = converted_shows at num a.span a.form (ordered a.span h) v
  where
    ordered : (s : Option Span) → IfSome s IsSmallSpan → IfSome s (λ s. s.lo ≤ℤ s.hi)
    ordered None h = tt
    ordered (Some s) h = h.ordered
