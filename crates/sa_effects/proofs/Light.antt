-- The forms of values have constants that code can add, since they are numbers of a type where the cells have numbers of theirs.
use Rattle.std.proofs.Common.{ℕ, ◌<◌, ◌^◌, ◌-◌, ℤ, pos, negsuc, ◌+ℤ◌, ◌-ℤ◌, ◌≤ℤ◌, Bool, true, false, List, ◌++◌, length, arith, Option, Some, None}
use Rattle.std.specs.Prelude.{IfSome, IsSomeAnd, option_map, if◌then◌else◌}
use Rattle.std.proofs.lemmas.Int.{ints}
use Rattle.sa_base.specs.declared.num.Num.{Num}
use Rattle.sa_interval.specs.Span.{Span, Within}
use Rattle.sa_interval.specs.Rows.{is_part, sum_of, difference_of}
use Rattle.sa_typed.specs.declared.expr.Operator.{Operator}
use Rattle.sa_typed.specs.declared.expr.Operator.TheVariants as o
use Rattle.sa_typed.specs.declared.expr.Prefix.{Prefix}
use Rattle.sa_typed.specs.declared.expr.Prefix.TheVariants as p
use Rattle.sa_operators.specs.Operators.{range_of, as_span, negated_span}
use Rattle.sa_operators.specs.OperatorLaws.{IsSmallSpan}
use Rattle.sa_env.specs.declared.form.Form.{Form}
use Rattle.sa_env.specs.declared.form.Term.{Term}
use Rattle.sa_flat.specs.Forms.{terms, negative, sum_form, difference_form, signed, term_number, form_number}
use Rattle.sa_flat.specs.Meanings.{form_within, form_in, both_forms, both_spans, operation_form, prefix_form}
use Rattle.sa_flat.proofs.Lawful.{IfAlive, IsForm as IsCells}
use Rattle.sa_flat.proofs.Numbers.{sum_cells, difference_cells, negative_cells}
use Rattle.sa_effects.specs.declared.value.Value.{Value}
use Rattle.sa_effects.specs.Values.{operated, prefixed, converted, IsFormed, IsLight, IsGuard}
use Rattle.sa_effects.proofs.Guards.{AreApart, form_apart, turned_apart}

-- its cells are some of these, and two of them differ
pub record IsOfCells (tops : List Span) (f : Form) : Type 0 where
  pub cells : IsCells (λ c. c < length tops) f
  pub apart : AreApart f

-- the cells have numbers that are at most 2^64 in size
abbrev pub AreNumbers : List Span → (ℕ → ℤ) → Type 0
AreNumbers tops at = (c : ℕ) → c < length tops → Within (record { lo = negsuc (2 ^ 64 - 1); hi = pos (2 ^ 64) }) (at c)

module _ (tops : List Span) where
  abbrev IsCell : ℕ → Type 0
  IsCell c = c < length tops

  abbrev IfForm : Option Form → Type 0
  IfForm o = IfSome o (IsOfCells tops)

  both : (d : Option Form) → IfAlive (IsCells IsCell) d → IfSome d AreApart → IfForm d
  both None h k = tt
  both (Some f) h k = record { cells = h; apart = k }

  sum_of_cells : (f g : Option Form) → IfForm f → IfForm g → IfForm (both_forms f g sum_form)
  unfolding sum_form
  sum_of_cells None g h k = tt
  sum_of_cells (Some f) None h k = tt
  sum_of_cells (Some f) (Some g) h k = both (sum_form f g) (sum_cells IsCell f g h.cells k.cells) (form_apart (terms f ++ terms g) (f.c +ℤ g.c))

  difference_of_cells : (f g : Option Form) → IfForm f → IfForm g → IfForm (both_forms f g difference_form)
  unfolding sum_form
  difference_of_cells None g h k = tt
  difference_of_cells (Some f) None h k = tt
  difference_of_cells (Some f) (Some g) h k =
      both (difference_form f g) (difference_cells IsCell f g h.cells k.cells) (form_apart (terms f ++ terms (negative g)) (f.c +ℤ (pos 0 -ℤ g.c)))

  negative_of_cells : (f : Option Form) → IfForm f → IfForm (option_map negative f)
  negative_of_cells None h = tt
  negative_of_cells (Some f) h = record { cells = negative_cells IsCell f h.cells; apart = turned_apart f.first f.second h.apart }

  within_of_cells : (num : Num) (s : Span) (f : Option Form) → IfForm f → IfForm (form_within num s f)
  within_of_cells num s f h = elim (is_part s (range_of num)) as (λ b. IfForm (if b then f else None)) [ true ↦ h | false ↦ tt ]

  in_of_cells : (num : Num) (s : Option Span) (f : Option Form) → IfForm f → IfForm (form_in num s f)
  in_of_cells num None f h = tt
  in_of_cells num (Some s) f h = within_of_cells num s f h

  pub operation_of_cells : (op : Operator) (num : Num) (a b : Value) → IfForm a.form → IfForm b.form → IfForm (operated op num a b).form
  unfolding operation_form
  operation_of_cells o.Plus num a b h k =
      in_of_cells num (both_spans (option_map (as_span num) a.span) (option_map (as_span num) b.span) sum_of) (both_forms (form_in num a.span a.form) (form_in num b.span b.form) sum_form)
      (sum_of_cells (form_in num a.span a.form) (form_in num b.span b.form) (in_of_cells num a.span a.form h) (in_of_cells num b.span b.form k))
  operation_of_cells o.Minus num a b h k =
      in_of_cells num (both_spans (option_map (as_span num) a.span) (option_map (as_span num) b.span) difference_of) (both_forms (form_in num a.span a.form) (form_in num b.span b.form) difference_form)
      (difference_of_cells (form_in num a.span a.form) (form_in num b.span b.form) (in_of_cells num a.span a.form h) (in_of_cells num b.span b.form k))
  operation_of_cells op num a b h k = tt

  pub prefix_of_cells : (op : Prefix) (num : Num) (a : Value) → IfForm a.form → IfForm (prefixed op num a).form
  unfolding prefix_form
  prefix_of_cells p.Minus num a h =
      in_of_cells num (option_map (negated_span num) (option_map (as_span num) a.span)) (option_map negative (form_in num a.span a.form))
      (negative_of_cells (form_in num a.span a.form) (in_of_cells num a.span a.form h))
  prefix_of_cells op num a h = tt

  pub converted_of_cells : (num : Num) (a : Value) → IfForm a.form → IfForm (converted num a).form
  converted_of_cells num a h = in_of_cells num a.span a.form h

  -- ---- constants
  term_small : (at : ℕ → ℤ) → AreNumbers tops at → (o : Option Term) → IfAlive (λ t. IsCell t.cell) o → (negsuc (2 ^ 64 - 1) ≤ℤ term_number o at) × (term_number o at ≤ℤ pos (2 ^ 64))
  term_small at n None h = (omega (arith, ints), omega (arith, ints))
  term_small at n (Some t) h = let k = n t.cell h in signed_small t.plus (at t.cell) k.above k.below
    where
      signed_small : (b : Bool) (z : ℤ) → negsuc (2 ^ 64 - 1) ≤ℤ z → z ≤ℤ pos (2 ^ 64) → (negsuc (2 ^ 64 - 1) ≤ℤ signed b z) × (signed b z ≤ℤ pos (2 ^ 64))
      signed_small true z l h = (l, h)
      signed_small false z l h = (omega (arith, ints), omega (arith, ints))

  constant_small : (x y c : ℤ) (s : Span) → IsSmallSpan s → Within s (x +ℤ (y +ℤ c)) → negsuc (2 ^ 64 - 1) ≤ℤ x → x ≤ℤ pos (2 ^ 64) → negsuc (2 ^ 64 - 1) ≤ℤ y → y ≤ℤ pos (2 ^ 64) →
      (negsuc (2 ^ 66 - 1) ≤ℤ c) × (c ≤ℤ pos (2 ^ 66))
  constant_small x y c s small w a b d e =
      let p = small.part.above in let q = small.part.below in let l = w.above in let h = w.below in
      (omega (arith, ints), omega (arith, ints))

  light : (at : ℕ → ℤ) → AreNumbers tops at → (s : Option Span) (f : Form) → IfSome s IsSmallSpan → IsSomeAnd s (λ s. Within s (form_number f at)) → IsOfCells tops f → IsLight tops f
  light at n None f small w h = absurd w
  light at n (Some s) f small w h =
      let x = term_small at n f.first h.cells.0 in
      let y = term_small at n f.second h.cells.1 in
      let c = constant_small (term_number f.first at) (term_number f.second at) f.c s small w x.0 x.1 y.0 y.1 in
      let l = c.0 in let g = c.1 in
      record {
        form = record { first = some f.first h.cells.0; second = some f.second h.cells.1; distinct = h.apart; constant = record { low = omega (arith, ints); high = omega (arith, ints) } };
        low = l;
        high = g;
      }
    where
      some : (o : Option Term) → IfAlive (λ t. IsCell t.cell) o → IfSome o (λ t. IsCell t.cell)
      some None h = tt
      some (Some t) h = h

-- a value of small numbers whose form has one of them is one to guard by, and one that operators take
pub guard_by : (tops : List Span) (at : ℕ → ℤ) (a : Value) → AreNumbers tops at → IfSome a.span IsSmallSpan → IsFormed at a → IfSome a.form (IsOfCells tops) → IsGuard tops a
guard_by tops at a n small w h = record { span = small; form = all a.form w h }
  where
    all : (o : Option Form) → IfSome o (λ f. IsSomeAnd a.span (λ s. Within s (form_number f at))) → IfSome o (IsOfCells tops) → IfSome o (IsLight tops)
    all None w h = tt
    all (Some f) w h = light tops at n a.span f small w h
