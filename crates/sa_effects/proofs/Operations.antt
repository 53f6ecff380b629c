-- What operators, conversions and reads are in one environment, over intervals.
use Rattle.std.proofs.Common.{◌≡◌, ◌∙◌, ℕ, ◌<◌, length, Bool, refl, sym, ap, Option, Some, None}
use Rattle.std.specs.Prelude.{if◌then◌else◌, option_map}
use Rattle.sa_base.specs.declared.num.Num.{Num}
use Rattle.sa_interval.specs.Span.{Span}
use Rattle.sa_typed.specs.declared.expr.Operator.{Operator}
use Rattle.sa_typed.specs.declared.expr.Operator.TheVariants as o
use Rattle.sa_typed.specs.declared.expr.Prefix.{Prefix}
use Rattle.sa_typed.specs.declared.expr.Prefix.TheVariants as p
use Rattle.sa_env.specs.declared.form.Form.{Form}
use Rattle.sa_env.specs.Flat.{Flat, Limits, IsFair, cell_of}
use Rattle.sa_flat.specs.Forms.{of_cell}
use Rattle.sa_flat.specs.Intervals as reference
use Rattle.sa_flat.specs.Meanings.{Operand, Cells, as_operand, converted_operand, operation_form, prefix_form, met, operation_value, prefix_value, linked, at_cell, read_operand, joined_cells}
use Rattle.sa_effects.specs.Stands.{opened}
use Rattle.sa_effects.proofs.Bridges.{cell_is}
use Rattle.sa_effects.specs.declared.value.Value.{Value}
use Rattle.sa_effects.specs.Values.{held, value_at, operated, prefixed, converted}

-- values are the same where their parts are
abbrev pub made : Option Span → Option Form → Value
made s f = record { span = s; form = f }

same_value : (s t : Option Span) (f g : Option Form) → s ≡ t → f ≡ g → made s f ≡ made t g
same_value s t f g h k = ap (λ (s : Option Span). made s f) h ∙ ap (λ (f : Option Form). made t f) k

module _ (r : reference.Limits) (e : reference.Flat) where
  -- intervals know of no form more than its span
  met_same : (f : Option Form) (s : Option Span) → met (reference.intervals r) f s e ≡ s
  met_same None s = refl
  met_same (Some f) None = refl
  met_same (Some f) (Some s) = refl

  form_at : (op : Operator) (num : Num) (a b : Operand reference.Flat) →
      operation_form op num (as_operand num a) (as_operand num b) e ≡ operation_form op num (as_operand num (held (value_at a e))) (as_operand num (held (value_at b e))) tt
  unfolding operation_form
  form_at o.Plus num a b = refl
  form_at o.Minus num a b = refl
  form_at op num a b = refl

  pub operation_at : (op : Operator) (num : Num) (a b : Operand reference.Flat) → value_at (operation_value (reference.intervals r) op num a b) e ≡ operated op num (value_at a e) (value_at b e)
  operation_at op num a b =
      same_value (met (reference.intervals r) (operation_form op num (as_operand num a) (as_operand num b) e) (linked op num (a.span e) (b.span e)) e) (linked op num (a.span e) (b.span e))
      (operation_form op num (as_operand num a) (as_operand num b) e) (operation_form op num (as_operand num (held (value_at a e))) (as_operand num (held (value_at b e))) tt)
      (met_same (operation_form op num (as_operand num a) (as_operand num b) e) (linked op num (a.span e) (b.span e))) (form_at op num a b)

  prefix_form_at : (op : Prefix) (num : Num) (a : Operand reference.Flat) → prefix_form op num (as_operand num a) e ≡ prefix_form op num (as_operand num (held (value_at a e))) tt
  unfolding prefix_form
  prefix_form_at p.Minus num a = refl
  prefix_form_at op num a = refl

  pub prefix_at : (op : Prefix) (num : Num) (a : Operand reference.Flat) → value_at (prefix_value (reference.intervals r) op num a) e ≡ prefixed op num (value_at a e)
  prefix_at op num a = same_value _ _ (prefix_form op num (as_operand num a) e) (prefix_form op num (as_operand num (held (value_at a e))) tt) refl (prefix_form_at op num a)

  pub converted_at : (num : Num) (a : Operand reference.Flat) → value_at (converted_operand num a) e ≡ converted num (value_at a e)
  converted_at num a = refl

  pub cell_at : (x : Cells) (k : ℕ) → value_at (read_operand (reference.intervals r) x (at_cell (reference.intervals r) k)) e
      ≡ made (Some (reference.cell_of k e)) (if x.starred k then None else Some (of_cell k))
  unfolding joined_cells
  cell_at x k = refl

-- the value that code reads
pub read_at : (r : reference.Limits) (l : Limits) (x : Cells) (k : ℕ) (starred : Bool) (f : Flat) (a : reference.Flat) (s : Option Span) (g : Option Form) →
    k < length l.tops → IsFair l f → x.starred k ≡ starred → opened f ≡ Some a → s ≡ cell_of k f → g ≡ (if starred then None else Some (of_cell k)) →
    made s g ≡ value_at (read_operand (reference.intervals r) x (at_cell (reference.intervals r) k)) a
read_at r l x k starred f a s g less fair same h hs hg =
    same_value s (Some (reference.cell_of k a)) g (if x.starred k then None else Some (of_cell k))
    (hs ∙ (cell_is l k f less fair ∙ ap (option_map (reference.cell_of k)) h))
    (hg ∙ ap (λ (b : Bool). if b then None else Some (of_cell k)) (sym same))
    ∙ sym (cell_at r a x k)
