-- Values as code holds them: of one environment, where the reference analysis has an operand of each.
use Rattle.std.specs.Prelude.{ℕ, ◌≤ℤ◌, ℤ, pos, negsuc, ◌^◌, ◌-◌, Bool, true, false, List, [], ◌∷◌, Option, Some, None, IfSome, IsSomeAnd}
use Rattle.sa_base.specs.declared.num.Num.{Num}
use Rattle.sa_interval.specs.Span.{Span, Within}
use Rattle.sa_typed.specs.declared.expr.Operator.{Operator}
use Rattle.sa_typed.specs.declared.expr.Prefix.{Prefix}
use Rattle.sa_operators.specs.Operators.{prefix_span}
use Rattle.sa_operators.specs.OperatorLaws.{IsSmallSpan}
use Rattle.sa_env.specs.declared.form.Form.{Form}
use Rattle.sa_env.specs.declared.form.Term.{Term}
use Rattle.sa_env.specs.Forms.{IsForm, IsModest}
use Rattle.sa_flat.specs.Forms.{form_of, form_number}
use Rattle.sa_flat.specs.Meanings.{Operand, as_operand, converted_operand, linked, operation_form, prefix_form}
use Rattle.sa_flat.specs.Passes.{alive_then}
use Rattle.sa_effects.specs.declared.value.Value.{Value}

-- the term of a form with these, where it has one
abbrev pub alone : Option Term → Option Term → Option Term
alone None None = None
alone None (Some t) = Some t
alone (Some t) None = Some t
alone (Some t) (Some u) = None

abbrev pub has_none : Option Term → Option Term → Bool
has_none None None = true
has_none None (Some t) = false
has_none (Some t) u = false

abbrev pub sum_of_both : Option Term → Option Term → ℤ → Option Form
sum_of_both (Some t) (Some u) c = form_of (t ∷ u ∷ []) c
sum_of_both (Some t) None c = None
sum_of_both None u c = None

-- ---- operands of all environments and values of one
abbrev pub everywhere : {Env : Type 0} → Value → Operand Env
everywhere v = record { span = λ _. v.span; form = λ _. v.form }

abbrev pub held : Value → Operand (Unit {0})
held v = everywhere v

abbrev pub value_at : {Env : Type 0} → Operand Env → Env → Value
value_at a env = record { span = a.span env; form = a.form env }

abbrev pub value_of : Operand (Unit {0}) → Value
value_of a = value_at a tt

-- ---- what an operator, a cast and an operator before its operand make of values
abbrev pub operated : Operator → Num → Value → Value → Value
operated op num a b = record { span = linked op num a.span b.span; form = operation_form op num (as_operand num (held a)) (as_operand num (held b)) tt }

abbrev pub prefixed : Prefix → Num → Value → Value
prefixed op num a = record { span = alive_then a.span (prefix_span op num); form = prefix_form op num (as_operand num (held a)) tt }

abbrev pub converted : Num → Value → Value
converted num a = value_of (converted_operand num (held a))

-- the form of a value has a constant that code can add
abbrev pub IsTame : Value → Type 0
IsTame a = IfSome a.form (λ f. IsModest f.c)

-- a form that there is has one of the span's numbers, where the cells have these
abbrev pub Shows : (ℕ → ℤ) → Option Span → Option Form → Type 0
Shows at s f = IfSome f (λ f. IsSomeAnd s (λ s. Within s (form_number f at)))

-- the form of a value has one of its numbers
abbrev pub IsFormed : (ℕ → ℤ) → Value → Type 0
IsFormed at a = Shows at a.span a.form

-- ---- what guards ask of values
-- a form of these cells, with a constant of which a difference can be taken and imposed
pub record IsLight (tops : List Span) (f : Form) : Type 0 where
  pub form : IsForm tops f
  pub low : negsuc (2 ^ 66 - 1) ≤ℤ f.c
  pub high : f.c ≤ℤ pos (2 ^ 66)

-- what code may guard by: numbers of the types, and a form of cells
pub record IsGuard (tops : List Span) (a : Value) : Type 0 where
  pub span : IfSome a.span IsSmallSpan
  pub form : IfSome a.form (IsLight tops)

-- by how much a value may be above another one in a guard: it is less, or it is at most that
pub record IsStep (k : ℤ) : Type 0 where
  pub low : negsuc 0 ≤ℤ k
  pub high : k ≤ℤ pos 0
