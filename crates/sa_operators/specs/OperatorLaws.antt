-- No promise of the top calls rests on this page: it is for laws beside them, for proofs and for inner functions.
-- What operators and conversions on spans cover, and that their spans stay in their types.
use Rattle.std.specs.Prelude.{ℤ, ◌≡◌, ◌≤ℤ◌, List, Option, false, IsSomeAnd, IfSome, Result, Ok, Err}
use Rattle.sa_base.specs.declared.num.Num.{Num}
use Rattle.sa_base.specs.declared.pos.Pos.{Pos}
use Rattle.sa_base.specs.declared.alarm.Alarm.{Alarm}
use Rattle.sa_base.specs.declared.alarm.Kind.{Kind}
use Rattle.sa_interval.specs.Span.{Span, Within, IsPart}
use Rattle.sa_typed.specs.Arithmetic.{is_signed, promoted, common, as_num, converted, operate, prefixed, result_type, prefix_type}
use Rattle.sa_typed.specs.declared.expr.Operator.{Operator}
use Rattle.sa_typed.specs.declared.expr.Operator.TheVariants as o
use Rattle.sa_typed.specs.declared.expr.Prefix.{Prefix}
use Rattle.sa_operators.specs.Operators.{range_of, all_types, IsIn, as_span, converted_span, conversion_alarms, operator_span, operator_alarms, prefix_span, prefix_alarms}
use Rattle.sa_operators.specs.Alarms.{IsAmong}

-- the span isn't empty and lies between the least and the greatest value of all types
pub record IsSmallSpan (s : Span) : Type 0 where
  pub ordered : s.lo ≤ℤ s.hi
  pub part : IsPart s all_types

-- the span of an operand of an operator that works in `num`: converted to that type it lies in it
pub record Suits (num : Num) (s : Span) : Type 0 where
  pub small : IsSmallSpan s
  pub converts : IsPart (as_span num s) (range_of num)

-- the span of a right operand; the count of a shift may be of any type
abbrev pub SuitsRight : Operator → Num → Span → Type 0
SuitsRight o.ShiftLeft num s = IsSmallSpan s
SuitsRight o.ShiftRight num s = IsSmallSpan s
SuitsRight op num s = Suits num s

-- ---- the premises

abbrev pub TypesAreSmall : Type 0
TypesAreSmall = (num : Num) (s : Span) → IsIn num s → IsSmallSpan s

abbrev pub OwnTypeSuits : Type 0
OwnTypeSuits = (num : Num) (s : Span) → IsIn num s → Suits num s

abbrev pub UnsignedSuits : Type 0
UnsignedSuits = (num : Num) (s : Span) → is_signed num ≡ false → IsSmallSpan s → Suits num s

abbrev pub PromotedSuits : Type 0
PromotedSuits = (num : Num) (s : Span) → IsIn num s → Suits (promoted num) s

abbrev pub CommonSuits : Type 0
CommonSuits = (t u : Num) (s : Span) → IsIn t s → Suits (common t u) s × Suits (common u t) s

-- ---- soundness

-- a value lies in the span, an error is among the alarms
abbrev pub Covers : Pos → Option Span → List Alarm → Result ℤ Kind → Type 0
Covers p s alarms (Ok z) = IsSomeAnd s (λ s. Within s z)
Covers p s alarms (Err kind) = IsAmong (record { pos = p; kind = kind }) alarms

abbrev pub OperandsCover : Type 0
OperandsCover = (num : Num) (s : Span) (z : ℤ) → IsSmallSpan s → Within s z → Within (as_span num s) (as_num num z)

abbrev pub ConversionsCover : Type 0
ConversionsCover = (num : Num) (p : Pos) (s : Span) (z : ℤ) → IsSmallSpan s → Within s z → Covers p (converted_span num s) (conversion_alarms num p s) (converted num z)

abbrev pub OperatorsCover : Type 0
OperatorsCover = (op : Operator) (p : Pos) (num : Num) (a b : Span) (x y : ℤ) → Suits num a → SuitsRight op num b → Within a x → Within b y →
    Covers p (operator_span op num a b) (operator_alarms op p num a b) (operate op num x y)

abbrev pub PrefixesCover : Type 0
PrefixesCover = (op : Prefix) (p : Pos) (num : Num) (a : Span) (x : ℤ) → Suits num a → Within a x →
    Covers p (prefix_span op num a) (prefix_alarms op p num a) (prefixed op num x)

-- ---- spans stay in their types

abbrev pub OperandsStay : Type 0
OperandsStay = (num : Num) (s : Span) → Suits num s → IsIn num (as_span num s)

abbrev pub ConversionsStay : Type 0
ConversionsStay = (num : Num) (s : Span) → IsSmallSpan s → IfSome (converted_span num s) (λ s. IsIn num s)

abbrev pub OperatorsStay : Type 0
OperatorsStay = (op : Operator) (num : Num) (a b : Span) → Suits num a → SuitsRight op num b → IfSome (operator_span op num a b) (λ s. IsIn (result_type op num) s)

abbrev pub PrefixesStay : Type 0
PrefixesStay = (op : Prefix) (num : Num) (a : Span) → Suits num a → IfSome (prefix_span op num a) (λ s. IsIn (prefix_type op num) s)
