-- What is known of the value of an expression.
use Rattle.std.specs.Prelude.{ℕ, ℤ, pos, ◌&&◌, not, Bool, true, false, if◌then◌else◌, Option, Some, None}
use Rattle.sa_base.specs.declared.num.Num.{Num}
use Rattle.sa_base.specs.declared.num.Num.TheVariants.{I32}
use Rattle.sa_base.specs.declared.pos.Pos.{Pos}
use Rattle.sa_typed.specs.declared.expr.Operator.{Operator}
use Rattle.sa_typed.specs.declared.expr.Prefix.{Prefix}
use Rattle.sa_typed.specs.Arithmetic.{promoted, common, result_type, prefix_type}
use Rattle.sa_typed.specs.Evaluation.{is_zero}
use Rattle.sa_scopes.specs.declared.constant.Value.{Value}
use Rattle.sa_scopes.specs.declared.constant.Value.TheVariants.{Varies, Unknown, Errs, Is}
use Rattle.sa_scopes.specs.Constants.{Constant, held, truth_of, working, operated, operated_prefix, cast}
use Rattle.sa_scopes.specs.Typing.{Typing, ◌>>◌, pure, refuse}

-- a constant expression of that type, which errs where there is no constant
abbrev pub value_of : Num → Option Constant → Value
value_of num None = Errs num
value_of num (Some c) = Is c

-- a literal of that type; one that the type doesn't hold errs
abbrev pub literal_value : Num → ℕ → Value
literal_value num v = value_of num (held num (pos v))

abbrev pub prefix_value : Prefix → Value → Value
prefix_value op (Is a) = value_of (prefix_type op (promoted a.num)) (operated_prefix op a)
prefix_value op (Errs num) = Errs (prefix_type op (promoted num))
prefix_value op v = v

abbrev pub cast_value : Num → Value → Value
cast_value num (Is a) = value_of num (cast num a)
cast_value num (Errs from) = Errs num
cast_value num v = v

-- a cast to what is no whole-number type
abbrev pub miscast_value : Value → Value
miscast_value Varies = Varies
miscast_value _ = Unknown

-- the type of an operator's result
abbrev pub operated_type : Operator → Num → Num → Num
operated_type op a b = result_type op (working op a b)

-- a part that isn't constant comes first, then one that isn't known, then one that errs
abbrev pub operator_value : Operator → Value → Value → Value
operator_value op Varies b = Varies
operator_value op a Varies = Varies
operator_value op Unknown b = Unknown
operator_value op a Unknown = Unknown
operator_value op (Errs m) (Errs n) = Errs (operated_type op m n)
operator_value op (Errs m) (Is b) = Errs (operated_type op m b.num)
operator_value op (Is a) (Errs n) = Errs (operated_type op a.num n)
operator_value op (Is a) (Is b) = value_of (operated_type op a.num b.num) (operated op a b)

abbrev pub is_constant : Value → Bool
is_constant Varies = false
is_constant _ = true

-- ---- operators that evaluate their right part only where the left one says so (6.5.13, 6.5.14)
-- whether it isn't 0, as an int
abbrev pub truth : Value → Value
truth (Is a) = Is (truth_of (not (is_zero a.value)))
truth (Errs num) = Errs I32
truth v = v

-- constant parts
abbrev pub settled_and : Value → Value → Value
settled_and (Is a) b = if is_zero a.value then Is (truth_of false) else truth b
settled_and (Errs num) b = Errs I32
settled_and v b = v

abbrev pub and_value : Value → Value → Value
and_value a b = if is_constant a && is_constant b then settled_and a b else Varies

abbrev pub settled_or : Value → Value → Value
settled_or (Is a) b = if is_zero a.value then truth b else Is (truth_of true)
settled_or (Errs num) b = Errs I32
settled_or v b = v

abbrev pub or_value : Value → Value → Value
or_value a b = if is_constant a && is_constant b then settled_or a b else Varies

-- ---- `?:`: one part is evaluated, and is converted to the type that both have in common (6.5.15)
abbrev pub is_known : Value → Bool
is_known Unknown = false
is_known _ = true

-- the type of a constant expression, where it is known
abbrev pub type_of : Value → Num
type_of (Is a) = a.num
type_of (Errs num) = num
type_of _ = I32

-- constant parts that are known, the last two of which have that type in common
abbrev pub chosen : Num → Value → Value → Value → Value
chosen num (Is a) b c = if is_zero a.value then cast_value num c else cast_value num b
chosen num _ b c = Errs num

-- constant parts; one that isn't known leaves the common type unknown
abbrev pub settled_choice : Value → Value → Value → Value
settled_choice a b c = if is_known a && is_known b && is_known c then chosen (common (type_of b) (type_of c)) a b c else Unknown

abbrev pub choice_value : Value → Value → Value → Value
choice_value a b c = if is_constant a && is_constant b && is_constant c then settled_choice a b c else Varies

-- the number that a constant expression is, where its value is known; its first token is at that place
abbrev pub constant : Pos → Value → Typing (Option ℤ)
constant p Varies = refuse 18 p >> pure None
constant p (Errs num) = refuse 18 p >> pure None
constant p Unknown = pure None
constant p (Is c) = pure (Some c.value)
