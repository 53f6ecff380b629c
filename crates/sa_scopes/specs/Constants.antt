-- Values of constant expressions: literals with operators and casts between them, and brackets (ISO C 6.6; that nothing else
-- is one is this project's own choice).
use Rattle.std.specs.Prelude.{ℕ, ℤ, pos, List, [], ◌∷◌, Bool, true, false, if◌then◌else◌, Option, Some, None, Result, Ok, Err}
use Rattle.sa_base.specs.declared.alarm.Kind.{Kind}
use Rattle.sa_base.specs.declared.num.Num.{Num}
use Rattle.sa_base.specs.declared.num.Num.TheVariants.{I32}
use Rattle.sa_base.specs.declared.pos.Pos.{Pos}
use Rattle.sa_typed.specs.declared.expr.Operator.{Operator}
use Rattle.sa_typed.specs.declared.expr.Operator.TheVariants as o
use Rattle.sa_typed.specs.declared.expr.Prefix.{Prefix}
use Rattle.sa_typed.specs.Arithmetic.{is_of, promoted, common, converted, operate, prefixed, result_type, prefix_type}

-- a number, and the type that holds it
pub record Constant : Type 0 where
  pub num : Num
  pub value : ℤ

-- the constant with that number, where the type holds it
unfoldable pub held : Num → ℤ → Option Constant
held num z = if is_of num z then Some (record { num = num; value = z }) else None

-- what `&&` and `||` give (6.5.13p3, 6.5.14p3)
abbrev pub truth_of : Bool → Constant
truth_of b = record { num = I32; value = if b then pos 1 else pos 0 }

-- the type in which an operator works (6.3.1.8, 6.5.7p3)
abbrev pub working : Operator → Num → Num → Num
working o.ShiftLeft a b = promoted a
working o.ShiftRight a b = promoted a
working op a b = common a b

-- the constant of a type that an evaluation gives, where it doesn't err
abbrev pub given : Num → Result ℤ Kind → Option Constant
given num (Ok z) = Some (record { num = num; value = z })
given num (Err e) = None

unfoldable pub operated : Operator → Constant → Constant → Option Constant
operated op a b = given (result_type op (working op a.num b.num)) (operate op (working op a.num b.num) a.value b.value)

unfoldable pub operated_prefix : Prefix → Constant → Option Constant
operated_prefix op a = given (prefix_type op (promoted a.num)) (prefixed op (promoted a.num) a.value)

unfoldable pub cast : Num → Constant → Option Constant
cast num a = given num (converted num a.value)
