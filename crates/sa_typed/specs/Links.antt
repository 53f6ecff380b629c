-- No promise of the top calls rests on this page: it is for laws beside them, for proofs and for inner functions.
-- Links as lists, as code sees them: what typing promises of them, and what constant ones make of a value.
-- `proofs/LinkLaws.antt` ties this to the rows of a tree.
use Rattle.std.specs.Prelude.{ℤ, pos, List, [], ◌∷◌, Bool, true, ◌&&◌, not, Result, Ok, Err, IfOk}
use Rattle.sa_base.specs.declared.alarm.Kind.{Kind}
use Rattle.sa_base.specs.declared.num.Num.{Num}
use Rattle.sa_typed.specs.Arithmetic.{IsOf, operate, result_type}
use Rattle.sa_typed.specs.Constants.{is_constant, constant_value, then_ok, and_ok, or_ok}
use Rattle.sa_typed.specs.Evaluation.{is_zero}
use Rattle.sa_typed.specs.TypedExpressions.{IsTypedExpression}
use Rattle.sa_typed.specs.WellTyped.{type_of, IsLink, IsTypedExpr}
use Rattle.sa_typed.specs.declared.expr.Expr.{Expr}
use Rattle.sa_typed.specs.declared.expr.Link.{Link, out-Link}
use Rattle.sa_typed.specs.declared.program.Program.{Program}

-- ---- types
-- a link after a left operand of this type
pub record IsTypedLink (p : Program) (left : Num) (l : Link) : Type 0 where
  pub operand : IsTypedExpr p (out-Link l).operand
  pub link : IsLink (out-Link l).op left (out-Link l).num (type_of (out-Link l).operand)

-- the type after a link
abbrev pub type_after : Link → Num
type_after l = result_type (out-Link l).op (out-Link l).num

unfoldable pub AreTypedAfter : Program → Num → List Link → Type 0
AreTypedAfter p left [] = Unit {0}
AreTypedAfter p left (l ∷ ls) = IsTypedLink p left l × AreTypedAfter p (type_after l) ls

-- the same over every form of an expression
pub record IsTypedPart (p : Program) (left : Num) (l : Link) : Type 0 where
  pub operand : IsTypedExpression p (out-Link l).operand
  pub link : IsLink (out-Link l).op left (out-Link l).num (type_of (out-Link l).operand)

unfoldable pub AreTypedParts : Program → Num → List Link → Type 0
AreTypedParts p left [] = Unit {0}
AreTypedParts p left (l ∷ ls) = IsTypedPart p left l × AreTypedParts p (type_after l) ls

unfoldable pub AreTypedOperands : Program → List Expr → Type 0
AreTypedOperands p [] = Unit {0}
AreTypedOperands p (e ∷ es) = IsTypedExpression p e × AreTypedOperands p es

-- an expression of some program
pub record HasType (e : Expr) : Type 0 where
  pub program : Program
  pub typed : IsTypedExpression program e

-- operands of `&&` or `||` of some program
pub record HaveTypes (es : List Expr) : Type 0 where
  pub program : Program
  pub typed : AreTypedOperands program es

-- ---- constants
unfoldable pub all_constant : List Link → Bool
all_constant [] = true
all_constant (l ∷ ls) = is_constant (out-Link l).operand && all_constant ls

unfoldable pub are_constant : List Expr → Bool
are_constant [] = true
are_constant (e ∷ es) = is_constant e && are_constant es

abbrev pub next_value : Result ℤ Kind → Link → Result ℤ Kind
next_value r l = then_ok r (λ x. then_ok (constant_value (out-Link l).operand) (operate (out-Link l).op (out-Link l).num x))

unfoldable pub value_after : List Link → Result ℤ Kind → Result ℤ Kind
value_after [] r = r
value_after (l ∷ ls) r = value_after ls (next_value r l)

-- links of some program after a value of the type of their left operand
pub record AreAfter (r : Result ℤ Kind) (ls : List Link) : Type 0 where
  pub program : Program
  pub left : Num
  pub of_type : IfOk r (λ z. IsOf left z)
  pub links : AreTypedParts program left ls

-- operands of `&&` and `||` after a value
unfoldable pub ands_after : List Expr → Result ℤ Kind → Result ℤ Kind
ands_after [] r = and_ok r (Ok (pos 1))
ands_after (e ∷ es) r = and_ok r (ands_after es (constant_value e))

unfoldable pub ors_after : List Expr → Result ℤ Kind → Result ℤ Kind
ors_after [] r = or_ok r (Ok (pos 0))
ors_after (e ∷ es) r = or_ok r (ors_after es (constant_value e))

-- whether the rest of an `&&`, of an `||` doesn't count any more
abbrev pub settles_and : Result ℤ Kind → Bool
settles_and (Ok x) = is_zero x
settles_and (Err kind) = true

abbrev pub settles_or : Result ℤ Kind → Bool
settles_or (Ok x) = not (is_zero x)
settles_or (Err kind) = true

-- whether a value isn't 0, as a number
abbrev pub truth : Result ℤ Kind → Result ℤ Kind
truth r = and_ok r (Ok (pos 1))
