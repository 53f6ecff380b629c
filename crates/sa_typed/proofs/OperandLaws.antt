-- What numbers and expressions need to be operands, from tests that code makes.
use Rattle.std.proofs.Common.{◌≡◌, ℕ, ℤ, pos, negsuc, ◌≤ℤ◌, true, [], ◌∷◌, refl}
use Rattle.std.specs.Prelude.{◌^◌, ◌-◌}
use Rattle.sa_base.specs.declared.num.Num.{Num}
use Rattle.sa_base.specs.declared.num.Num.TheVariants.{I8, U8, I16, U16, I32, U32, I64, U64}
use Rattle.sa_base.specs.declared.pos.Pos.{Pos}
use Rattle.sa_typed.specs.Arithmetic.{is_of, as_num, IsOperand, IsRight}
use Rattle.sa_typed.specs.Links.{HasType}
use Rattle.sa_typed.specs.WellTyped.{converts, right_converts, type_of}
use Rattle.sa_typed.specs.TypedExpressions.{IsTypedExpression}
use Rattle.sa_typed.specs.declared.expr.Expr.TheVariants as v
use Rattle.sa_typed.specs.declared.expr.Expr.TheBlock.{hidden-the_row-Expr-1, hidden-the_row-Link-2, hidden-the_row-Expr-3}
use Rattle.sa_typed.specs.declared.program.Program.{Program}
use Rattle.sa_typed.specs.declared.expr.Operator.{Operator}
use Rattle.sa_typed.specs.declared.expr.Operator.TheVariants as o
use Rattle.sa_typed.proofs.ArithmeticLaws.{is_of_from}

pub operand_from : (num : Num) (z : ℤ) → negsuc (2 ^ 63 - 1) ≤ℤ z → z ≤ℤ pos (2 ^ 64 - 1) → is_of num (as_num num z) ≡ true → IsOperand num z
operand_from num z low high h = record { small = record { low = low; high = high }; converts = is_of_from num (as_num num z) h }

pub right_from : (op : Operator) (num : Num) (z : ℤ) → IsOperand num z → IsRight op num z
right_from o.Plus num z h = h
right_from o.Minus num z h = h
right_from o.Times num z h = h
right_from o.Divide num z h = h
right_from o.Remainder num z h = h
right_from o.ShiftLeft num z h = h.small
right_from o.ShiftRight num z h = h.small
right_from o.BitAnd num z h = h
right_from o.BitXor num z h = h
right_from o.BitOr num z h = h
right_from o.Equal num z h = h
right_from o.NotEqual num z h = h
right_from o.Less num z h = h
right_from o.LessEqual num z h = h
right_from o.Greater num z h = h
right_from o.GreaterEqual num z h = h

converts_itself : (num : Num) → converts num num ≡ true
unfolding converts
converts_itself I8 = refl
converts_itself U8 = refl
converts_itself I16 = refl
converts_itself U16 = refl
converts_itself I32 = refl
converts_itself U32 = refl
converts_itself I64 = refl
converts_itself U64 = refl

right_converts_itself : (op : Operator) (num : Num) → right_converts op num num ≡ true
right_converts_itself o.ShiftLeft num = refl
right_converts_itself o.ShiftRight num = refl
right_converts_itself o.Plus num = converts_itself num
right_converts_itself o.Minus num = converts_itself num
right_converts_itself o.Times num = converts_itself num
right_converts_itself o.Divide num = converts_itself num
right_converts_itself o.Remainder num = converts_itself num
right_converts_itself o.BitAnd num = converts_itself num
right_converts_itself o.BitXor num = converts_itself num
right_converts_itself o.BitOr num = converts_itself num
right_converts_itself o.Equal num = converts_itself num
right_converts_itself o.NotEqual num = converts_itself num
right_converts_itself o.Less num = converts_itself num
right_converts_itself o.LessEqual num = converts_itself num
right_converts_itself o.Greater num = converts_itself num
right_converts_itself o.GreaterEqual num = converts_itself num

-- an operator between two literals of one type
pub has_type_pair : (op : Operator) (q : Pos) (num : Num) (x y : ℕ) → is_of num (pos x) ≡ true → is_of num (pos y) ≡ true →
    HasType (v.Chain (v.Number x num) (record { op = op; pos = q; num = num; operand = v.Number y num } ∷ []))
unfolding IsTypedExpression hidden-the_row-Expr-1 hidden-the_row-Link-2 denote.Hole.Carrier.hidden type_of
has_type_pair op q num x y h k = record {
  program = record { structs = []; vars = []; inputs = []; funcs = []; entry = 0; thresholds = [] };
  typed = (h, (k, (record { first = converts_itself num; second = right_converts_itself op num }, tt)));
}

abbrev empty : Program
empty = record { structs = []; vars = []; inputs = []; funcs = []; entry = 0; thresholds = [] }

pub has_type_and : (x y : ℕ) → is_of I32 (pos x) ≡ true → is_of I32 (pos y) ≡ true → HasType (v.And (v.Number x I32) (v.Number y I32 ∷ []))
unfolding IsTypedExpression hidden-the_row-Expr-1 hidden-the_row-Expr-3 denote.Hole.Carrier.hidden
has_type_and x y h k = record { program = empty; typed = (h, (k, tt)) }

pub has_type_or : (x y : ℕ) → is_of I32 (pos x) ≡ true → is_of I32 (pos y) ≡ true → HasType (v.Or (v.Number x I32) (v.Number y I32 ∷ []))
unfolding IsTypedExpression hidden-the_row-Expr-1 hidden-the_row-Expr-3 denote.Hole.Carrier.hidden
has_type_or x y h k = record { program = empty; typed = (h, (k, tt)) }

pub has_type_choice : (x y : ℕ) → is_of I32 (pos x) ≡ true → is_of I32 (pos y) ≡ true → HasType (v.Choice (v.Number x I32) (v.Number y I32) (v.Number 2 I32) I32)
unfolding IsTypedExpression hidden-the_row-Expr-1 denote.Hole.Carrier.hidden type_of
has_type_choice x y h k = record { program = empty; typed = (h, ((k, converts_itself I32), (refl, converts_itself I32))) }

pub ruleset has_type_logical = (has_type_and, has_type_or, has_type_choice)

pub ruleset operands = (operand_from, right_from)
