-- No promise of the top calls rests on this page: it is for laws beside them, for proofs and for inner functions.
-- Expressions of literals, cells, casts and operators that evaluate all of their operands, with what typing promises of them.
-- Places with indices, inputs and what is evaluated in parts (ISO C 6.5.13 to 6.5.15) aren't among them yet.
use Rattle.std.specs.Prelude.{◌≡◌, pos, List, slice_get, Some, IsTrue}
use Rattle.sa_base.specs.declared.num.Num.{Num}
use Rattle.sa_base.specs.declared.num.Num.TheVariants.{I32}
use Rattle.sa_typed.specs.Arithmetic.{IsOf, result_type, prefix_type}
use Rattle.sa_typed.specs.WellTyped.{converts, IsLink}
use Rattle.sa_ir.specs.declared.expr.IrExpr.{IrExpr, Number, Read', Input, Prefix', Cast', Chain', And', Or', Choice', end_of-IrExpr, more_of-IrExpr, Row_of-IrLink, end_of-IrLink, more_of-IrLink, Row_of-Row, end_of-Row, more_of-Row}

-- the type of an expression
unfoldable mutual
  pub num_of : IrExpr → Num
  num_of (Number n num) = num
  num_of (Read' first n rows num) = num
  num_of (Input k num) = num
  num_of (Prefix' op q num n a) = prefix_type op num
  num_of (Cast' q num n a) = num
  num_of (Chain' n (more_of-IrExpr a end_of-IrExpr) m ls) = last_num (num_of a) ls
  num_of (And' n a m rest) = I32
  num_of (Or' n a m rest) = I32
  num_of (Choice' n a m b l c num) = num

  pub last_num : {n : _} → Num → Row_of-IrLink n → Num
  last_num left end_of-IrLink = left
  last_num left (more_of-IrLink op q work b rest) = last_num (result_type op work) rest

-- a place without indices
abbrev pub HasNone : {n : _} → Row_of-Row n → Type 0
HasNone end_of-Row = Unit {0}
HasNone (more_of-Row q rest) = ⊥

-- over cells of these types
unfoldable mutual
  pub IsPlain : List Num → IrExpr → Type 0
  IsPlain nums (Number n num) = IsOf num (pos n)
  IsPlain nums (Read' first n rows num) = HasNone rows × (slice_get nums first ≡ Some num)
  IsPlain nums (Input k num) = ⊥
  IsPlain nums (Prefix' op q num n (more_of-IrExpr a end_of-IrExpr)) = IsPlain nums a × IsTrue (converts (num_of a) num)
  IsPlain nums (Cast' q num n (more_of-IrExpr a end_of-IrExpr)) = IsPlain nums a
  IsPlain nums (Chain' n (more_of-IrExpr a end_of-IrExpr) m ls) = IsPlain nums a × ArePlain nums (num_of a) ls
  IsPlain nums (And' n a m rest) = ⊥
  IsPlain nums (Or' n a m rest) = ⊥
  IsPlain nums (Choice' n a m b l c num) = ⊥

  pub ArePlain : {n : _} → List Num → Num → Row_of-IrLink n → Type 0
  ArePlain nums left end_of-IrLink = Unit {0}
  ArePlain nums left (more_of-IrLink op q work b rest) = IsPlain nums b × (IsLink op left work (num_of b) × ArePlain nums (result_type op work) rest)
