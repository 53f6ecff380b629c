-- No promise of the top calls rests on this page: it is for laws beside them, for proofs and for inner functions.
-- What the expressions and places of a lowered program are in an environment.
use Rattle.std.specs.Prelude.{pos}
use Rattle.sa_base.specs.declared.num.Num.TheVariants.{I32}
use Rattle.sa_ir.specs.declared.expr.IrExpr.{IrExpr, Number, Read', Input, Prefix', Cast', Chain', And', Or', Choice', end_of-IrExpr, more_of-IrExpr, Row_of-IrExpr, Row_of-IrLink, end_of-IrLink, more_of-IrLink, Row_of-Row, end_of-Row, more_of-Row}
use Rattle.sa_ir.specs.declared.expr.IrExpr.TheVariants as e
use Rattle.sa_ir.specs.declared.expr.IrPlace.{IrPlace}
use Rattle.sa_ir.specs.declared.expr.Row.{Row, At', Kept}
use Rattle.sa_flat.specs.Domain.{Domain}
use Rattle.sa_flat.specs.Meanings.{Meaning, Target, Reach, Cells, literal, input, index, kept, at_cell, moved_by, read, operation, prefixed, cast, and_of, or_of, choice_of}

module _ (D : Domain) (x : Cells) where
  unfoldable mutual
    pub meaning : IrExpr → Meaning D.Env
    meaning (Number n num) = literal D (pos n)
    meaning (Read' first n rows num) = read D x (targets rows (at_cell D first))
    meaning (Input k num) = input D x k
    meaning (Prefix' op q num n (more_of-IrExpr a end_of-IrExpr)) = prefixed D op q num (meaning a)
    meaning (Cast' q num n (more_of-IrExpr a end_of-IrExpr)) = cast D q num (meaning a)
    meaning (Chain' n (more_of-IrExpr a end_of-IrExpr) m ls) = operations ls (meaning a)
    meaning (And' n (more_of-IrExpr a end_of-IrExpr) m rest) = all_of rest (meaning a)
    meaning (Or' n (more_of-IrExpr a end_of-IrExpr) m rest) = any_of rest (meaning a)
    meaning (Choice' n (more_of-IrExpr a end_of-IrExpr) m (more_of-IrExpr b end_of-IrExpr) l (more_of-IrExpr c end_of-IrExpr) num) = choice_of D num (meaning a) (meaning b) (meaning c)

    -- operators of one level group to the left
    pub operations : {n : _} → Row_of-IrLink n → Meaning D.Env → Meaning D.Env
    operations end_of-IrLink m = m
    operations (more_of-IrLink op q num b rest) m = operations rest (operation D op q num m (meaning b))

    pub all_of : {n : _} → Row_of-IrExpr n → Meaning D.Env → Meaning D.Env
    all_of end_of-IrExpr m = m
    all_of (more_of-IrExpr b rest) m = all_of rest (and_of D m (meaning b))

    pub any_of : {n : _} → Row_of-IrExpr n → Meaning D.Env → Meaning D.Env
    any_of end_of-IrExpr m = m
    any_of (more_of-IrExpr b rest) m = any_of rest (or_of D m (meaning b))

    pub targets : {n : _} → Row_of-Row n → Target D.Env → Target D.Env
    targets end_of-Row t = t
    targets (more_of-Row r rest) t = targets rest (moved_by D t (reach r))

    pub reach : Row → Reach D.Env
    reach (At' q size stride m (more_of-IrExpr a end_of-IrExpr)) = index D q size stride (meaning a)
    reach (Kept c size stride) = kept D c size stride

  unfoldable pub read_target : IrExpr → Target D.Env
  read_target (Read' first n rows num) = targets rows (at_cell D first)
  read_target _ = at_cell D 0

  -- the place of an assignment
  abbrev pub target : IrPlace → Target D.Env
  target a = read_target (e.Read a I32)
