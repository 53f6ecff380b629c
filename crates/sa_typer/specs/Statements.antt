-- Assignments, statements, and the block of main.
use Rattle.std.specs.Prelude.{ℕ, List, [], ◌∷◌, ◌++◌, ◌==◌, ◌&&◌, ◌||◌, Bool, true, false, not, if◌then◌else◌, Option, Some, None, option_map}
use Rattle.sa_base.specs.declared.num.Num.{Num}
use Rattle.sa_base.specs.declared.num.Num.TheVariants.{I32}
use Rattle.sa_base.specs.declared.pos.Pos.{Pos}
use Rattle.sa_syntax.specs.declared.expr.Expr as tree
use Rattle.sa_syntax.specs.declared.expr.Expr.{Number, Place', Bracket', Prefix', Cast', Chain', Choice', out-Expr}
use Rattle.sa_syntax.specs.declared.expr.Place.{Place}
use Rattle.sa_syntax.specs.declared.stmt.Block.{Block, out-Block}
use Rattle.sa_syntax.specs.declared.stmt.BlockItem as blocks
use Rattle.sa_syntax.specs.declared.stmt.Compound.{Compound}
use Rattle.sa_syntax.specs.declared.stmt.Compound.TheVariants as c
use Rattle.sa_syntax.specs.declared.stmt.Simple as from
use Rattle.sa_syntax.specs.declared.stmt.Simple.TheVariants as x
use Rattle.sa_syntax.specs.declared.stmt.Stmt as stmts
use Rattle.sa_syntax.specs.declared.stmt.Stmt.{Row_of-BlockItem, end_of-BlockItem, more_of-BlockItem}
use Rattle.sa_syntax.specs.declared.stmt.Update.{Update}
use Rattle.sa_syntax.specs.declared.stmt.Update.TheVariants as update
use Rattle.sa_syntax.specs.declared.stmt.Directive.{Directive}
use Rattle.sa_syntax.specs.declared.stmt.Directive.TheVariants as d
use Rattle.sa_syntax.specs.declared.stmt.First.{First}
use Rattle.sa_syntax.specs.declared.stmt.First.TheVariants as first
use Rattle.sa_typed.specs.declared.expr.Access.{Access}
use Rattle.sa_typed.specs.declared.expr.Expr.{Expr}
use Rattle.sa_typed.specs.declared.expr.Expr.TheVariants as e
use Rattle.sa_typed.specs.declared.expr.Operator.{Operator}
use Rattle.sa_typed.specs.declared.expr.Operator.TheVariants as op
use Rattle.sa_typed.specs.declared.stmt.Simple.{Simple}
use Rattle.sa_typed.specs.declared.stmt.Simple.TheVariants as simply
use Rattle.sa_typed.specs.declared.stmt.Stmt.{Stmt}
use Rattle.sa_typed.specs.declared.stmt.Stmt.TheVariants as t
use Rattle.sa_typer.specs.declared.bodies.Body.{Body}
use Rattle.sa_scopes.specs.declared.constant.Value.TheVariants.{Varies}
use Rattle.sa_scopes.specs.declared.form.Form.{Form}
use Rattle.sa_scopes.specs.declared.form.Form.TheVariants as form
use Rattle.sa_operands.specs.declared.operand.Operand.{Operand}
use Rattle.sa_operands.specs.declared.operand.Operand.TheVariants as a
use Rattle.sa_operands.specs.declared.operand.Spot.{Spot}
use Rattle.sa_scopes.specs.First.{place_pos, item_pos}
use Rattle.sa_scopes.specs.Constants.{working}
use Rattle.sa_operands.specs.Operands.{stand_in, sort_of, is_object}
use Rattle.sa_operands.specs.Places.{access, form_at}
use Rattle.sa_operands.specs.declared.operand.Sort.{Sort}
use Rattle.sa_operands.specs.declared.operand.Sort.TheVariants as sort
use Rattle.sa_operands.specs.Expressions.{expr}
use Rattle.sa_operands.specs.Lists.{spot}
use Rattle.sa_declarations.specs.Declarations.{local}
use Rattle.sa_scopes.specs.Scopes.{oldest, count}
use Rattle.sa_scopes.specs.Typing.{Typing, Gives, and_then, ◌>>=◌, ◌>>◌, pure, refuse, refuse_if}

-- ---- assignments (ISO C 6.5.16)
abbrev pub some_assignment : Access → Pos → Simple
some_assignment x p = simply.Assign x I32 p stand_in

abbrev pub mismatched : Access → Pos → Typing Simple
mismatched x p = refuse 5 p >> pure (some_assignment x p)

-- a number is assigned to, and what to it
abbrev pub to_number : Access → Num → Pos → Operand → Typing Simple
to_number x num p (a.Number e from v) = pure (simply.Assign x num p e)
to_number x num p (a.Struct y k fixed q) = mismatched x p
to_number x num p (a.Array q) = mismatched x p
to_number x num p a.Unknown = pure (some_assignment x p)

-- a whole structure is copied to one of the same number, where no index on either side varies
abbrev pub to_struct : Access → Bool → ℕ → Pos → Operand → Typing Simple
to_struct x fixed k p (a.Number e from v) = mismatched x p
to_struct x fixed k p (a.Struct y j from_fixed q) = refuse_if (not (k == j && fixed && from_fixed)) 7 p >> pure (simply.Copy k x p y)
to_struct x fixed k p (a.Array q) = mismatched x p
to_struct x fixed k p a.Unknown = pure (some_assignment x p)

-- given what stands at the left; an array isn't assigned to, whatever stands at the right
abbrev pub to_form : Spot → Option Form → Pos → Operand → Typing Simple
to_form l None p i = pure (some_assignment (access l) p)
to_form l (Some (form.Scalar num)) p i = to_number (access l) num p i
to_form l (Some (form.Struct k)) p i = to_struct (access l) l.fixed k p i
to_form l (Some (form.Array count)) p i = mismatched (access l) p

unfoldable pub assigned : Spot → Pos → Operand → Typing Simple
assigned l p i = to_form l (form_at l) p i

-- ---- compound assignments, `++` and `--`
abbrev pub compound_of : Compound → Operator
compound_of c.Plus = op.Plus
compound_of c.Minus = op.Minus
compound_of c.Times = op.Times
compound_of c.Divide = op.Divide
compound_of c.Remainder = op.Remainder
compound_of c.ShiftLeft = op.ShiftLeft
compound_of c.ShiftRight = op.ShiftRight
compound_of c.BitAnd = op.BitAnd
compound_of c.BitXor = op.BitXor
compound_of c.BitOr = op.BitOr

abbrev pub update_of : Update → Operator
update_of update.Increment = op.Plus
update_of update.Decrement = op.Minus

abbrev pub one : Operand
one = a.Number (e.Number 1 I32) I32 Varies

abbrev pub sort_by : Option Form → Sort
sort_by None = sort.Unknown
sort_by (Some (form.Scalar num)) = sort.Number num
sort_by (Some _) = sort.Object

-- numbers on both sides, given the sort of the left one
abbrev pub compounded_number : Access → Operator → Pos → Sort → Expr → Num → Typing Simple
compounded_number x o p (sort.Number to) e from = pure (simply.Compound x to o p (working o to from) e)
compounded_number x o p sort.Object e from = mismatched x p
compounded_number x o p sort.Unknown e from = pure (some_assignment x p)

abbrev pub compounded_by : Access → Operator → Pos → Sort → Operand → Typing Simple
compounded_by x o p left (a.Number e from v) = compounded_number x o p left e from
compounded_by x o p left (a.Struct y k fixed q) = mismatched x p
compounded_by x o p left (a.Array q) = mismatched x p
compounded_by x o p left a.Unknown = refuse_if (is_object left) 5 p >> pure (some_assignment x p)

unfoldable pub compounded : Spot → Operator → Pos → Operand → Typing Simple
compounded l o p i = compounded_by (access l) o p (sort_by (form_at l)) i

-- a left side, which is neither constant nor an input
abbrev pub left_side : Place → Typing Spot
left_side x = spot x >>= (λ l. refuse_if l.locked 6 (place_pos x) >> pure l)

unfoldable pub simple : from.Simple → Typing Simple
simple (x.Assign y p i) = left_side y >>= (λ l. expr i >>= (λ i. assigned l p i))
simple (x.Compound y o p i) = left_side y >>= (λ l. expr i >>= (λ i. compounded l (compound_of o) p i))
simple (x.After y o p) = left_side y >>= (λ l. compounded l (update_of o) p one)
simple (x.Before o p y) = left_side y >>= (λ l. compounded l (update_of o) p one)

-- ---- statements
-- what is declared in a block is visible to its end
abbrev pub left_scope : {A : Type 0} → ℕ → ℕ → A → Typing A
left_scope names tags x = λ s. Gives x (record s { names = oldest names s.names; tags = oldest tags s.tags })

unfoldable pub scoped : {A : Type 0} → Typing A → Typing A
scoped m = λ s. (m >>= left_scope (count s.names) (count s.tags)) s

-- a wait that doesn't end the clock loop; other directives aren't built yet
abbrev pub directive : Pos → Directive → Typing (Unit {0})
directive p d.Wait = refuse 23 p
directive p _ = pure tt

unfoldable mutual
  -- a statement, after the ones so far; what isn't built yet is nothing
  pub stmt : stmts.Stmt → List Stmt → Typing (List Stmt)
  stmt (stmts.Block' p n row q) found = scoped (items row []) >>= (λ ss. pure (found ++ t.Block ss ∷ []))
  stmt (stmts.Simple y) found = simple y >>= (λ y. pure (found ++ t.Simple y ∷ []))
  stmt (stmts.Directive p y) found = directive p y >> pure found
  stmt _ found = pure found

  pub items : {n : _} → Row_of-BlockItem n → List Stmt → Typing (List Stmt)
  items end_of-BlockItem found = pure found
  items (more_of-BlockItem i rest) found = item i found >>= items rest

  pub item : blocks.BlockItem → List Stmt → Typing (List Stmt)
  item (blocks.Local l) found = local l found
  item (blocks.Stmt a) found = stmt a found
