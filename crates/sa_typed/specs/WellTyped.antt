-- What typing promises of a program: steps follow what their variable is made of, and each operand converts to the type in
-- which its operator works without loss of meaning. Executions and analyses of such programs meet no other. Of the forms that
-- typing doesn't give yet no program is typed (`⊥`).
use Rattle.std.specs.Prelude.{ℕ, pos, ◌≡◌, ◌==◌, Bool, true, false, ◌&&◌, ◌||◌, not, IsTrue, if◌then◌else◌, get_or, slice_get, Option, Some, None}
use Rattle.std.specs.Int.RustNames.{int_le}
use Rattle.sa_base.specs.Numbers.{num_lo, num_hi}
use Rattle.sa_base.specs.declared.num.Num.{Num}
use Rattle.sa_base.specs.declared.num.Num.TheVariants.{I32}
use Rattle.sa_typed.specs.Arithmetic.{is_signed, is_of, result_type, prefix_type}
use Rattle.sa_typed.specs.Constants.{is_fixed}
use Rattle.sa_typed.specs.Layouts.{Layout, leaf, row, fields, nth_field, layout_of, nums}
use Rattle.sa_typed.specs.declared.expr.Expr.{Expr, Number, Read', Input, Prefix', Cast', Chain', And', Or', Choice', end_of-Expr, more_of-Expr, Row_of-Link, end_of-Link, more_of-Link, Row_of-Step, end_of-Step, more_of-Step}
use Rattle.sa_typed.specs.declared.expr.Expr.TheVariants as e
use Rattle.sa_typed.specs.declared.expr.Access.{Access}
use Rattle.sa_typed.specs.declared.expr.Operator.{Operator}
use Rattle.sa_typed.specs.declared.expr.Operator.TheVariants as o
use Rattle.sa_typed.specs.declared.expr.Step.{Step, At', Field}
use Rattle.sa_typed.specs.declared.stmt.Start.{Start}
use Rattle.sa_typed.specs.declared.stmt.Start.TheVariants as begins
use Rattle.sa_typed.specs.declared.stmt.Simple.{Simple}
use Rattle.sa_typed.specs.declared.stmt.Simple.TheVariants.{Declare, Assign, Compound, Copy}
use Rattle.sa_typed.specs.declared.stmt.Stmt.{Stmt, Row_of-Stmt, end_of-Stmt, more_of-Stmt}
use Rattle.sa_typed.specs.declared.stmt.LoopKind.TheVariants as kind
use Rattle.sa_typed.specs.declared.program.Input as program
use Rattle.sa_typed.specs.declared.program.Var.{Var}
use Rattle.sa_typed.specs.declared.program.Program.{Program}
use Rattle.sa_typed.specs.Executions.{main_of}

-- ---- the type of an expression
unfoldable pub links_type : {n : _} → Num → Row_of-Link n → Num
links_type num end_of-Link = num
links_type num (more_of-Link op p work b rest) = links_type (result_type op work) rest

unfoldable pub type_of : Expr → Num
type_of (Number n num) = num
type_of (Read' v n steps num) = num
type_of (Input k num) = num
type_of (Prefix' op p num n (more_of-Expr a end_of-Expr)) = prefix_type op num
type_of (Cast' p num n (more_of-Expr a end_of-Expr)) = num
type_of (Chain' n (more_of-Expr a end_of-Expr) m ls) = links_type (type_of a) ls
type_of (And' n a m rest) = I32
type_of (Or' n a m rest) = I32
type_of (Choice' n a m b l c num) = num

-- operands of one type are converted to another: an unsigned one reduces them, a signed one has to hold them all
unfoldable pub converts : Num → Num → Bool
converts from to = not (is_signed to) || (int_le (num_lo to) (num_lo from) && int_le (num_hi from) (num_hi to))

-- the count of a shift isn't converted
abbrev pub right_converts : Operator → Num → Num → Bool
right_converts o.ShiftLeft from to = true
right_converts o.ShiftRight from to = true
right_converts op from to = converts from to

-- ---- places
abbrev pub typed_step : Layout → Step → Option Layout
typed_step (row n l) (At' p m k (more_of-Expr a end_of-Expr)) = if n == m then Some l else None
typed_step (fields ls) (Field f) = nth_field ls f
typed_step _ _ = None

abbrev pub into : Option Layout → Step → Option Layout
into None s = None
into (Some l) s = typed_step l s

-- what steps lead to
unfoldable pub steps_layout : {n : _} → Option Layout → Row_of-Step n → Option Layout
steps_layout o end_of-Step = o
steps_layout o (more_of-Step s rest) = steps_layout (into o s) rest

-- what an access leads to
unfoldable pub read_layout : Program → Expr → Option Layout
read_layout p (Read' v n steps num) = steps_layout (Some (layout_of p v)) steps
read_layout p _ = None

abbrev pub access_layout : Program → Access → Option Layout
access_layout p x = read_layout p (e.Read x I32)

-- ---- expressions
abbrev pub num_of_input : Option program.Input → Option Num
num_of_input None = None
num_of_input (Some i) = Some i.num

pub record IsLink (op : Operator) (left work right : Num) : Type 0 where
  pub first : IsTrue (converts left work)
  pub second : IsTrue (right_converts op right work)

unfoldable mutual
  pub IsTypedExpr : Program → Expr → Type 0
  IsTypedExpr p (Number n num) = IsTrue (is_of num (pos n))
  IsTypedExpr p (Read' v n steps num) = AreTypedSteps p steps × (steps_layout (Some (layout_of p v)) steps ≡ Some (leaf num))
  IsTypedExpr p (Input k num) = num_of_input (slice_get p.inputs k) ≡ Some num
  IsTypedExpr p (Prefix' op q num n (more_of-Expr a end_of-Expr)) = IsTypedExpr p a × IsTrue (converts (type_of a) num)
  IsTypedExpr p (Cast' q num n (more_of-Expr a end_of-Expr)) = IsTypedExpr p a
  IsTypedExpr p (Chain' n (more_of-Expr a end_of-Expr) m ls) = IsTypedExpr p a × AreTypedLinks p (type_of a) ls
  IsTypedExpr p (And' n a m rest) = ⊥
  IsTypedExpr p (Or' n a m rest) = ⊥
  IsTypedExpr p (Choice' n a m b l c num) = ⊥

  -- links after a left operand of this type
  pub AreTypedLinks : {n : _} → Program → Num → Row_of-Link n → Type 0
  AreTypedLinks p left end_of-Link = Unit {0}
  AreTypedLinks p left (more_of-Link op q work b rest) = IsTypedExpr p b × (IsLink op left work (type_of b) × AreTypedLinks p (result_type op work) rest)

  pub AreTypedSteps : {n : _} → Program → Row_of-Step n → Type 0
  AreTypedSteps p end_of-Step = Unit {0}
  AreTypedSteps p (more_of-Step s rest) = IsTypedStep p s × AreTypedSteps p rest

  pub IsTypedStep : Program → Step → Type 0
  IsTypedStep p (At' q m k (more_of-Expr a end_of-Expr)) = IsTypedExpr p a
  IsTypedStep p (Field f) = Unit {0}

-- each step leads to one place in every execution
unfoldable pub are_fixed : {n : _} → Row_of-Step n → Bool
are_fixed end_of-Step = true
are_fixed (more_of-Step s rest) = is_fixed s && are_fixed rest

abbrev pub is_fixed_read : Expr → Bool
is_fixed_read (Read' v n steps num) = are_fixed steps
is_fixed_read _ = false

-- an access whose indices are typed and that leads there
abbrev pub IsRead : Program → Layout → Expr → Type 0
IsRead p l (Read' v n steps num) = AreTypedSteps p steps × (steps_layout (Some (layout_of p v)) steps ≡ Some l)
IsRead p l _ = ⊥

abbrev pub IsTypedAccess : Program → Layout → Access → Type 0
IsTypedAccess p l x = IsRead p l (e.Read x I32)

-- the same with constant indices alone
pub record IsFixedAccess (p : Program) (l : Layout) (x : Access) : Type 0 where
  pub typed : IsTypedAccess p l x
  pub fixed : IsTrue (is_fixed_read (e.Read x I32))

-- ---- statements
abbrev pub IsTypedStart : Program → ℕ → Start → Type 0
IsTypedStart p v begins.Any = Unit {0}
IsTypedStart p v (begins.Value q a) = IsTypedExpr p a × ((num : Num) × (layout_of p v ≡ leaf num))
IsTypedStart p v begins.Items = Unit {0}

abbrev pub IsTypedSimple : Program → Simple → Type 0
IsTypedSimple p (Declare v s) = IsTypedStart p v s
IsTypedSimple p (Assign x num q a) = IsTypedAccess p (leaf num) x × IsTypedExpr p a
IsTypedSimple p (Compound x num op q work a) = IsTypedAccess p (leaf num) x × (IsTypedExpr p a × IsLink op num work (type_of a))
IsTypedSimple p (Copy k x q y) = (l : Layout) × IsFixedAccess p l x × IsFixedAccess p l y

unfoldable mutual
  pub IsTypedStmt : Program → Stmt → Type 0
  IsTypedStmt p (Stmt.Simple s) = IsTypedSimple p s
  IsTypedStmt p (Stmt.Block' n all) = AreTypedStmts p all
  IsTypedStmt p (Stmt.Loop' q kind.Clock None n (more_of-Stmt body end_of-Stmt) None) = IsTypedStmt p body
  IsTypedStmt p Stmt.Wait = Unit {0}
  IsTypedStmt p _ = ⊥

  pub AreTypedStmts : {n : _} → Program → Row_of-Stmt n → Type 0
  AreTypedStmts p end_of-Stmt = Unit {0}
  AreTypedStmts p (more_of-Stmt s rest) = IsTypedStmt p s × AreTypedStmts p rest

-- ---- programs
-- the initial values are of the types of their elements; what isn't listed is 0
abbrev pub HasTypedItems : Program → ℕ → Var → Type 0
HasTypedItems p k v = (i : ℕ) (num : Num) → slice_get (nums (layout_of p k)) i ≡ Some num → IsTrue (is_of num (get_or v.initial i (pos 0)))

pub record IsTyped (p : Program) : Type 0 where
  pub body : IsTypedStmt p (main_of p)
  pub items : (k : ℕ) (v : Var) → slice_get p.vars k ≡ Some v → HasTypedItems p k v
