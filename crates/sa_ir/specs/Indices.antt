-- What lowering asks of a typed program: that each constant index has a type, so that its value can be computed. And rows of a
-- tree as lists, as code goes over them.
use Rattle.std.specs.Prelude.{ℕ, ◌+◌, ◌≡◌, List, [], ◌∷◌, ◌++◌, true}
use Rattle.std.specs.List.{All}
use Rattle.sa_typed.specs.Constants.{is_constant}
use Rattle.sa_typed.specs.Layouts.{Layout}
use Rattle.sa_typed.specs.Links.{HasType}
use Rattle.sa_typed.specs.declared.expr.Access.{Access, out-Access}
use Rattle.sa_typed.specs.declared.expr.Expr.{Expr, Number, Read', Input, Prefix', Cast', Chain', And', Or', Choice', end_of-Expr, more_of-Expr, Row_of-Expr, Row_of-Link, end_of-Link, more_of-Link, Row_of-Step, end_of-Step, more_of-Step}
use Rattle.sa_typed.specs.declared.expr.Link.{Link, out-Link}
use Rattle.sa_typed.specs.declared.expr.Step.{Step, At', Field}
use Rattle.sa_typed.specs.declared.program.Program.{Program}
use Rattle.sa_typed.specs.declared.stmt.Simple.{Simple}
use Rattle.sa_typed.specs.declared.stmt.Simple.TheVariants.{Declare, Assign, Compound, Copy}
use Rattle.sa_typed.specs.declared.stmt.Start.{Start}
use Rattle.sa_typed.specs.declared.stmt.Start.TheVariants as begins
use Rattle.sa_ir.specs.declared.ir.Ends.{Ends}
use Rattle.sa_ir.specs.declared.slots.Slot.{Slot}
use Rattle.sa_ir.specs.declared.expr.IrLink.{IrLink}
use Rattle.sa_ir.specs.declared.expr.Row.{Row}
use Rattle.sa_ir.specs.declared.expr.Row.TheVariants as rows
use Rattle.sa_ir.specs.Frames.{Frame}
use Rattle.sa_ir.specs.Names.{inner, at_field}
use Rattle.sa_ir.specs.Places.{stride_of, cells_to, folded, moved_by, row_for, lowered}

unfoldable mutual
  pub AreIndicesTyped : Expr → Type 0
  AreIndicesTyped (Number n num) = Unit {0}
  AreIndicesTyped (Read' v n steps num) = StepsTyped steps
  AreIndicesTyped (Input k num) = Unit {0}
  AreIndicesTyped (Prefix' op q num n (more_of-Expr a end_of-Expr)) = AreIndicesTyped a
  AreIndicesTyped (Cast' q num n (more_of-Expr a end_of-Expr)) = AreIndicesTyped a
  AreIndicesTyped (Chain' n (more_of-Expr a end_of-Expr) m ls) = AreIndicesTyped a × LinksTyped ls
  AreIndicesTyped (And' n (more_of-Expr a end_of-Expr) m rest) = AreIndicesTyped a × AllTyped rest
  AreIndicesTyped (Or' n (more_of-Expr a end_of-Expr) m rest) = AreIndicesTyped a × AllTyped rest
  AreIndicesTyped (Choice' n (more_of-Expr a end_of-Expr) m (more_of-Expr b end_of-Expr) l (more_of-Expr c end_of-Expr) num) = AreIndicesTyped a × AreIndicesTyped b × AreIndicesTyped c

  pub AllTyped : {n : _} → Row_of-Expr n → Type 0
  AllTyped end_of-Expr = Unit {0}
  AllTyped (more_of-Expr b rest) = AreIndicesTyped b × AllTyped rest

  pub LinksTyped : {n : _} → Row_of-Link n → Type 0
  LinksTyped end_of-Link = Unit {0}
  LinksTyped (more_of-Link op q num b rest) = AreIndicesTyped b × LinksTyped rest

  pub StepsTyped : {n : _} → Row_of-Step n → Type 0
  StepsTyped end_of-Step = Unit {0}
  StepsTyped (more_of-Step s rest) = IsStepTyped s × StepsTyped rest

  pub IsStepTyped : Step → Type 0
  IsStepTyped (At' q n m (more_of-Expr a end_of-Expr)) = (is_constant a ≡ true → HasType a) × AreIndicesTyped a
  IsStepTyped (Field f) = Unit {0}

abbrev pub IsLinkTyped : Link → Type 0
IsLinkTyped l = AreIndicesTyped (out-Link l).operand

abbrev pub IsAccessTyped : Access → Type 0
IsAccessTyped x = All IsStepTyped (out-Access x).steps

abbrev pub IsStartTyped : Start → Type 0
IsStartTyped begins.Any = Unit {0}
IsStartTyped (begins.Value q a) = AreIndicesTyped a
IsStartTyped begins.Items = Unit {0}

abbrev pub IsSimpleTyped : Simple → Type 0
IsSimpleTyped (Declare v s) = IsStartTyped s
IsSimpleTyped (Assign x num q a) = IsAccessTyped x × AreIndicesTyped a
IsSimpleTyped (Compound x num op q work a) = IsAccessTyped x × AreIndicesTyped a
IsSimpleTyped (Copy k x q y) = IsAccessTyped x × IsAccessTyped y

-- ---- lists
abbrev pub link_lowered : Program → Frame → Link → IrLink
link_lowered p fr l = record { op = (out-Link l).op; pos = (out-Link l).pos; num = (out-Link l).num; operand = lowered p fr (out-Link l).operand }

-- how many cells further a step leads, what it leads to, and the row that it leaves
unfoldable pub step_cells : Layout → Step → ℕ
step_cells l (At' q n m (more_of-Expr a end_of-Expr)) = moved_by (folded n a) (stride_of l)
step_cells l (Field f) = cells_to l f

unfoldable pub step_layout : Layout → Step → Layout
step_layout l (At' q n m a) = inner l
step_layout l (Field f) = at_field l f

unfoldable pub step_rows : Program → Frame → Layout → Step → List Row
step_rows p fr l (At' q n m (more_of-Expr a end_of-Expr)) = row_for (folded n a) (rows.At q n (stride_of l) (lowered p fr a))
step_rows p fr l (Field f) = []

unfoldable pub list_cells : Layout → List Step → ℕ
list_cells l [] = 0
list_cells l (s ∷ ss) = step_cells l s + list_cells (step_layout l s) ss

unfoldable pub list_rows : Program → Frame → Layout → List Step → List Row
list_rows p fr l [] = []
list_rows p fr l (s ∷ ss) = step_rows p fr l s ++ list_rows p fr (step_layout l s) ss

-- what a cell begins with
abbrev pub slot_ends : Slot → Ends
slot_ends s = record { lo = s.lo; hi = s.hi }
