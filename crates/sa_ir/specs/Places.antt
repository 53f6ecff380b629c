-- Lowered places and expressions. A place begins at what its variable stands for in the call. A field, and a constant index that
-- names an element, lead to a later first cell; every other index stays, with its stride. In an array that has one cell for all
-- its elements an index leads nowhere further. This project's own choice.
use Rattle.std.specs.Prelude.{ℕ, ◌+◌, ◌*◌, List, [], ◌∷◌, ◌++◌, map, nat_le, if◌then◌else◌, Option, Some, None}
use Rattle.sa_base.specs.declared.num.Num.TheVariants.{I32}
use Rattle.sa_typed.specs.Cells.{most_elements}
use Rattle.sa_typed.specs.Constants.{is_constant, fixed_index}
use Rattle.sa_typed.specs.Frames.{size}
use Rattle.sa_typed.specs.Layouts.{Layout, row, fields, layout_of}
use Rattle.sa_typed.specs.declared.expr.Expr.{Expr, Number, Read', Input, Prefix', Cast', Chain', And', Or', Choice', end_of-Expr, more_of-Expr, Row_of-Expr, Row_of-Link, end_of-Link, more_of-Link, Row_of-Step, end_of-Step, more_of-Step}
use Rattle.sa_typed.specs.declared.expr.Expr.TheVariants as e
use Rattle.sa_typed.specs.declared.expr.Access.{Access}
use Rattle.sa_typed.specs.declared.expr.Step.{At', Field}
use Rattle.sa_typed.specs.declared.program.Program.{Program}
use Rattle.sa_ir.specs.declared.expr.IrExpr.{IrExpr}
use Rattle.sa_ir.specs.declared.expr.IrExpr.TheVariants as ir
use Rattle.sa_ir.specs.declared.expr.IrLink.{IrLink}
use Rattle.sa_ir.specs.declared.expr.IrPlace.{IrPlace}
use Rattle.sa_ir.specs.declared.expr.Row.{Row}
use Rattle.sa_ir.specs.declared.expr.Row.TheVariants as rows
use Rattle.sa_ir.specs.declared.frame.Kept.{Kept}
use Rattle.sa_ir.specs.declared.frame.Target.{Target}
use Rattle.sa_ir.specs.Frames.{Frame}
use Rattle.sa_ir.specs.Names.{inner, at_field}
use Rattle.sa_ir.specs.Sizes.{cells_before}

-- ---- strides
-- how many cells further an index leads with each step
unfoldable pub stride_of : Layout → ℕ
stride_of (row n l) = if nat_le n most_elements then size l else 0
stride_of _ = 0

-- how many cells stand before a field
unfoldable pub cells_to : Layout → ℕ → ℕ
cells_to (fields ls) f = cells_before ls f
cells_to _ f = 0

-- ---- places
abbrev pub kept_row : Kept → Row
kept_row k = rows.Kept k.cell k.size k.stride

-- the place that a variable stands for, before any step
abbrev pub place_at : Target → IrPlace
place_at t = record { first = t.first; rows = map kept_row t.rows }

-- the element that an index names for sure
abbrev pub folded : ℕ → Expr → Option ℕ
folded n a = if is_constant a then fixed_index n a else None

-- how much further an index leads that is folded
abbrev pub moved_by : Option ℕ → ℕ → ℕ
moved_by None stride = 0
moved_by (Some i) stride = i * stride

-- the row of an index that isn't folded
abbrev pub row_for : Option ℕ → Row → List Row
row_for None r = r ∷ []
row_for (Some i) r = []

-- ---- expressions
unfoldable mutual
  pub lowered : Program → Frame → Expr → IrExpr
  lowered p fr (Number n num) = ir.Number n num
  lowered p fr (Read' v n steps num) =
      ir.Read (record { first = (fr.base v).first + steps_cells (layout_of p v) steps; rows = map kept_row (fr.base v).rows ++ steps_rows p fr (layout_of p v) steps }) num
  lowered p fr (Input k num) = ir.Input k num
  lowered p fr (Prefix' op q num n (more_of-Expr a end_of-Expr)) = ir.Prefix op q num (lowered p fr a)
  lowered p fr (Cast' q num n (more_of-Expr a end_of-Expr)) = ir.Cast q num (lowered p fr a)
  lowered p fr (Chain' n (more_of-Expr a end_of-Expr) m ls) = ir.Chain (lowered p fr a) (lowered_links p fr ls)
  lowered p fr (And' n (more_of-Expr a end_of-Expr) m rest) = ir.And (lowered p fr a) (all_lowered p fr rest)
  lowered p fr (Or' n (more_of-Expr a end_of-Expr) m rest) = ir.Or (lowered p fr a) (all_lowered p fr rest)
  lowered p fr (Choice' n (more_of-Expr a end_of-Expr) m (more_of-Expr b end_of-Expr) l (more_of-Expr c end_of-Expr) num) =
      ir.Choice (lowered p fr a) (lowered p fr b) (lowered p fr c) num

  pub all_lowered : {n : _} → Program → Frame → Row_of-Expr n → List IrExpr
  all_lowered p fr end_of-Expr = []
  all_lowered p fr (more_of-Expr b rest) = lowered p fr b ∷ all_lowered p fr rest

  pub lowered_links : {n : _} → Program → Frame → Row_of-Link n → List IrLink
  lowered_links p fr end_of-Link = []
  lowered_links p fr (more_of-Link op q num b rest) = record { op = op; pos = q; num = num; operand = lowered p fr b } ∷ lowered_links p fr rest

  -- how many cells further steps lead from an object
  pub steps_cells : {n : _} → Layout → Row_of-Step n → ℕ
  steps_cells l end_of-Step = 0
  steps_cells l (more_of-Step (At' q n m (more_of-Expr a end_of-Expr)) rest) = moved_by (folded n a) (stride_of l) + steps_cells (inner l) rest
  steps_cells l (more_of-Step (Field f) rest) = cells_to l f + steps_cells (at_field l f) rest

  -- the indices that stay
  pub steps_rows : {n : _} → Program → Frame → Layout → Row_of-Step n → List Row
  steps_rows p fr l end_of-Step = []
  steps_rows p fr l (more_of-Step (At' q n m (more_of-Expr a end_of-Expr)) rest) =
      row_for (folded n a) (rows.At q n (stride_of l) (lowered p fr a)) ++ steps_rows p fr (inner l) rest
  steps_rows p fr l (more_of-Step (Field f) rest) = steps_rows p fr (at_field l f) rest

-- the place of an access
unfoldable pub read_lowered : Program → Frame → Expr → IrPlace
read_lowered p fr (Read' v n steps num) = record { first = (fr.base v).first + steps_cells (layout_of p v) steps; rows = map kept_row (fr.base v).rows ++ steps_rows p fr (layout_of p v) steps }
read_lowered p fr _ = place_at (fr.base 0)

abbrev pub place : Program → Frame → Access → IrPlace
place p fr x = read_lowered p fr (e.Read x I32)

-- a cell by itself
abbrev pub only : ℕ → IrPlace
only k = record { first = k; rows = [] }

-- ---- arguments of references
-- every index is kept, also a constant one, in the cells from h on
unfoldable pub fields_cells : {n : _} → Layout → Row_of-Step n → ℕ
fields_cells l end_of-Step = 0
fields_cells l (more_of-Step (At' q n m a) rest) = fields_cells (inner l) rest
fields_cells l (more_of-Step (Field f) rest) = cells_to l f + fields_cells (at_field l f) rest

unfoldable pub kept_rows : {n : _} → Layout → ℕ → Row_of-Step n → List Kept
kept_rows l h end_of-Step = []
kept_rows l h (more_of-Step (At' q n m a) rest) = record { cell = h; size = n; stride = stride_of l } ∷ kept_rows (inner l) (h + 1) rest
kept_rows l h (more_of-Step (Field f) rest) = kept_rows (at_field l f) h rest

unfoldable pub read_target : Program → Frame → ℕ → Expr → Target
read_target p fr h (Read' v n steps num) =
    record { first = (fr.base v).first + fields_cells (layout_of p v) steps; rows = (fr.base v).rows ++ kept_rows (layout_of p v) h steps }
read_target p fr h _ = fr.base 0

-- what a reference stands for whose argument this is
abbrev pub target : Program → Frame → ℕ → Access → Target
target p fr h x = read_target p fr h (e.Read x I32)
