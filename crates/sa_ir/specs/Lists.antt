-- Rows of a tree as lists, as code goes over them.
use Rattle.std.specs.Prelude.{ℕ, List, [], ◌∷◌, false}
use Rattle.sa_base.specs.declared.num.Num.{Num}
use Rattle.sa_typed.specs.Arithmetic.{result_type}
use Rattle.sa_typed.specs.WellTyped.{type_of}
use Rattle.sa_typed.specs.declared.expr.Expr.{end_of-Expr, more_of-Expr}
use Rattle.sa_typed.specs.declared.expr.Link.{Link, out-Link}
use Rattle.sa_typed.specs.declared.expr.Step.{Step, At', Field}
use Rattle.sa_ir.specs.declared.ir.Cell.{Cell}
use Rattle.sa_ir.specs.declared.slots.Slot.{Slot}
use Rattle.sa_ir.specs.Frames.{hidden}

unfoldable pub links_after : Num → List Link → Num
links_after num [] = num
links_after num (l ∷ ls) = links_after (result_type (out-Link l).op (out-Link l).num) ls

abbrev pub cell_at : List ℕ → Slot → Cell
cell_at name s = record { name = name; num = s.num; starred = s.starred; hidden = false }

-- the hidden cell of an index
unfoldable pub step_cells : Step → List Cell
step_cells (At' q n m (more_of-Expr a end_of-Expr)) = hidden (type_of a) ∷ []
step_cells (Field f) = []
