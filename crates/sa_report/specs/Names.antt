-- The name of a cell in a report: of a global as it is written, of a local with the place of its declared name.
use Rattle.std.specs.Prelude.{ℕ, zero, suc, List, [], ◌∷◌, ◌++◌, codes, slice_get, Option, Some, None}
use Rattle.std.specs.Fmt.{decimal}
use Rattle.sa_base.specs.declared.pos.Pos.{Pos}
use Rattle.sa_typed.specs.Layouts.{Layout, Layouts, row, fields, no_field, field, nth_field, or_nothing, layout_of}
use Rattle.sa_typed.specs.Cells.{Step, one, all, of, Cell}
use Rattle.sa_typed.specs.declared.program.Home.{Home}
use Rattle.sa_typed.specs.declared.program.Home.TheVariants as home
use Rattle.sa_typed.specs.declared.program.Var.{Var}
use Rattle.sa_typed.specs.declared.program.Program.{Program}

-- a field's name by its number
unfoldable pub field_name : Layouts → ℕ → List ℕ
field_name no_field k = []
field_name (field x l ls) zero = x
field_name (field x l ls) (suc k) = field_name ls k

abbrev pub inner : Layout → Layout
inner (row n l) = l
inner l = l

abbrev pub at_field : Layout → ℕ → Layout
at_field (fields ls) k = or_nothing (nth_field ls k)
at_field l k = l

abbrev pub name_at : Layout → ℕ → List ℕ
name_at (fields ls) k = field_name ls k
name_at l k = []

-- [3], [*] or .f
unfoldable pub steps_text : Layout → List Step → List ℕ
steps_text l [] = []
steps_text l (one k ∷ ss) = codes "[" ++ (decimal k ++ (codes "]" ++ steps_text (inner l) ss))
steps_text l (all n ∷ ss) = codes "[*]" ++ steps_text (inner l) ss
steps_text l (of k ∷ ss) = codes "." ++ (name_at l k ++ steps_text (at_field l k) ss)

-- @LINE:COL
abbrev pub place_text : Home → Pos → List ℕ
place_text home.Global p = []
place_text home.Static p = codes "@" ++ (decimal p.line ++ (codes ":" ++ decimal p.col))
place_text (home.Local f) p = codes "@" ++ (decimal p.line ++ (codes ":" ++ decimal p.col))

abbrev pub var_text : Option Var → List ℕ
var_text None = []
var_text (Some v) = v.name ++ place_text v.home v.pos

unfoldable pub cell_name : Program → Cell → List ℕ
cell_name p c = var_text (slice_get p.vars c.var) ++ steps_text (layout_of p c.var) c.steps
