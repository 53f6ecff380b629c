-- Names of cells and loops, as a report prints them: a global as it is written, a local with the place of its declared name and
-- the calls that lead to it before it, a loop by the place of its word. This project's own choice.
use Rattle.std.specs.Prelude.{ℕ, zero, suc, List, [], ◌∷◌, ◌++◌, codes, slice_get, Option, Some, None}
use Rattle.std.specs.Fmt.{decimal}
use Rattle.sa_base.specs.declared.pos.Pos.{Pos}
use Rattle.sa_typed.specs.Layouts.{Layout, Layouts, row, fields, no_field, field, nth_field, or_nothing}
use Rattle.sa_typed.specs.Cells.{Step, one, all, of}
use Rattle.sa_typed.specs.declared.program.Home.{Home}
use Rattle.sa_typed.specs.declared.program.Home.TheVariants as home
use Rattle.sa_typed.specs.declared.program.Func.{Func}
use Rattle.sa_typed.specs.declared.program.Var.{Var}
use Rattle.sa_typed.specs.declared.program.Program.{Program}

-- a field's name by its number
unfoldable pub field_name : Layouts → ℕ → List ℕ
field_name no_field k = []
field_name (field x l ls) zero = x
field_name (field x l ls) (suc k) = field_name ls k

abbrev pub inner : Layout → Layout
inner (row n l) = l
inner l = l

abbrev pub at_field : Layout → ℕ → Layout
at_field (fields ls) k = or_nothing (nth_field ls k)
at_field l k = l

abbrev pub name_at : Layout → ℕ → List ℕ
name_at (fields ls) k = field_name ls k
name_at l k = []

-- [3], [*] or .f
unfoldable pub steps_text : Layout → List Step → List ℕ
steps_text l [] = []
steps_text l (one k ∷ ss) = codes "[" ++ (decimal k ++ (codes "]" ++ steps_text (inner l) ss))
steps_text l (all n ∷ ss) = codes "[*]" ++ steps_text (inner l) ss
steps_text l (of k ∷ ss) = codes "." ++ (name_at l k ++ steps_text (at_field l k) ss)

-- LINE:COL
abbrev pub pos_text : Pos → List ℕ
pos_text q = decimal q.line ++ (codes ":" ++ decimal q.col)

-- what stands before the name of a variable in a call: the calls that lead there, of which a global and a static local have none
abbrev pub path_before : List ℕ → Home → List ℕ
path_before prefix home.Global = []
path_before prefix home.Static = []
path_before prefix (home.Local f) = prefix

-- @LINE:COL
abbrev pub place_text : Home → Pos → List ℕ
place_text home.Global q = []
place_text home.Static q = codes "@" ++ pos_text q
place_text (home.Local f) q = codes "@" ++ pos_text q

-- of a variable in a call to which the path with this text leads
unfoldable pub var_text : List ℕ → Option Var → List ℕ
var_text prefix None = []
var_text prefix (Some v) = path_before prefix v.home ++ (v.name ++ place_text v.home v.pos)

abbrev pub func_name : Option Func → List ℕ
func_name None = []
func_name (Some f) = f.name

-- a path with one more call: f@LINE:COL/, of the function and the place of its name in the call
unfoldable pub call_text : Program → List ℕ → Pos → ℕ → List ℕ
call_text p prefix q f = prefix ++ (func_name (slice_get p.funcs f) ++ (codes "@" ++ (pos_text q ++ codes "/")))

unfoldable pub loop_text : List ℕ → Pos → List ℕ
loop_text prefix q = prefix ++ pos_text q
