-- What the code keeps of variables: which are references, where their cells stand, and the variables of each home.
use Rattle.std.specs.Prelude.{ℕ, ◌+◌, ◌≡◌, List, [], ◌∷◌, ◌++◌, length, take, get_or, reverse, set, Bool, true, ◌&&◌, nat_lt, if◌then◌else◌, slice_get, option_map, Option}
use Rattle.sa_typed.specs.Frames.{size, has_cells, cells_from, offset_of}
use Rattle.sa_typed.specs.Layouts.{layout_of}
use Rattle.sa_typed.specs.declared.program.Home.{Home}
use Rattle.sa_typed.specs.declared.program.Home.TheVariants as home
use Rattle.sa_typed.specs.declared.program.Param.{Param}
use Rattle.sa_typed.specs.declared.program.Func.{Func}
use Rattle.sa_typed.specs.declared.program.Var.{Var}
use Rattle.sa_typed.specs.declared.program.Program.{Program}
use Rattle.sa_ir.specs.declared.table.Seat.{Seat}
use Rattle.sa_ir.specs.declared.table.Section.{Section}
use Rattle.sa_ir.specs.declared.table.Sections.{Sections}
use Rattle.sa_ir.specs.declared.table.Table.{Table}
use Rattle.sa_ir.specs.Sizes.{all_extents, capped}
use Rattle.sa_ir.specs.Spots.{AreCores}

-- ---- references
unfoldable pub with_param : Param → List Bool → List Bool
with_param q bs = if q.reference && nat_lt q.var (length bs) then set bs q.var true else bs

unfoldable pub with_params : List Param → List Bool → List Bool
with_params [] bs = bs
with_params (q ∷ qs) bs = with_params qs (with_param q bs)

unfoldable pub with_funcs : List Func → List Bool → List Bool
with_funcs [] bs = bs
with_funcs (f ∷ fs) bs = with_funcs fs (with_params f.params bs)

-- ---- sections
-- the numbers of those variables that have cells and live there
unfoldable pub members : Program → Home → ℕ → List Var → List ℕ
members p h k [] = []
members p h k (x ∷ xs) = if has_cells p h k x then k ∷ members p h (k + 1) xs else members p h (k + 1) xs

abbrev pub empty : Section
empty = record { cells = 0; vars = [] }

abbrev pub pushed : Section → ℕ → ℕ → Section
pushed s v cells = record { cells = capped (s.cells + cells); vars = s.vars ++ v ∷ [] }

-- of the first variables
unfoldable pub section : Program → ℕ → Home → Section
section p n h = record { cells = capped (cells_from p h 0 (take n p.vars)); vars = members p h 0 (take n p.vars) }

abbrev pub section_of : Sections → Home → Section
section_of s home.Global = s.globals
section_of s home.Static = s.statics
section_of s (home.Local f) = get_or s.locals.items f empty

abbrev pub AreSections : Program → ℕ → Sections → Type 0
AreSections p n s = (h : Home) → section_of s h ≡ section p n h

-- ---- variables
abbrev pub seat : Program → ℕ → Var → Seat
seat p k x = record { offset = capped (offset_of p x.home k); cells = capped (size (layout_of p k)) }

abbrev pub seat_at : Program → ℕ → Option Seat
seat_at p v = option_map (seat p v) (slice_get p.vars v)

pub record IsTable (p : Program) (t : Table) : Type 0 where
  pub structs : t.structs ≡ all_extents (reverse p.structs)
  pub cores : AreCores p.structs t.cores
  pub seats : (v : ℕ) → slice_get t.seats v ≡ seat_at p v
  pub sections : AreSections p (length p.vars) t.sections
