-- No promise of the top calls rests on this page: it is for laws beside them, for proofs and for inner functions.
-- Where cells stand: the variable of each and its number there, in the cells' order, and the name of a cell that stands there.
use Rattle.std.specs.Prelude.{ℕ, zero, suc, ◌+◌, ◌-◌, ◌/◌, ◌%◌, ◌≡◌, ◌≤◌, ◌<◌, List, [], ◌∷◌, ◌++◌, length, get_or, codes, Bool, if◌then◌else◌, nat_le, nat_lt, slice_get, Option, MatchOption}
use Rattle.std.specs.Fmt.{decimal}
use Rattle.sa_base.specs.declared.num.Num.TheVariants.{I32}
use Rattle.sa_base.specs.declared.pos.Pos.{Pos}
use Rattle.sa_typed.specs.Layouts.{Layout, Layouts, leaf, row, fields, no_field, field, layout_of}
use Rattle.sa_typed.specs.Cells.{Inner, Cell, inner_cells, cell_of, most_elements, is_global, is_static, is_local}
use Rattle.sa_typed.specs.declared.program.Home.{Home}
use Rattle.sa_typed.specs.declared.program.Var.{Var}
use Rattle.sa_typed.specs.declared.program.Program.{Program}
use Rattle.sa_cells.specs.declared.ground.Extent.{Extent}
use Rattle.sa_cells.specs.Grounds.{IsGround}
use Rattle.sa_cells.specs.Sizes.{size, among, extent}
use Rattle.sa_report.specs.declared.names.Spot.{Spot}
use Rattle.sa_report.specs.declared.names.Inside.{Inside}
use Rattle.sa_report.specs.declared.names.Cells.{Cells}
use Rattle.sa_report.specs.declared.names.Sort.{Sort}
use Rattle.sa_report.specs.declared.names.Sort.TheVariants as sort
use Rattle.sa_report.specs.Names.{var_text}

-- ---- in the cells' order
abbrev pub has_home : Sort → Home → Bool
has_home sort.Global h = is_global h
has_home sort.Static h = is_static h
has_home sort.Local h = is_local h

-- so many cells of a variable, those with numbers from k on
unfoldable pub spots_from : ℕ → ℕ → ℕ → List Spot
spots_from v zero k = []
spots_from v (suc n) k = record { var = v; number = k } ∷ spots_from v n (k + 1)

-- of the variables with numbers from k on
unfoldable pub spots_at : Program → Sort → ℕ → List Var → List Spot
spots_at p s k [] = []
spots_at p s k (v ∷ vs) = if has_home s v.home then spots_from k (size (layout_of p k)) 0 ++ spots_at p s (k + 1) vs else spots_at p s (k + 1) vs

unfoldable pub spots : Program → List Spot
spots p = spots_at p sort.Global 0 p.vars ++ (spots_at p sort.Static 0 p.vars ++ spots_at p sort.Local 0 p.vars)

abbrev pub no_cell : Inner
no_cell = record { steps = []; num = I32 }

-- the cell that stands there
unfoldable pub cell_at : Program → Spot → Cell
cell_at p s = cell_of s.var (get_or (inner_cells (layout_of p s.var)) s.number no_cell)

pub record IsSpot (p : Program) (s : Spot) : Type 0 where
  pub var : s.var < length p.vars
  pub number : s.number < size (layout_of p s.var)

-- the table of a program's cells
pub record AreCells (p : Program) (t : Cells) : Type 0 where
  pub ground : IsGround p t.ground
  pub spots : t.spots.items ≡ spots p

-- ---- names by numbers
-- the steps to the cell with this number within an object
unfoldable mutual
  pub inner_name : Layout → ℕ → List ℕ
  inner_name (leaf num) j = []
  inner_name (row n l) j = if nat_le n most_elements then codes "[" ++ (decimal (j / size l) ++ (codes "]" ++ inner_name l (j % size l))) else codes "[*]" ++ inner_name l j
  inner_name (fields ls) j = field_inner ls j

  pub field_inner : Layouts → ℕ → List ℕ
  field_inner no_field j = []
  field_inner (field x l ls) j = if nat_lt j (size l) then codes "." ++ (x ++ inner_name l j) else field_inner ls (j - size l)

unfoldable pub spot_name : Program → Spot → List ℕ
spot_name p s = var_text (slice_get p.vars s.var) ++ inner_name (layout_of p s.var) s.number

-- ---- steps on the way to a cell
abbrev pub inside_layout : Program → Inside → Layout
inside_layout p i = among p.structs i.structs (record { dims = i.dims.now; plain = i.plain })

pub record IsInside (p : Program) (i : Inside) : Type 0 where
  pub known : i.structs ≤ length p.structs
  pub cells : i.cells ≡ size (inside_layout p i)
  pub small : i.cells ≤ 65536
  pub number : i.number < i.cells

abbrev pub inside_name : Program → Inside → List ℕ
inside_name p i = inner_name (inside_layout p i) i.number

-- how many steps at most
unfoldable mutual
  pub depth : Layout → ℕ
  depth (leaf num) = 0
  depth (row n l) = suc (depth l)
  depth (fields ls) = suc (depth_of ls)

  pub depth_of : Layouts → ℕ
  depth_of no_field = 0
  depth_of (field x l ls) = depth l + depth_of ls

-- one step further: what was written and what is left to write
pub record IsNext (p : Program) (old new : List ℕ) (i n : Inside) : Type 0 where
  pub inside : IsInside p n
  pub text : new ++ inside_name p n ≡ old ++ inside_name p i
  pub less : depth (inside_layout p n) < depth (inside_layout p i)

abbrev pub Steps : Program → List ℕ → List ℕ → Inside → Option Inside → Type 0
Steps p old new i o = MatchOption o (new ≡ old ++ inside_name p i) (λ n. IsNext p old new i n)

-- ---- fields by their numbers of cells
abbrev pub before : List Extent → ℕ → ℕ
before es f = (get_or es f (extent 0 0)).cells

pub record HasField (es : List Extent) (number : ℕ) : Type 0 where
  pub some : 1 < length es
  pub first : before es 0 ≤ number
  pub last : number < before es (length es - 1)

pub record IsField (es : List Extent) (number f : ℕ) : Type 0 where
  pub known : f + 1 < length es
  pub from : before es f ≤ number
  pub until : number < before es (f + 1)

-- ---- pieces of names
unfoldable pub index_text : ℕ → List ℕ
index_text k = codes "[" ++ (decimal k ++ codes "]")

unfoldable pub star_text : List ℕ
star_text = codes "[*]"

unfoldable pub dot_text : List ℕ → List ℕ
dot_text x = codes "." ++ x

-- @LINE:COL
abbrev pub at_text : Pos → List ℕ
at_text p = codes "@" ++ (decimal p.line ++ (codes ":" ++ decimal p.col))
