-- The name of a cell by its number within an object, step by step.
use Rattle.std.specs.Prelude.{ℕ, suc, ◌+◌, ◌-◌, ◌/◌, ◌%◌, ◌≡◌, ◌≤◌, ◌<◌, List, [], ◌++◌, length, get_or, codes, if◌then◌else◌, nat_le, nat_lt, Option, MatchOption}
use Rattle.std.specs.Fmt.{decimal}
use Rattle.sa_typed.specs.Cells.{most_elements}
use Rattle.sa_typed.specs.Frames.{size}
use Rattle.sa_typed.specs.Layouts.{Layout, Layouts, leaf, row, fields, no_field, field}
use Rattle.sa_typed.specs.declared.program.Program.{Program}
use Rattle.sa_ir.specs.declared.names.Inside.{Inside}
use Rattle.sa_ir.specs.declared.sizes.Extent.{Extent}
use Rattle.sa_ir.specs.Sizes.{among, extent}

-- ---- names by numbers
-- the steps to the cell with this number within an object
unfoldable mutual
  pub inner_name : Layout → ℕ → List ℕ
  inner_name (leaf num) j = []
  inner_name (row n l) j = if nat_le n most_elements then codes "[" ++ (decimal (j / size l) ++ (codes "]" ++ inner_name l (j % size l))) else codes "[*]" ++ inner_name l j
  inner_name (fields ls) j = field_inner ls j

  pub field_inner : Layouts → ℕ → List ℕ
  field_inner no_field j = []
  field_inner (field x l ls) j = if nat_lt j (size l) then codes "." ++ (x ++ inner_name l j) else field_inner ls (j - size l)

-- ---- steps on the way to a cell
abbrev pub inside_layout : Program → Inside → Layout
inside_layout p i = among p.structs i.structs (record { dims = i.dims.now; plain = i.plain })

pub record IsInside (p : Program) (i : Inside) : Type 0 where
  pub known : i.structs ≤ length p.structs
  pub cells : i.cells ≡ size (inside_layout p i)
  pub small : i.cells ≤ 4294967295
  pub number : i.number < i.cells

abbrev pub inside_name : Program → Inside → List ℕ
inside_name p i = inner_name (inside_layout p i) i.number

-- how many steps at most
unfoldable mutual
  pub depth : Layout → ℕ
  depth (leaf num) = 0
  depth (row n l) = suc (depth l)
  depth (fields ls) = suc (depth_of ls)

  pub depth_of : Layouts → ℕ
  depth_of no_field = 0
  depth_of (field x l ls) = depth l + depth_of ls

-- one step further: what was written and what is left to write
pub record IsNext (p : Program) (old new : List ℕ) (i n : Inside) : Type 0 where
  pub inside : IsInside p n
  pub text : new ++ inside_name p n ≡ old ++ inside_name p i
  pub less : depth (inside_layout p n) < depth (inside_layout p i)

abbrev pub Steps : Program → List ℕ → List ℕ → Inside → Option Inside → Type 0
Steps p old new i o = MatchOption o (new ≡ old ++ inside_name p i) (λ n. IsNext p old new i n)

-- ---- fields by their numbers of cells
abbrev pub before : List Extent → ℕ → ℕ
before es f = (get_or es f (extent 0 0)).cells

pub record HasField (es : List Extent) (number : ℕ) : Type 0 where
  pub some : 1 < length es
  pub first : before es 0 ≤ number
  pub last : number < before es (length es - 1)

pub record IsField (es : List Extent) (number f : ℕ) : Type 0 where
  pub known : f + 1 < length es
  pub from : before es f ≤ number
  pub until : number < before es (f + 1)

-- ---- pieces of names
unfoldable pub index_text : ℕ → List ℕ
index_text k = codes "[" ++ (decimal k ++ codes "]")

unfoldable pub star_text : List ℕ
star_text = codes "[*]"

unfoldable pub dot_text : List ℕ → List ℕ
dot_text x = codes "." ++ x
