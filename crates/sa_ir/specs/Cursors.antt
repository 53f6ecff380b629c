-- What the code keeps of a call and of a way into an object.
use Rattle.std.specs.Prelude.{ℕ, ◌-◌, ◌≡◌, ◌≤◌, ◌==◌, slice_get, List, [], ◌∷◌, length, if◌then◌else◌, Option, Some, None}
use Rattle.sa_typed.specs.Frames.{home_cells}
use Rattle.sa_typed.specs.Layouts.{Layout, Layouts, no_field}
use Rattle.sa_typed.specs.declared.expr.Step.{Step}
use Rattle.sa_typed.specs.declared.program.Home.{Home}
use Rattle.sa_typed.specs.declared.program.Home.TheVariants as home
use Rattle.sa_typed.specs.declared.program.Program.{Program}
use Rattle.sa_ir.specs.declared.frame.Base.{Base}
use Rattle.sa_ir.specs.declared.frame.Frame as call
use Rattle.sa_ir.specs.declared.frame.Reference.{Reference}
use Rattle.sa_ir.specs.declared.frame.Target.{Target}
use Rattle.sa_ir.specs.declared.places.Cursor.{Cursor}
use Rattle.sa_ir.specs.declared.places.Stepped.{Stepped}
use Rattle.sa_ir.specs.declared.sizes.Extent.{Extent}
use Rattle.sa_typed.specs.declared.shape.StructDef.{StructDef}
use Rattle.sa_ir.specs.Frames.{Frame, own_target}
use Rattle.sa_ir.specs.Sizes.{capped, among, shape_of, made_of}
use Rattle.sa_ir.specs.Indices.{step_cells, step_layout}
use Rattle.sa_ir.specs.Names.{at_field}
use Rattle.sa_ir.specs.Places.{cells_to}

-- ---- calls
-- what references stand for, of several for one parameter the last
unfoldable pub bases : List Reference → (ℕ → Target) → ℕ → Target
bases [] base = base
bases (r ∷ rs) base = bases rs (λ v. if v == r.var then r.target else base v)

abbrev pub frame_of : Program → call.Frame → Frame
frame_of p f = record { prefix = f.prefix.items; result = f.result; base = bases f.references.items (own_target p f.first) }

abbrev pub base_target : Base → Target
base_target b = record { first = b.first; rows = b.rows.now }

unfoldable pub referred : List Reference → ℕ → Option Target → Option Target
referred [] v o = o
referred (r ∷ rs) v o = referred rs v (if v == r.var then Some r.target else o)

-- how many cells stand before those of a home, in a call whose cells begin there
abbrev pub cells_ahead : Program → ℕ → Home → ℕ
cells_ahead p first home.Global = 0
cells_ahead p first home.Static = capped (home_cells p home.Global)
cells_ahead p first (home.Local f) = first

-- ---- ways into an object
abbrev pub cursor_layout : Program → Cursor → Layout
cursor_layout p c = among p.structs c.structs (shape_of c.dims.now c.plain)

pub record IsCursor (p : Program) (l : Layout) (c : Cursor) : Type 0 where
  pub known : c.structs ≤ length p.structs
  pub layout : cursor_layout p c ≡ l

-- a step of an access
pub record IsStep (p : Program) (l : Layout) (t : Step) (s : Stepped) : Type 0 where
  pub cells : s.cells ≡ capped (step_cells l t)
  pub cursor : IsCursor p (step_layout l t) s.cursor

-- a step to a field
pub record IsStepped (p : Program) (l : Layout) (f : ℕ) (s : Stepped) : Type 0 where
  pub cells : s.cells ≡ capped (cells_to l f)
  pub cursor : IsCursor p (at_field l f) s.cursor

abbrev pub last_cells : List Extent → ℕ
last_cells es = elim (slice_get es (length es - 1)) as (λ _. ℕ) [ None ↦ 0 | Some e ↦ e.cells ]

-- before a field, and in all where there is none
abbrev pub cells_at : List Extent → ℕ → ℕ
cells_at es f = elim (slice_get es f) as (λ _. ℕ) [ None ↦ last_cells es | Some e ↦ e.cells ]

abbrev pub fields_in : List StructDef → ℕ → Option StructDef → Layouts
fields_in structs k None = no_field
fields_in structs k (Some d) = made_of structs k d

-- the fields of a structure
abbrev pub fields_made : Program → ℕ → Layouts
fields_made p k = fields_in p.structs k (slice_get p.structs k)
