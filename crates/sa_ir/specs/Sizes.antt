-- How many cells and elements there are, and where those of fields begin. In code these numbers stop at the
-- greatest of a machine word, since structures that no variable has may be of any size.
use Rattle.std.specs.Prelude.{ℕ, zero, suc, ◌+◌, ◌-◌, ◌^◌, ◌≡◌, ◌<◌, ◌≤◌, List, [], ◌∷◌, ◌++◌, length, take, reverse, min, slice_get, Some, if◌then◌else◌, nat_le}
use Rattle.sa_typed.specs.Layouts.{Layout, Layouts, no_field, field, nums, layout_with, layouts_with, struct_layout}
use Rattle.sa_typed.specs.Cells.{most_elements}
use Rattle.sa_typed.specs.declared.shape.Plain.{Plain}
use Rattle.sa_typed.specs.declared.shape.Shape.{Shape}
use Rattle.sa_typed.specs.declared.shape.FieldDef.{FieldDef}
use Rattle.sa_typed.specs.declared.shape.StructDef.{StructDef}
use Rattle.sa_typed.specs.Frames.{size}
use Rattle.sa_ir.specs.declared.sizes.Extent.{Extent}

unfoldable pub sizes : Layouts → ℕ
sizes no_field = 0
sizes (field x l ls) = size l + sizes ls

-- how many cells stand before a field
unfoldable pub cells_before : Layouts → ℕ → ℕ
cells_before no_field k = 0
cells_before (field x l ls) zero = 0
cells_before (field x l ls) (suc k) = size l + cells_before ls k

-- the cells of how many elements an array of so many has
unfoldable pub cells_for : ℕ → ℕ
cells_for n = if nat_le n most_elements then n else 1

-- what a machine word keeps of a number
abbrev pub capped : ℕ → ℕ
capped n = min n (2 ^ 64 - 1)

abbrev pub extent : ℕ → ℕ → Extent
extent c e = record { cells = capped c; elements = capped e }

abbrev pub extent_of : Layout → Extent
extent_of l = extent (size l) (length (nums l))

-- what stands before each field, and last what stands in all of them
unfoldable pub extents_from : ℕ → ℕ → Layouts → List Extent
extents_from c e no_field = extent c e ∷ []
extents_from c e (field x l ls) = extent c e ∷ extents_from (c + size l) (e + length (nums l)) ls

-- of each structure, given the newest first
unfoldable pub all_extents : List StructDef → List (List Extent)
all_extents [] = []
all_extents (d ∷ older) = all_extents older ++ extents_from 0 0 (layouts_with (λ k. struct_layout older k) d.fields) ∷ []

-- a type that is no array, as a shape
abbrev pub no_array : Plain → Shape
no_array x = record { dims = []; plain = x }

abbrev pub shape_of : List ℕ → Plain → Shape
shape_of dims x = record { dims = dims; plain = x }

-- a shape among the first structures alone
unfoldable pub among : List StructDef → ℕ → Shape → Layout
among structs m s = layout_with (λ k. struct_layout (reverse (take m structs)) k) s

-- fields that hold the structures with lower numbers
abbrev pub fields_of : List StructDef → ℕ → List FieldDef → Layouts
fields_of structs k fs = layouts_with (λ j. struct_layout (reverse (take k structs)) j) fs

-- those of a structure
abbrev pub made_of : List StructDef → ℕ → StructDef → Layouts
made_of structs k d = fields_of structs k d.fields

-- the table says of each of the first structures what stands before its fields
pub record Covers (structs : List StructDef) (m : ℕ) (table : List (List Extent)) : Type 0 where
  pub known : m ≤ length structs
  pub each : (k : ℕ) (d : StructDef) → k < m → slice_get structs k ≡ Some d → slice_get table k ≡ Some (extents_from 0 0 (made_of structs k d))
