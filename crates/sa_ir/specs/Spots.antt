-- Objects that are still to be read for their cells, the next one last.
use Rattle.std.specs.Prelude.{ℕ, zero, suc, ◌+◌, ◌*◌, ◌≡◌, ◌<◌, ℤ, List, [], ◌∷◌, ◌++◌, length, map, ◌≤◌, ◌==◌, ◌||◌, Bool, nat_lt, if◌then◌else◌, nat_le, true, false, Option, Some, slice_get}
use Rattle.sa_typed.specs.Layouts.{Layout, Layouts, leaf, row, fields, no_field, field, nums}
use Rattle.sa_typed.specs.Cells.{most_elements, inner_cells, is_starred}
use Rattle.sa_typed.specs.declared.shape.Plain.{Plain}
use Rattle.sa_typed.specs.declared.shape.Plain.TheVariants.{Scalar, Struct}
use Rattle.sa_typed.specs.declared.shape.Shape.{Shape}
use Rattle.sa_typed.specs.declared.shape.StructDef.{StructDef}
use Rattle.sa_ir.specs.Initial.{initial_ends}
use Rattle.sa_ir.specs.declared.slots.Core.{Core}
use Rattle.sa_ir.specs.declared.slots.Row.{Row}
use Rattle.sa_ir.specs.declared.slots.Spot.{Spot}
use Rattle.sa_ir.specs.declared.slots.Slot.{Slot}
use Rattle.sa_ir.specs.declared.ir.Ends.{Ends}
use Rattle.sa_ir.specs.declared.slots.Elements.{Elements}
use Rattle.sa_ir.specs.declared.slots.Arrays.{Arrays}
use Rattle.sa_ir.specs.declared.ir.Ends.{Ends}
use Rattle.sa_ir.specs.Sizes.{among, no_array, capped}
use Rattle.sa_ir.specs.Slots.{slot, slots_in}

-- the cells of an object from its first element on, with their initial values
unfoldable pub all_slots : List ℤ → Layout → List Slot
all_slots zs l = map (λ i. slot i.num (is_starred i.steps) (initial_ends zs l i.steps 0)) (inner_cells l)

-- a type that is no array, among the structures up to it
unfoldable pub base_layout : List StructDef → Plain → Layout
base_layout structs (Scalar num) = leaf num
base_layout structs (Struct k) = among structs (suc k) (no_array (Struct k))

abbrev pub IsKnown : List StructDef → Plain → Type 0
IsKnown structs (Scalar num) = Unit {0}
IsKnown structs (Struct k) = k < length structs

abbrev pub AreKnown : List StructDef → List Spot → Type 0
AreKnown structs [] = Unit {0}
AreKnown structs (s ∷ ss) = IsKnown structs s.base × AreKnown structs ss

abbrev pub spot_slots : List StructDef → List ℤ → Spot → List Slot
spot_slots structs zs s = slots_in zs (base_layout structs s.base) s.elements

unfoldable pub left : List StructDef → List ℤ → List Spot → List Slot
left structs zs [] = []
left structs zs (s ∷ ss) = left structs zs ss ++ spot_slots structs zs s

-- how many steps it takes at most
unfoldable mutual
  pub work : Layout → ℕ
  work (leaf num) = 1
  work (row n l) = if nat_le n most_elements then n * work l else work l
  work (fields ls) = suc (works ls)

  pub works : Layouts → ℕ
  works no_field = 0
  works (field x l ls) = work l + works ls

unfoldable pub weight : List StructDef → List Spot → ℕ
weight structs [] = 0
weight structs (s ∷ ss) = work (base_layout structs s.base) + weight structs ss

-- ---- arrays around something
-- the innermost first, with the number of elements in each element
unfoldable pub wound : List Row → Layout → Layout
wound [] l = l
wound (r ∷ rs) l = wound rs (row r.n l)

abbrev pub HasWidths : List Row → Layout → Type 0
HasWidths [] l = Unit {0}
HasWidths (r ∷ rs) l = (r.width ≡ capped (length (nums l))) × HasWidths rs (row r.n l)

-- the arrays around a shape, and how many elements it has
pub record AreArrays (structs : List StructDef) (m : ℕ) (s : Shape) (a : Arrays) : Type 0 where
  pub whole : among structs m s ≡ wound a.rows.items (among structs m (no_array s.plain))
  pub widths : HasWidths a.rows.items (among structs m (no_array s.plain))
  pub counted : a.elements ≡ capped (length (nums (among structs m s)))

-- ---- types with the same cells
-- elements that are several by a large array if they were or this says so
abbrev pub starred_by : Bool → Elements → Elements
starred_by s e = record { starred = e.starred || s; at = e.at; more = e.more }

-- the second has the same cells, starred if this says so, at any elements; if it does, at those without initial values. And
-- reading them takes no more steps
pub record IsAlike (s : Bool) (l m : Layout) : Type 0 where
  pub slots : (zs : List ℤ) (e : Elements) → (s ≡ true → e.at ≡ []) → slots_in zs l e ≡ slots_in zs m (starred_by s e)
  pub work : work m ≤ work l

-- a type that is no array and stands for another
pub record IsCore (structs : List StructDef) (l : Layout) (c : Core) : Type 0 where
  pub known : IsKnown structs c.plain
  pub alike : IsAlike c.starred l (base_layout structs c.plain)

-- what is listed for some of the first structures stands for them
abbrev pub StandFor : List StructDef → List (Option Core) → Type 0
StandFor structs cores = (k : ℕ) (c : Core) → slice_get cores k ≡ Some (Some c) → IsCore structs (base_layout structs (Struct k)) c

pub record AreCores (structs : List StructDef) (cores : List (Option Core)) : Type 0 where
  pub long : length cores ≡ length structs
  pub each : StandFor structs cores

-- a type that is no array and is one of the first, and what stands for it
pub record IsBase (structs : List StructDef) (m : ℕ) (x : Plain) (c : Core) : Type 0 where
  pub known : IsKnown structs x
  pub own : among structs m (no_array x) ≡ base_layout structs x
  pub core : IsCore structs (among structs m (no_array x)) c

-- what is to be read has the cells of a layout at these elements
pub record IsSpotOf (structs : List StructDef) (l : Layout) (e : Elements) (s : Spot) : Type 0 where
  pub known : IsKnown structs s.base
  pub slots : (zs : List ℤ) → spot_slots structs zs s ≡ slots_in zs l e
  pub work : work (base_layout structs s.base) ≤ work l

-- one element or a large array
abbrev pub is_single : ℕ → Bool
is_single n = n == 1 || nat_lt 128 n

abbrev pub IsNothing : List StructDef → ℕ → Plain → Type 0
IsNothing structs m x = length (nums (among structs m (no_array x))) ≡ 0

-- ---- leaves
abbrev pub ends_span : Ends → Ends
ends_span e = record { lo = e.lo; hi = e.hi }

abbrev pub first_element : ℕ → Elements
first_element zero = record { starred = false; at = []; more = true }
first_element (suc n) = record { starred = false; at = 0 ∷ []; more = false }
