-- What an object is made of, with structures unfolded: numbers, rows of elements, and fields one after the other (ISO C
-- 6.2.5p20, 6.7.2.1p6). A structure holds only older ones, so its fields are read with the older structures alone.
use Rattle.std.specs.Prelude.{ℕ, zero, suc, ◌+◌, ◌*◌, ◌==◌, List, [], ◌∷◌, ◌++◌, length, reverse, slice_get, if◌then◌else◌, Option, Some, None, nat_lt}
use Rattle.sa_base.specs.declared.num.Num.{Num}
use Rattle.sa_base.specs.declared.num.Num.TheVariants.{I32}
use Rattle.sa_typed.specs.declared.shape.Plain.{Plain}
use Rattle.sa_typed.specs.declared.shape.Plain.TheVariants as plain
use Rattle.sa_typed.specs.declared.shape.Shape.{Shape}
use Rattle.sa_typed.specs.declared.shape.FieldDef.{FieldDef}
use Rattle.sa_typed.specs.declared.shape.StructDef.{StructDef}
use Rattle.sa_typed.specs.declared.shape.Part.{Part}
use Rattle.sa_typed.specs.declared.shape.Part.TheVariants.{At, Field}
use Rattle.sa_typed.specs.declared.program.Var.{Var}
use Rattle.sa_typed.specs.declared.program.Program.{Program}

mutual
  pub data Layout : Type 0 where
    leaf : Num → Layout
    row : ℕ → Layout → Layout
    fields : Layouts → Layout

  -- fields with their names
  pub data Layouts : Type 0 where
    no_field : Layouts
    field : (name : List ℕ) → Layout → Layouts → Layouts

-- arrays around something, the outermost first
unfoldable pub rows : List ℕ → Layout → Layout
rows [] l = l
rows (n ∷ ns) l = row n (rows ns l)

-- a type that is no array, given what structures are
abbrev pub plain_layout : (ℕ → Layout) → Plain → Layout
plain_layout structs (plain.Scalar num) = leaf num
plain_layout structs (plain.Struct k) = structs k

-- a shape, given what structures are
unfoldable pub layout_with : (ℕ → Layout) → Shape → Layout
layout_with structs s = rows s.dims (plain_layout structs s.plain)

unfoldable pub layouts_with : (ℕ → Layout) → List FieldDef → Layouts
layouts_with structs [] = no_field
layouts_with structs (f ∷ fs) = field f.name (layout_with structs f.shape) (layouts_with structs fs)

-- the structure with this number, among structures of which the newest stands first
unfoldable pub struct_layout : List StructDef → ℕ → Layout
struct_layout [] k = fields no_field
struct_layout (d ∷ older) k = if k == length older then fields (layouts_with (λ k. struct_layout older k) d.fields) else struct_layout older k

abbrev pub shape_layout : List StructDef → Shape → Layout
shape_layout structs s = layout_with (λ k. struct_layout (reverse structs) k) s

-- what a variable is made of; a number that no variable has stands for nothing
abbrev pub var_layout : List StructDef → Option Var → Layout
var_layout structs None = fields no_field
var_layout structs (Some v) = shape_layout structs v.shape

unfoldable pub layout_of : Program → ℕ → Layout
layout_of p v = var_layout p.structs (slice_get p.vars v)

-- the type of a scalar
abbrev pub num_in : Layout → Num
num_in (leaf num) = num
num_in (row n l) = I32
num_in (fields ls) = I32

-- ---- elements, in the order of their addresses
unfoldable pub times : {A : Type 0} → ℕ → List A → List A
times zero xs = []
times (suc n) xs = xs ++ times n xs

unfoldable mutual
  pub nums : Layout → List Num
  nums (leaf num) = num ∷ []
  nums (row n l) = times n (nums l)
  nums (fields ls) = all_nums ls

  pub all_nums : Layouts → List Num
  all_nums no_field = []
  all_nums (field x l ls) = nums l ++ all_nums ls

-- how many there are
unfoldable pub count : Layout → ℕ
count l = length (nums l)

-- a field by its number
unfoldable pub nth_field : Layouts → ℕ → Option Layout
nth_field no_field k = None
nth_field (field x l ls) zero = Some l
nth_field (field x l ls) (suc k) = nth_field ls k

-- how many elements stand before a field
unfoldable pub before_field : Layouts → ℕ → ℕ
before_field no_field k = 0
before_field (field x l ls) zero = 0
before_field (field x l ls) (suc k) = length (nums l) + before_field ls k

-- what the steps lead to, None where they don't lead to an element
abbrev pub then_layout : {A : Type 0} → Option Layout → (Layout → Option A) → Option A
then_layout None go = None
then_layout (Some l) go = go l

unfoldable pub step_into : Layout → Part → Option Layout
step_into (row n l) (At i) = if nat_lt i n then Some l else None
step_into (fields ls) (Field k) = nth_field ls k
step_into _ _ = None

unfoldable pub element_at : Layout → List Part → Option Num
element_at (leaf num) [] = Some num
element_at _ [] = None
element_at l (s ∷ parts) = then_layout (step_into l s) (λ m. element_at m parts)

-- the number of the element that steps lead to, from 0
abbrev pub skipped : Layout → Part → ℕ
skipped (row n l) (At i) = i * length (nums l)
skipped (fields ls) (Field k) = before_field ls k
skipped _ _ = 0

abbrev pub or_nothing : Option Layout → Layout
or_nothing None = fields no_field
or_nothing (Some l) = l

unfoldable pub index_of : Layout → List Part → ℕ
index_of l [] = 0
index_of l (s ∷ parts) = skipped l s + index_of (or_nothing (step_into l s)) parts
