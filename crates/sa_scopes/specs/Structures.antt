-- The structures that are defined so far, and how many elements an object has.
use Rattle.std.specs.Prelude.{ℕ, ◌≡◌, ◌+◌, ◌*◌, ◌-◌, ◌^◌, List, [], ◌∷◌, ◌++◌, Bool, true, false, if◌then◌else◌, nat_le, get_or, map, min, length, drop, replicate, slice_get, Option, Some, None}
use Rattle.sa_typed.specs.declared.program.Var.{Var}
use Rattle.sa_typed.specs.declared.shape.Plain.{Plain}
use Rattle.sa_typed.specs.declared.shape.Plain.TheVariants as plain
use Rattle.sa_typed.specs.declared.shape.Shape.{Shape}
use Rattle.sa_typed.specs.declared.shape.FieldDef.{FieldDef}
use Rattle.sa_typed.specs.declared.shape.StructDef.{StructDef}
use Rattle.sa_scopes.specs.declared.form.Form.{Form}
use Rattle.sa_scopes.specs.declared.form.Form.TheVariants as form
use Rattle.sa_scopes.specs.declared.structs.Fields.{Fields}
use Rattle.sa_scopes.specs.declared.structs.Member.{Member}
use Rattle.sa_scopes.specs.declared.structs.Slot.{Slot}
use Rattle.sa_scopes.specs.declared.structs.Slot.TheVariants as item
use Rattle.sa_scopes.specs.Forms.{form_of, inside}
use Rattle.sa_scopes.specs.Scopes.{Scope, index_of}

-- the structures in the order in which their definitions end, and the names of their fields, each with whether it is `const`
pub record Structs : Type 0 where
  pub defs : List StructDef
  pub members : List (Scope Bool)

-- how often the elements of an array count: each, or where `starred` is set the elements of a large array once
abbrev pub times : Bool → ℕ → ℕ
times false n = n
times true n = if nat_le n 128 then n else 1

-- how many elements arrays of such dimensions have, around something that has so many
unfoldable pub extent : Bool → List ℕ → ℕ → ℕ
extent starred [] size = size
extent starred (n ∷ ns) size = times starred n * extent starred ns size

abbrev pub plain_size : List ℕ → Plain → ℕ
plain_size sizes (plain.Scalar num) = 1
plain_size sizes (plain.Struct k) = get_or sizes k 0

-- how many elements an object has, where the structures have so many
abbrev pub size_by : Bool → List ℕ → Shape → ℕ
size_by starred sizes s = extent starred s.dims (plain_size sizes s.plain)

unfoldable pub sum_by : Bool → List ℕ → List Shape → ℕ
sum_by starred sizes [] = 0
sum_by starred sizes (s ∷ ss) = size_by starred sizes s + sum_by starred sizes ss

abbrev pub field_shape : FieldDef → Shape
field_shape f = f.shape

abbrev pub field_shapes : StructDef → List Shape
field_shapes d = map field_shape d.fields

abbrev pub var_shape : Var → Shape
var_shape v = v.shape

-- how many elements each structure has; its fields hold only structures before it
unfoldable pub sizes_from : Bool → List ℕ → List StructDef → List ℕ
sizes_from starred sizes [] = sizes
sizes_from starred sizes (d ∷ ds) = sizes_from starred (sizes ++ sum_by starred sizes (field_shapes d) ∷ []) ds

abbrev pub sizes_of : Bool → List StructDef → List ℕ
sizes_of starred ds = sizes_from starred [] ds

-- how many elements objects have, and how many cells the analysis has for them: an array of more than 128 elements has the
-- cells of one (that number is this project's own choice)
unfoldable pub elements_in : Structs → List Shape → ℕ
elements_in s shapes = sum_by false (sizes_of false s.defs) shapes

unfoldable pub cells_in : Structs → List Shape → ℕ
cells_in s shapes = sum_by true (sizes_of true s.defs) shapes

-- a count as the code keeps it: the greatest one stands for all that are too large
abbrev pub kept : ℕ → ℕ
kept n = min n (2 ^ 64 - 1)

abbrev pub AreCounted : Bool → List ℕ → List StructDef → Type 0
AreCounted starred sizes defs = sizes ≡ map kept (sizes_of starred defs)

-- one structure more
abbrev pub with_struct : Structs → List ℕ → Fields → Structs
with_struct s w f = record { defs = s.defs ++ record { name = w; fields = f.defs } ∷ []; members = s.members ++ f.names ∷ [] }

-- ---- what braces hold items for
abbrev pub shapes_in : Option StructDef → List Shape
shapes_in None = []
shapes_in (Some d) = field_shapes d

abbrev pub slots_by : Structs → Shape → Form → List Shape
slots_by s shape (form.Scalar num) = []
slots_by s shape (form.Struct k) = shapes_in (slice_get s.defs k)
slots_by s shape (form.Array n) = replicate n (inside 1 shape)

-- elements or fields, in their order; none where there is a number
unfoldable pub slots : Structs → Shape → List Shape
slots s shape = slots_by s shape (form_of shape)

-- what the item with that number is for
unfoldable pub slot : Structs → Shape → ℕ → Option Shape
slot s shape k = slice_get (slots s shape) k

abbrev pub missing_by : Structs → Shape → Form → ℕ → ℕ
missing_by s shape (form.Scalar num) k = 1
missing_by s shape f k = elements_in s (drop k (slots_by s shape f))

-- how many elements there are after so many items; a number has no slot, and is 0 where braces are empty, which no text has
unfoldable pub missing : Structs → Shape → ℕ → ℕ
missing s shape k = missing_by s shape (form_of shape) k

-- a slot as the code tells it: an element is as many dimensions inside the shape
abbrev pub shape_at : Shape → Slot → Option Shape
shape_at s item.Nothing = None
shape_at s (item.Element n) = Some (inside n s)
shape_at s (item.Field shape) = Some shape

-- ---- fields
abbrev pub member_by : ℕ → Option FieldDef → Option Bool → Option Member
member_by i (Some f) (Some c) = Some (record { number = i; shape = f.shape; constant = c })
member_by i _ _ = None

abbrev pub fields_in : Option StructDef → List FieldDef
fields_in None = []
fields_in (Some d) = d.fields

abbrev pub member_at : Option StructDef → Scope Bool → Option ℕ → Option Member
member_at d names None = None
member_at d names (Some i) = member_by i (slice_get (fields_in d) i) (slice_get names.meanings i)

abbrev pub member_in : Option StructDef → Option (Scope Bool) → List ℕ → Option Member
member_in d None w = None
member_in d (Some names) w = member_at d names (index_of names w)

-- the field with that name of the structure with that number
unfoldable pub member_of : Structs → ℕ → List ℕ → Option Member
member_of s k w = member_in (slice_get s.defs k) (slice_get s.members k) w
