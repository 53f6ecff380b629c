-- What is visible, and what is known of it.
use Rattle.std.specs.Prelude.{ℕ, List, [], ◌∷◌, ◌++◌, ◌||◌, Bool, true, false, if◌then◌else◌, length, Option, Some, None}
use Rattle.sa_base.specs.declared.num.Num.{Num}
use Rattle.sa_typed.specs.declared.shape.Shape.{Shape}
use Rattle.sa_scopes.specs.declared.structs.Fields.{Fields}
use Rattle.sa_scopes.specs.declared.types.Element.{Element}
use Rattle.sa_scopes.specs.declared.types.Element.TheVariants as el
use Rattle.sa_scopes.specs.declared.types.Tagged.{Tagged}
use Rattle.sa_scopes.specs.declared.types.Tagged.TheVariants as t
use Rattle.sa_scopes.specs.declared.types.Ty.{Ty}
use Rattle.sa_operands.specs.Definitions.{with_tag}
use Rattle.sa_scopes.specs.Scopes.{Scope, nothing, is_visible, meaning_of, oldest, with_name}
use Rattle.sa_scopes.specs.Structures.{Structs, with_struct}
use Rattle.sa_scopes.specs.Types.{plain, shape_of}

-- what a name stands for: a variable by its number, an input, a type, or a function
pub data Meaning : Type 0 where
  Variable : ℕ → Meaning
  Input : Num → Meaning
  Alias : Ty → Meaning
  Function : Meaning

-- a variable's shape, and whether it is `const`
pub record Of_shape : Type 0 where
  pub shape : Shape
  pub constant : Bool

pub record Scene : Type 0 where
  -- the names and tags that are visible
  pub names : Scope Meaning
  pub tags : Scope Tagged
  -- all structures so far
  pub structs : Structs
  -- all variables so far, in the order of their declarations
  pub variables : List Of_shape

abbrev pub blank : Scene
blank = record { names = nothing; tags = nothing; structs = record { defs = []; members = [] }; variables = [] }

-- ---- types; one that was refused is unknown
abbrev pub words_type : Option Num → Ty
words_type None = plain el.Unknown
words_type (Some num) = plain (el.Scalar num)

abbrev pub tag_type : Option Tagged → Ty
tag_type (Some (t.Struct k)) = plain (el.Struct k)
tag_type _ = plain el.Unknown

abbrev pub named_type : Option Meaning → Ty
named_type (Some (Alias ty)) = ty
named_type _ = plain el.Unknown

abbrev pub is_type_name : Option Meaning → Bool
is_type_name (Some (Alias ty)) = true
is_type_name _ = false

abbrev pub is_complete : Option Tagged → Bool
is_complete (Some (t.Struct k)) = true
is_complete _ = false

abbrev pub is_void : Element → Bool
is_void el.Void = true
is_void _ = false

-- void is no object's type
abbrev pub object_type : Ty → Ty
object_type ty = if is_void ty.element then (record ty { element = el.Unknown }) else ty

-- ---- declarations
-- a name with what it stands for, unless it is visible already
abbrev pub with_name_unless : Bool → List ℕ → Meaning → Scene → Scene
with_name_unless true w k v = v
with_name_unless false w k v = record v { names = with_name v.names w k }

abbrev pub named : List ℕ → Meaning → Scene → Scene
named w k v = with_name_unless (is_visible v.names w) w k v

abbrev pub with_variable : Of_shape → Scene → Scene
with_variable o v = record v { variables = v.variables ++ o ∷ [] }

-- another input where a number is given, else another variable
abbrev pub with_object : Option Num → List ℕ → Of_shape → Scene → Scene
with_object (Some num) w o v = named w (Input num) v
with_object None w o v = with_variable o (named w (Variable (length v.variables)) v)

-- the number that an object is, where it is one
abbrev pub number_by : Element → List ℕ → Option Num
number_by (el.Scalar num) [] = Some num
number_by _ _ = None

abbrev pub number_if : Bool → Element → List ℕ → Option Num
number_if false e dims = None
number_if true e dims = number_by e dims

-- an object with such a type and dimensions; where it may be an input it is one if it is a number
abbrev pub declared : Bool → List ℕ → Ty → List ℕ → Scene → Scene
declared input w ty dims v = with_object (number_if input ty.element dims) w (record { shape = shape_of ty.element dims; constant = ty.constant }) v

-- another structure, with its tag, and the number of that tag where it is new
abbrev pub with_fields : List ℕ → Option ℕ → Fields → Scene → Scene
with_fields w i f v = record v { structs = with_struct v.structs w f; tags = with_tag v.tags i (length v.structs.defs) }

-- what was declared in a block is visible to its end
abbrev pub within : ℕ → ℕ → Scene → Scene
within names tags v = record v { names = oldest names v.names; tags = oldest tags v.tags }

-- a name that no other field of the structure may have: that of a field before, or a type name
abbrev pub is_taken : Scene → Fields → List ℕ → Bool
is_taken v f w = is_visible f.names w || is_type_name (meaning_of v.names w)
