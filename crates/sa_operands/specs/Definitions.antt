-- Definitions of structures (ISO C 6.7.2.1), and dimensions (6.7.5.2).
use Rattle.std.specs.Prelude.{ℕ, ℤ, pos, List, [], ◌∷◌, ◌++◌, ◌&&◌, ◌||◌, Bool, true, false, if◌then◌else◌, length, unsigned_abs, Option, Some, None}
use Rattle.std.specs.Int.RustNames.{int_le}
use Rattle.sa_base.specs.declared.pos.Pos.{Pos}
use Rattle.sa_syntax.specs.declared.decl.Name.{Name}
use Rattle.sa_typed.specs.declared.shape.FieldDef.{FieldDef}
use Rattle.sa_typed.specs.declared.shape.StructDef.{StructDef}
use Rattle.sa_typed.specs.declared.shape.Shape.{Shape}
use Rattle.sa_operands.specs.declared.operand.Operand.{Operand}
use Rattle.sa_scopes.specs.declared.structs.Fields.{Fields}
use Rattle.sa_scopes.specs.declared.typer.Typer.{Typer}
use Rattle.sa_scopes.specs.declared.types.Element.TheVariants as el
use Rattle.sa_scopes.specs.declared.types.Named.{Named}
use Rattle.sa_scopes.specs.declared.types.Named.TheVariants as n
use Rattle.sa_scopes.specs.declared.types.Tagged.{Tagged}
use Rattle.sa_scopes.specs.declared.types.Tagged.TheVariants as t
use Rattle.sa_scopes.specs.declared.types.Ty.{Ty}
use Rattle.sa_scopes.specs.Scopes.{Scope, nothing, meaning_of, is_visible, with_name, with_meaning, count}
use Rattle.sa_scopes.specs.Structures.{with_struct}
use Rattle.sa_scopes.specs.Types.{plain, shape_of}
use Rattle.sa_scopes.specs.Values.{constant}
use Rattle.sa_operands.specs.Operands.{known_value, no_object}
use Rattle.sa_scopes.specs.Typing.{Typing, Gives, ◌>>=◌, ◌>>◌, pure, refuse, refused}

-- ---- dimensions
abbrev pub is_dimension : ℤ → Bool
is_dimension z = int_le (pos 1) z && int_le z (pos 16777216)

abbrev pub dimension_by : Pos → Option ℤ → Typing ℕ
dimension_by p None = pure 1
dimension_by p (Some z) = if is_dimension z then pure (unsigned_abs z) else (refuse 19 p >> pure 1)

-- a dimension that is such an operand, with its first token at that place; what was refused counts as 1
unfoldable pub dimension : Pos → Operand → Typing ℕ
dimension p x = no_object x >> (constant p (known_value x) >>= dimension_by p)

-- ---- fields
abbrev pub no_fields : Fields
no_fields = record { defs = []; names = nothing }

abbrev pub is_alias : Option Named → Bool
is_alias (Some (n.Alias ty)) = true
is_alias _ = false

-- the name is that of a field before, or a type name
abbrev pub is_taken : Typer → Fields → List ℕ → Bool
is_taken s f w = is_visible f.names w || is_alias (meaning_of s.names w)

abbrev pub with_field : Fields → List ℕ → Shape → Bool → Fields
with_field f w shape constant = record { defs = f.defs ++ record { name = w; shape = shape } ∷ []; names = with_name f.names w constant }

-- another field
unfoldable pub field : Name → Ty → List ℕ → Fields → Typing Fields
field x ty dims f = λ s. if is_taken s f x.text then Gives f (refused 2 x.pos s) else Gives (with_field f x.text (shape_of ty.element dims) ty.constant) s

-- ---- tags
-- a tag that is declared, and its number; none where it was declared before
unfoldable pub opened : Option Name → Typing (Option ℕ)
opened None = pure None
opened (Some x) = λ s. if is_visible s.tags x.text then Gives None (refused 2 x.pos s) else Gives (Some (count s.tags)) (record s { tags = with_name s.tags x.text t.Open })

abbrev pub name_or_empty : Option Name → List ℕ
name_or_empty None = []
name_or_empty (Some x) = x.text

abbrev pub with_tag : Scope Tagged → Option ℕ → ℕ → Scope Tagged
with_tag tags None k = tags
with_tag tags (Some i) k = with_meaning tags i (t.Struct k)

-- the structure, which is defined from here on
unfoldable pub closed : Option Name → Option ℕ → Fields → Typing Ty
closed tag i f = λ s. Gives (plain (el.Struct (length s.structs.defs)))
    (record s { structs = with_struct s.structs (name_or_empty tag) f; tags = with_tag s.tags i (length s.structs.defs) })
