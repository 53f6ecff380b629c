-- The lists of a tree, one part after the other.
use Rattle.std.specs.Prelude.{ℕ, List, [], ◌∷◌}
use Rattle.sa_syntax.specs.declared.decl.Bound.{Bound, out-Bound}
use Rattle.sa_syntax.specs.declared.decl.Declr.{Declr}
use Rattle.sa_syntax.specs.declared.decl.Field.{Field as FieldGroup}
use Rattle.sa_syntax.specs.declared.decl.Specifiers.{Specifiers, out-Specifiers}
use Rattle.sa_syntax.specs.declared.expr.Expr.{Expr}
use Rattle.sa_syntax.specs.declared.expr.Link.{Link, out-Link}
use Rattle.sa_syntax.specs.declared.expr.Place.{Place, out-Place}
use Rattle.sa_syntax.specs.declared.expr.Step.{Step}
use Rattle.sa_operands.specs.declared.operand.Left.{Left}
use Rattle.sa_operands.specs.declared.operand.Spot.{Spot}
use Rattle.sa_scopes.specs.declared.structs.Fields.{Fields}
use Rattle.sa_scopes.specs.declared.types.Ty.{Ty}
use Rattle.sa_scopes.specs.Types.{whole, object}
use Rattle.sa_operands.specs.Operands.{beside}
use Rattle.sa_operands.specs.Places as place
use Rattle.sa_operands.specs.Expressions.{expr, step, base_type, field, declr, linking, bounding}
use Rattle.sa_scopes.specs.Typing.{Typing, ◌>>=◌, ◌>>◌, pure, each}

-- the first operand of a chain stands beside its first operator
unfoldable pub beside_head : List Link → Expr → Typing (Unit {0})
beside_head [] x = pure tt
beside_head (l ∷ ls) x = beside (out-Link l).op x

abbrev pub link : Link → Left → Typing Left
link x l = linking (out-Link x).op (out-Link x).pos (out-Link x).operand (expr (out-Link x).operand) l

abbrev pub links : List Link → Left → Typing Left
links xs = each link xs

abbrev pub steps : List Step → Spot → Typing Spot
steps xs = each step xs

abbrev pub fields : List FieldGroup → Fields → Typing Fields
fields xs = each field xs

abbrev pub declrs : Ty → List Declr → Fields → Typing Fields
declrs ty xs = each (declr ty) xs

abbrev pub bound : Bound → List ℕ → Typing (List ℕ)
bound x found = bounding (out-Bound x).size (expr (out-Bound x).size) found

abbrev pub bounds : List Bound → List ℕ → Typing (List ℕ)
bounds xs = each bound xs

-- a place
unfoldable pub spot : Place → Typing Spot
spot x = place.begins (out-Place x).base >>= steps (out-Place x).steps

-- a type, and the type of an object
unfoldable pub type_of : Specifiers → Typing Ty
type_of ty = whole (out-Specifiers ty).qualifiers (base_type (out-Specifiers ty).pos (out-Specifiers ty).base)

unfoldable pub object_type : Specifiers → Typing Ty
object_type ty = object (out-Specifiers ty).pos (out-Specifiers ty).qualifiers (base_type (out-Specifiers ty).pos (out-Specifiers ty).base)
