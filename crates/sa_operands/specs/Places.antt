-- Places: a variable, and the steps into it.
use Rattle.std.specs.Prelude.{ℕ, ◌+◌, List, [], ◌∷◌, ◌++◌, ◌&&◌, ◌||◌, Bool, true, false, slice_get, Option, Some, None}
use Rattle.sa_base.specs.declared.num.Num.{Num}
use Rattle.sa_base.specs.declared.num.Num.TheVariants.{I32}
use Rattle.sa_base.specs.declared.pos.Pos.{Pos}
use Rattle.sa_syntax.specs.declared.decl.Name.{Name}
use Rattle.sa_syntax.specs.declared.expr.PlaceBase.{PlaceBase}
use Rattle.sa_syntax.specs.declared.expr.PlaceBase.TheVariants as base
use Rattle.sa_typed.specs.declared.expr.Access.{Access, roll-Access}
use Rattle.sa_typed.specs.declared.expr.Expr.{Expr}
use Rattle.sa_typed.specs.declared.expr.Expr.TheVariants as e
use Rattle.sa_typed.specs.declared.expr.Step.{Step}
use Rattle.sa_typed.specs.declared.expr.Step.TheVariants as step
use Rattle.sa_typed.specs.declared.program.Var.{Var}
use Rattle.sa_typed.specs.declared.shape.Shape.{Shape}
use Rattle.sa_scopes.specs.declared.constant.Value.TheVariants.{Varies}
use Rattle.sa_scopes.specs.declared.form.Form.{Form}
use Rattle.sa_scopes.specs.declared.form.Form.TheVariants as form
use Rattle.sa_operands.specs.declared.operand.Operand.{Operand}
use Rattle.sa_operands.specs.declared.operand.Operand.TheVariants as a
use Rattle.sa_operands.specs.declared.operand.Root.{Root}
use Rattle.sa_operands.specs.declared.operand.Root.TheVariants as root
use Rattle.sa_operands.specs.declared.operand.Spot.{Spot}
use Rattle.sa_scopes.specs.declared.types.Named.{Named}
use Rattle.sa_scopes.specs.declared.types.Named.TheVariants as n
use Rattle.sa_scopes.specs.declared.typer.Typer.{Typer}
use Rattle.sa_scopes.specs.Scopes.{meaning_of}
use Rattle.sa_scopes.specs.declared.structs.Member.{Member}
use Rattle.sa_scopes.specs.Forms.{scalar, form_inside}
use Rattle.sa_scopes.specs.Structures.{member_of}
use Rattle.sa_scopes.specs.Values.{is_constant}
use Rattle.sa_operands.specs.Operands.{expr_or, known_value, sort_of, is_object}
use Rattle.sa_scopes.specs.Typing.{Typing, Gives, ◌>>=◌, ◌>>◌, pure, refuse, refuse_if}

-- ---- where a place begins
-- the variable that a name at that place names
abbrev pub root_by : Pos → Option Named → Typing Root
root_by p None = refuse 1 p >> pure root.Nothing
root_by p (Some (n.Variable k)) = pure (root.Variable k)
root_by p (Some (n.Input k num)) = pure (root.Input k num)
root_by p (Some (n.Alias ty)) = refuse 5 p >> pure root.Nothing
root_by p (Some n.Function) = refuse 5 p >> pure root.Nothing

abbrev pub root_of : Name → Typing Root
root_of x = λ s. root_by x.pos (meaning_of s.names x.text) s

-- no name is that of a reference; the places are those of the `*` and of the name
abbrev pub pointed_by : Pos → Pos → Option Named → Typing Root
pointed_by star p None = refuse 1 p >> pure root.Nothing
pointed_by star p (Some m) = refuse 5 star >> pure root.Nothing

abbrev pub pointed : Pos → Name → Typing Root
pointed star x = λ s. pointed_by star x.pos (meaning_of s.names x.text) s

-- a variable as a whole
abbrev pub spot_at : Pos → Root → Option Shape → Bool → Spot
spot_at p r shape locked = record { root = r; name = p; shape = shape; depth = 0; locked = locked; steps = []; fixed = true }

abbrev pub variable_at : Pos → ℕ → Option Var → Spot
variable_at p k None = spot_at p (root.Variable k) None false
variable_at p k (Some v) = spot_at p (root.Variable k) (Some v.shape) v.constant

unfoldable pub spot_of : Typer → Pos → Root → Spot
spot_of s p (root.Variable k) = variable_at p k (slice_get s.vars k)
spot_of s p (root.Input k num) = spot_at p (root.Input k num) (Some (scalar num)) true
spot_of s p root.Nothing = spot_at p root.Nothing None false

abbrev pub begun : Pos → Typing Root → Typing Spot
begun p m = m >>= (λ r s. Gives (spot_of s p r) s)

unfoldable pub begins : PlaceBase → Typing Spot
begins (base.Name x) = begun x.pos (root_of x)
begins (base.Through p star x) = begun x.pos (pointed star x)
begins (base.Star star x) = begun x.pos (pointed star x)

-- ---- steps
-- a step to what isn't known
abbrev pub lost : Step → Spot → Spot
lost x l = record l { shape = None; steps = l.steps ++ x ∷ [] }

-- a step to an element
abbrev pub deeper : Step → Spot → Spot
deeper x l = record l { depth = l.depth + 1; steps = l.steps ++ x ∷ [] }

-- a step to a field, and whether that may not be assigned to
abbrev pub stepped : Step → Shape → Bool → Spot → Spot
stepped x shape locked l = record l { shape = Some shape; depth = 0; locked = locked; steps = l.steps ++ x ∷ [] }

-- what stands at a place at the outside, where that is known
abbrev pub form_at : Spot → Option Form
form_at l = form_inside l.shape l.depth

-- after an index that is such an operand
abbrev pub indexed_with : Operand → Spot → Spot
indexed_with i l = record l { fixed = l.fixed && is_constant (known_value i) }

abbrev pub element_of : Pos → Expr → Option Form → Spot → Typing Spot
element_of p i None l = pure (lost (step.At p 1 i) l)
element_of p i (Some (form.Array count)) l = pure (deeper (step.At p count i) l)
element_of p i (Some _) l = refuse 5 p >> pure (lost (step.At p 1 i) l)

-- `[i]`
unfoldable pub index : Pos → Operand → Spot → Typing Spot
index p i l = refuse_if (is_object (sort_of i)) 5 p >> element_of p (expr_or i) (form_at l) (indexed_with i l)

abbrev pub to_member : Pos → Option Member → Spot → Typing Spot
to_member p None l = refuse 4 p >> pure (lost (step.Field 0) l)
to_member p (Some m) l = pure (stepped (step.Field m.number) m.shape (l.locked || m.constant) l)

abbrev pub field_of : Pos → Name → Option Form → Spot → Typing Spot
field_of p x None l = pure (lost (step.Field 0) l)
field_of p x (Some (form.Struct k)) l = λ s. to_member x.pos (member_of s.structs k x.text) l s
field_of p x (Some _) l = refuse 5 p >> pure (lost (step.Field 0) l)

-- `.x`
unfoldable pub field : Pos → Name → Spot → Typing Spot
field p x l = field_of p x (form_at l) l

abbrev pub is_known : Option Shape → Bool
is_known None = false
is_known (Some _) = true

-- `->x`, of what is no reference
unfoldable pub arrow : Pos → Spot → Typing Spot
arrow p l = refuse_if (is_known l.shape) 5 p >> pure (lost (step.Field 0) l)

-- ---- the whole place
abbrev pub var_of : Root → ℕ
var_of (root.Variable k) = k
var_of _ = 0

abbrev pub access_of : Root → List Step → Access
access_of r steps = roll-Access (record { var = var_of r; steps = steps })

abbrev pub access : Spot → Access
access l = access_of l.root l.steps

abbrev pub reading : Root → List Step → Num → Expr
reading r steps num = elim r as (λ _. Expr) [ root.Input k m ↦ e.Input k num | _ ↦ e.Read (access_of r steps) num ]

abbrev pub operand_by : Spot → Option Form → Operand
operand_by l None = a.Unknown
operand_by l (Some (form.Scalar num)) = a.Number (reading l.root l.steps num) num Varies
operand_by l (Some (form.Struct k)) = a.Struct (access l) k l.fixed l.name
operand_by l (Some (form.Array count)) = a.Array l.name

-- what stands at a place
unfoldable pub operand : Spot → Operand
operand l = operand_by l (form_at l)
