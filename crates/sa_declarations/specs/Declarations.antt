-- Declarations of variables, inputs and locals (ISO C 6.7). There is no shadowing: a name that is visible isn't declared again,
-- which is this project's own choice. A name is visible after its whole item.
use Rattle.std.specs.List.{fold}
use Rattle.std.specs.Prelude.{ℕ, ℤ, List, [], ◌∷◌, ◌++◌, ◌&&◌, Bool, true, false, not, if◌then◌else◌, length, Option, Some, None}
use Rattle.sa_base.specs.declared.num.Num.{Num}
use Rattle.sa_base.specs.declared.pos.Pos.{Pos}
use Rattle.sa_syntax.specs.declared.decl.Bound.{Bound}
use Rattle.sa_syntax.specs.declared.decl.Declr.{Declr, out-Declr}
use Rattle.sa_syntax.specs.declared.decl.Init.{Init, out-Init}
use Rattle.sa_syntax.specs.declared.decl.Init.TheOpen.{Init-F}
use Rattle.sa_syntax.specs.declared.decl.InitDeclr.{InitDeclr}
use Rattle.sa_syntax.specs.declared.decl.Name.{Name}
use Rattle.sa_syntax.specs.declared.decl.Specifiers.{Specifiers, out-Specifiers}
use Rattle.sa_syntax.specs.declared.decl.Start.{Start as Begins}
use Rattle.sa_syntax.specs.declared.decl.Start.TheVariants as begins
use Rattle.sa_syntax.specs.declared.stmt.Local.{Local}
use Rattle.sa_syntax.specs.declared.stmt.LocalDeclr.{LocalDeclr}
use Rattle.sa_syntax.specs.declared.stmt.LocalStart.{LocalStart}
use Rattle.sa_syntax.specs.declared.stmt.LocalStart.TheVariants as inner
use Rattle.sa_typed.specs.declared.program.Home.{Home}
use Rattle.sa_typed.specs.declared.program.Home.TheVariants as home
use Rattle.sa_typed.specs.declared.program.Input.{Input}
use Rattle.sa_typed.specs.declared.program.Var.{Var}
use Rattle.sa_typed.specs.declared.shape.Shape.{Shape}
use Rattle.sa_typed.specs.declared.stmt.Simple.TheVariants as simply
use Rattle.sa_typed.specs.declared.stmt.Start.{Start}
use Rattle.sa_typed.specs.declared.stmt.Start.TheVariants as start
use Rattle.sa_typed.specs.declared.stmt.Stmt.{Stmt}
use Rattle.sa_typed.specs.declared.stmt.Stmt.TheVariants as t
use Rattle.sa_declarations.specs.declared.beginning.Beginning.{Beginning}
use Rattle.sa_scopes.specs.declared.form.Form.{Form}
use Rattle.sa_scopes.specs.declared.form.Form.TheVariants as form
use Rattle.sa_operands.specs.declared.operand.Operand.{Operand}
use Rattle.sa_scopes.specs.declared.types.Element.{Element}
use Rattle.sa_scopes.specs.declared.types.Element.TheVariants as el
use Rattle.sa_scopes.specs.declared.types.Named.{Named}
use Rattle.sa_scopes.specs.declared.types.Named.TheVariants as n
use Rattle.sa_scopes.specs.declared.types.Ty.{Ty}
use Rattle.sa_scopes.specs.First.{expr_pos, init_pos}
use Rattle.sa_scopes.specs.Forms.{form_of}
use Rattle.sa_scopes.specs.Scopes.{is_visible, with_name}
use Rattle.sa_scopes.specs.Types.{qualifiers, has_volatile, shape_of}
use Rattle.sa_operands.specs.Operands.{sort_of, is_object, expr_or}
use Rattle.sa_operands.specs.Expressions.{expr}
use Rattle.sa_declarations.specs.Initialisers.{values}
use Rattle.sa_operands.specs.Lists.{bounds, object_type}
use Rattle.sa_scopes.specs.Typing.{Typing, Gives, ◌>>=◌, ◌>>◌, pure, refuse, refuse_if, refused, each}

-- a name with what it stands for, or a refusal where it is visible already
unfoldable pub named : Name → Named → Typing (Unit {0})
named x m = λ s. if is_visible s.names x.text then Gives tt (refused 2 x.pos s) else Gives tt (record s { names = with_name s.names x.text m })

-- ---- variables and inputs
abbrev pub var : Name → Shape → Home → Bool → List ℤ → Var
var x shape home constant initial = record { name = x.text; pos = x.pos; shape = shape; home = home; constant = constant; initial = initial }

abbrev pub added : Var → Typing (Unit {0})
added v = λ s. Gives tt (record s { vars = s.vars ++ v ∷ [] })

-- another variable, and its number
unfoldable pub variable : Name → Shape → Home → Bool → List ℤ → Typing ℕ
variable x shape home constant initial = λ s. (named x (n.Variable (length s.vars)) >> added (var x shape home constant initial) >> pure (length s.vars)) s

abbrev pub added_input : Name → Num → Typing (Unit {0})
added_input x num = λ s. Gives tt (record s { inputs = s.inputs ++ record { name = x.text; num = num } ∷ [] })

-- another input
unfoldable pub input : Name → Num → Typing (Unit {0})
input x num = λ s. (named x (n.Input (length s.inputs) num) >> added_input x num) s

-- ---- the file scope
-- an input's type: a volatile scalar without initialiser is an input
abbrev pub input_by : Element → List ℕ → Begins → Option Num
input_by (el.Scalar num) [] begins.Nothing = Some num
input_by _ _ _ = None

abbrev pub input_type : Bool → Element → List ℕ → Begins → Option Num
input_type false e dims start = None
input_type true e dims start = input_by e dims start

-- the initial values, given whether the type is volatile
abbrev pub initial : Bool → Shape → Begins → Typing (List ℤ)
initial volatile shape begins.Nothing = pure []
initial volatile shape (begins.Init p i) = refuse_if volatile 20 (init_pos i) >> values i shape

abbrev pub global_by : Option Num → Bool → Ty → Name → Shape → Begins → Typing (Unit {0})
global_by (Some num) volatile ty x shape start = input x num
global_by None volatile ty x shape start = initial volatile shape start >>= (λ zs. variable x shape home.Global ty.constant zs >> pure tt)

unfoldable pub global : Bool → Ty → InitDeclr → Typing (Unit {0})
global volatile ty d =
    bounds (out-Declr d.declr).bounds [] >>= (λ dims. global_by (input_type volatile ty.element dims d.start) volatile ty (out-Declr d.declr).name (shape_of ty.element dims) d.start)

abbrev pub next_global : Bool → Ty → InitDeclr → Unit {0} → Typing (Unit {0})
next_global volatile ty d found = global volatile ty d

abbrev pub globals : Bool → Ty → List InitDeclr → Typing (Unit {0})
globals volatile ty ds = each (next_global volatile ty) ds tt

-- all declared names are of scalars, as far as dimensions go
abbrev pub is_bare : List Bound → Bool
is_bare [] = true
is_bare (b ∷ bs) = false

abbrev pub and_bare : Bool → InitDeclr → Bool
and_bare found d = found && is_bare (out-Declr d.declr).bounds

abbrev pub are_bare : List InitDeclr → Bool
are_bare ds = fold and_bare true ds

abbrev pub is_struct : Element → Bool
is_struct (el.Struct k) = true
is_struct _ = false

-- a declaration at file scope, where `volatile` may stand before scalars
unfoldable pub declared : Specifiers → List InitDeclr → Typing (Unit {0})
declared ty ds = object_type ty >>= (λ t.
    qualifiers (not (is_struct t.element) && are_bare ds) true (out-Specifiers ty).qualifiers
    >> globals (has_volatile (out-Specifiers ty).qualifiers) t ds)

-- ---- locals
abbrev pub beginning : Start → List ℤ → Beginning
beginning s zs = record { start = s; initial = zs }

-- a local begins with the value of an expression; the places are those of the `=` and of the expression's first token
abbrev pub begun_with : Pos → Pos → Form → Operand → Typing Beginning
begun_with p q (form.Scalar num) x = refuse_if (is_object (sort_of x)) 5 p >> pure (beginning (start.Value p (expr_or x)) [])
begun_with p q _ x = refuse 20 q >> pure (beginning start.Any [])

abbrev pub begun_by : Pos → Shape → Init → Typing Beginning
begun_by p shape i = elim (out-Init i) as (λ _. Typing Beginning) [
  | Init-F.Value e ↦ expr e >>= (λ x. begun_with p (expr_pos e) (form_of shape) x)
  | Init-F.Braces q is ↦ values i shape >>= (λ zs. pure (beginning start.Items zs))
]

-- a call isn't built yet
unfoldable pub begun : Shape → LocalStart → Typing Beginning
begun shape inner.Nothing = pure (beginning start.Any [])
begun shape (inner.Init p i) = begun_by p shape i
begun shape (inner.Call p c) = pure (beginning start.Any [])

abbrev pub local_as : Ty → Name → Shape → Beginning → Typing Stmt
local_as ty x shape b = variable x shape (home.Local 0) ty.constant b.initial >>= (λ k. pure (t.Simple (simply.Declare k b.start)))

unfoldable pub local_of : Ty → LocalDeclr → Typing Stmt
local_of ty d =
    bounds (out-Declr d.declr).bounds [] >>= (λ dims. begun (shape_of ty.element dims) d.start >>= local_as ty (out-Declr d.declr).name (shape_of ty.element dims))

abbrev pub next_local : Ty → LocalDeclr → List Stmt → Typing (List Stmt)
next_local ty d found = local_of ty d >>= (λ a. pure (found ++ a ∷ []))

abbrev pub locals : Ty → List LocalDeclr → List Stmt → Typing (List Stmt)
locals ty ds = each (next_local ty) ds

-- a declaration in a block, after the statements so far
unfoldable pub local : Local → List Stmt → Typing (List Stmt)
local l found = qualifiers false true (out-Specifiers l.ty).qualifiers >> (object_type l.ty >>= (λ ty. locals ty l.declrs found))
