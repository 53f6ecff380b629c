-- Sources: what a tree is typed as, or how it is refused.
use Rattle.std.specs.Prelude.{ℕ, ◌≡◌, Result, Ok, Err, ◌+◌, List, [], ◌∷◌, ◌++◌, ◌&&◌, Bool, true, false, if◌then◌else◌, map, nat_le, Option, Some, None}
use Rattle.sa_base.specs.Numbers.{limit_number}
use Rattle.sa_base.specs.declared.limit.Limit.TheVariants.{Cells}
use Rattle.sa_base.specs.declared.num.Num.{Num}
use Rattle.sa_base.specs.declared.num.Num.TheVariants.{I8, U8, I16, U16, I32, U32, I64, U64}
use Rattle.sa_base.specs.declared.pos.Pos.{Pos}
use Rattle.sa_base.specs.declared.refusal.Code.TheVariants as code
use Rattle.sa_base.specs.declared.refusal.Refusal.{Refusal}
use Rattle.sa_syntax.specs.declared.decl.Name.{Name}
use Rattle.sa_syntax.specs.declared.decl.Specifiers.{Specifiers, out-Specifiers}
use Rattle.sa_syntax.specs.declared.stmt.Block.{Block, out-Block}
use Rattle.sa_syntax.specs.declared.unit.Item.{Item}
use Rattle.sa_syntax.specs.declared.unit.Item.TheVariants as top
use Rattle.sa_syntax.specs.declared.unit.Unit.{Unit as Source}
use Rattle.sa_syntax.specs.Forms.{is_main}
use Rattle.sa_typed.specs.declared.program.Func.{Func}
use Rattle.sa_typed.specs.declared.program.Program.{Program}
use Rattle.sa_typer.specs.declared.bodies.Body.{Body}
use Rattle.sa_typer.specs.declared.bodies.Entry.{Entry}
use Rattle.sa_typer.specs.declared.fault.TypeFault.{TypeFault}
use Rattle.sa_typer.specs.declared.fault.TypeFault.TheVariants as f
use Rattle.sa_scopes.specs.declared.typer.Fault.{Fault}
use Rattle.sa_scopes.specs.declared.typer.Typer.{Typer}
use Rattle.sa_scopes.specs.declared.types.Element.{Element}
use Rattle.sa_scopes.specs.declared.types.Element.TheVariants as el
use Rattle.sa_scopes.specs.declared.types.Named.TheVariants as n
use Rattle.sa_scopes.specs.declared.types.Ty.{Ty}
use Rattle.sa_scopes.specs.Scopes.{nothing, is_visible}
use Rattle.sa_scopes.specs.Structures.{cells_in, var_shape}
use Rattle.sa_scopes.specs.Types.{qualifiers}
use Rattle.sa_operands.specs.Expressions.{structure}
use Rattle.sa_operands.specs.Lists.{type_of}
use Rattle.sa_declarations.specs.Declarations.{named, declared, is_struct}
use Rattle.sa_typer.specs.Bodies.{main_block}
use Rattle.sa_scopes.specs.Refusals.{least_of}
use Rattle.sa_scopes.specs.Typing.{Typed, Typing, Gives, ◌>>=◌, ◌>>◌, pure, refuse_if, refused, fault, each}

-- ---- items
-- a type before a name at file scope, where `volatile` is out of place
abbrev pub plain_type : Specifiers → Typing Ty
plain_type ty = qualifiers false true (out-Specifiers ty).qualifiers >> type_of ty

unfoldable pub type_name : Specifiers → Name → Typing (Unit {0})
type_name ty x = plain_type ty >>= (λ t. named x (n.Alias t))

abbrev pub entry : Name → Ty → Body → Entry
entry x ty b = record { name = x.text; result = ty.element; body = b }

-- main, whose name wasn't visible; a structure isn't given by value
abbrev pub first_main : Name → Ty → Block → Typing (Option Entry)
first_main x ty b = named x n.Function >> (refuse_if (is_struct ty.element) 5 x.pos >> (main_block (out-Block b).items >>= (λ body. pure (Some (entry x ty body)))))

-- main, after what was main before it
unfoldable pub main : Specifiers → Name → Block → Option Entry → Typing (Option Entry)
main ty x b found = plain_type ty >>= (λ t s. if is_visible s.names x.text then Gives found (refused 2 x.pos s) else first_main x t b s)

-- an item, after what was main before it; prototypes and other functions aren't built yet
unfoldable pub item : Item → Option Entry → Typing (Option Entry)
item (top.Typedef p ty x) found = type_name ty x >> pure found
item (top.Struct p x) found = structure x >> pure found
item (top.Global ty ds) found = declared ty ds >> pure found
item (top.Proto ty x ps) found = pure found
item (top.Func ty x ps b) found = if is_main x then main ty x b found else pure found

abbrev pub items : List Item → Option Entry → Typing (Option Entry)
items is = each item is

-- ---- the whole
abbrev pub blank : Typer
blank = record {
  names = nothing;
  tags = nothing;
  structs = record { defs = []; members = [] };
  vars = [];
  inputs = [];
  thresholds = [];
  faults = [];
}

pub data Answer : Type 0 where
  Accepts : Program → Answer
  Refuses : Refusal → Answer
  -- there are more cells than the analysis may have
  TooManyCells : Answer

abbrev pub refusal : Fault → Refusal
refusal f = record { code = code.Typing f.rule; pos = f.pos }

abbrev pub is_result : Num → Bool
is_result I32 = true
is_result _ = false

-- what main gives: void, an int, or what is refused elsewhere
abbrev pub is_entry_type : Element → Bool
is_entry_type (el.Scalar num) = is_result num
is_entry_type _ = true

abbrev pub is_entry : Entry → Bool
is_entry e = e.body.clock && is_entry_type e.result

abbrev pub result_of : Element → Option Num
result_of (el.Scalar num) = Some num
result_of _ = None

abbrev pub result_cells : Option Num → ℕ
result_cells None = 0
result_cells (Some num) = 1

abbrev pub function : Entry → Func
function e = record { name = e.name; params = []; result = result_of e.result; body = e.body.stmts }

abbrev pub program : Typer → Entry → Program
program s e = record {
  structs = s.structs.defs;
  vars = s.vars;
  inputs = s.inputs;
  funcs = function e ∷ [];
  entry = 0;
  thresholds = s.thresholds;
}

unfoldable pub cells : Typer → Entry → ℕ
cells s e = cells_in s.structs (map var_shape s.vars) + result_cells (result_of e.result)

abbrev pub accepted : Typer → Entry → Answer
accepted s e = if nat_le (cells s e) (limit_number Cells) then Accepts (program s e) else TooManyCells

abbrev pub all_items : Source → Typed (Option Entry)
all_items u = items u.items None blank

-- ---- refusals
-- no main with a clock loop, or one with another result, is refused where the text ends
abbrev pub has_entry : Option Entry → Bool
has_entry None = false
has_entry (Some e) = is_entry e

abbrev pub refusals_by : Pos → Option Entry → Typer → List Fault
refusals_by end e s = if has_entry e then s.faults else (s.faults ++ fault 22 end ∷ [])

abbrev pub refusals_in : Pos → Typed (Option Entry) → List Fault
refusals_in end (Gives e s) = refusals_by end e s

-- all refusals of a tree whose text ends there
unfoldable pub refusals : Source → Pos → List Fault
refusals u end = refusals_in end (all_items u)

-- ---- the answer
-- where nothing is refused there is a main, so that what is said here of a tree without one is never the answer
abbrev pub accepted_by : Option Entry → Typer → Answer
accepted_by None s = TooManyCells
accepted_by (Some e) s = accepted s e

abbrev pub accepted_in : Typed (Option Entry) → Answer
accepted_in (Gives e s) = accepted_by e s

abbrev pub unless_refused : Option Fault → Answer → Answer
unless_refused None a = a
unless_refused (Some f) a = Refuses (refusal f)

-- the answer to a tree whose text ends there: the least refusal, where there is one
unfoldable pub answer : Source → Pos → Answer
answer u end = unless_refused (least_of (refusals u end)) (accepted_in (all_items u))

-- what typing tells of a source: its program, its least refusal, or that it has too many cells; want of memory says nothing
abbrev pub Tells : Answer → Result Program TypeFault → Type 0
Tells a (Ok p) = a ≡ Accepts p
Tells a (Err (f.Refused r)) = a ≡ Refuses r
Tells a (Err (f.TooMany limit)) = (limit ≡ Cells) × (a ≡ TooManyCells)
Tells a (Err f.OutOfMemory) = Unit {0}
