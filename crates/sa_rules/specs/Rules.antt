-- For each code of a refusal the places of a text that it refuses. A rule says of an event, given what is visible before it,
-- whether it is refused, and where.
use Rattle.std.specs.Prelude.{ℕ, List, [], ◌∷◌, ◌++◌, Bool, true, false, if◌then◌else◌, ◌==◌, ◌≡◌, Option, Some, None}
use Rattle.std.specs.List.{Contains, filter_map}
use Rattle.sa_base.specs.declared.num.Num.{Num}
use Rattle.sa_base.specs.declared.pos.Pos.{Pos}
use Rattle.sa_syntax.specs.declared.unit.Unit.{Unit as Source}
use Rattle.sa_scopes.specs.declared.constant.Value.{Value}
use Rattle.sa_scopes.specs.declared.constant.Value.TheVariants.{Varies, Errs, Is}
use Rattle.sa_typed.specs.Arithmetic.{is_of}
use Rattle.sa_scopes.specs.declared.form.Form.{Form}
use Rattle.sa_scopes.specs.declared.form.Form.TheVariants as form
use Rattle.sa_scopes.specs.declared.typer.Fault.{Fault}
use Rattle.sa_declarations.specs.Declarations.{is_struct}
use Rattle.sa_operands.specs.Definitions.{is_dimension}
use Rattle.sa_scopes.specs.First.{expr_pos}
use Rattle.sa_scopes.specs.Scopes.{is_visible, is_some, meaning_of}
use Rattle.sa_scopes.specs.Types.{num_of}
use Rattle.sa_scopes.specs.Typing.{fault}
use Rattle.sa_typer.specs.Units.{refusals}
use Rattle.sa_rules.specs.Events.{Event, Misplaced, Volatile_before_bare, Words, Tag, Opens, Object, Uses, Follows, Picks, Assigns, Copies, Declares, Defines, Aliases, Member, Dimension, Starts_input, Next_item, Begins_with, Initial, Stray}
use Rattle.sa_rules.specs.Scenes.{is_complete, is_void, is_taken}
use Rattle.sa_rules.specs.Sight.{Sight, nothing_seen, see, after, fields_so_far, next_slot, spot_in, target_in, wanted}
use Rattle.sa_rules.specs.Spots.{lacks, differs}
use Rattle.sa_rules.specs.Texts.{text}
use Rattle.sa_rules.specs.Values.{value_of}

abbrev pub Rule : Type 0
Rule = Sight → Event → Option Pos

abbrev pub at_if : Bool → Pos → Option Pos
at_if true p = Some p
at_if false p = None

abbrev pub at_unless : Bool → Pos → Option Pos
at_unless true p = None
at_unless false p = Some p

-- 1: a name that stands for a variable isn't visible, so that it stands for nothing
abbrev pub undeclared : Rule
undeclared m (Uses x) = at_unless (is_some (meaning_of m.scene.names x.text)) x.pos
undeclared m (Follows x) = at_unless (is_some (meaning_of m.scene.names x.text)) x.pos
undeclared m _ = None

-- 2: a name that is declared is visible already; a field's is that of a field before in its structure, or a type name; a tag
-- that is declared is a visible tag
abbrev pub declared_twice : Rule
declared_twice m (Declares input x) = at_if (is_visible m.scene.names x.text) x.pos
declared_twice m (Defines x) = at_if (is_visible m.scene.names x.text) x.pos
declared_twice m (Aliases x) = at_if (is_visible m.scene.names x.text) x.pos
declared_twice m (Member x) = at_if (is_taken m.scene (fields_so_far m.opened) x.text) x.pos
declared_twice m (Opens (Some x)) = at_if (is_visible m.scene.tags x.text) x.pos
declared_twice m _ = None

-- 3: words are none of a whole-number type, a tag isn't that of a complete structure, an object's type is void
abbrev pub no_type : Rule
no_type m (Words p ws) = at_unless (is_some (num_of ws)) p
no_type m (Tag p x) = at_unless (is_complete (meaning_of m.scene.tags x.text)) p
no_type m (Object p) = at_if (is_void m.last.element) p
no_type m _ = None

-- 4: a field is none of the structure that the place is
abbrev pub no_field : Rule
no_field m (Picks x) = at_if (lacks m.scene.structs x.text (spot_in m.opened)) x.pos
no_field m _ = None

-- 6: a place that is assigned to is an input, begins with a `const` variable, or has a `const` field on its way
abbrev pub unassignable : Rule
unassignable m (Assigns p) = at_if (spot_in m.opened).locked p
unassignable m _ = None

-- 7: a structure is assigned to another one, or one of the two places has an index that isn't constant
abbrev pub ill_copied : Rule
ill_copied m (Copies p) = at_if (differs (target_in m.opened) (spot_in m.opened)) p
ill_copied m _ = None

-- 18: a dimension, or an initial value of the file scope or within braces, is no constant expression or errs; such a value
-- is for a number
abbrev pub unless_known : Pos → Value → Option Pos
unless_known p Varies = Some p
unless_known p (Errs num) = Some p
unless_known p _ = None

abbrev pub unless_known_for : Form → Pos → Value → Option Pos
unless_known_for (form.Scalar num) p v = unless_known p v
unless_known_for _ p v = None

abbrev pub no_constant : Rule
no_constant m (Dimension x) = unless_known (expr_pos x) (value_of m.scene.names x)
no_constant m (Initial x) = unless_known_for (wanted m.opened) (expr_pos x) (value_of m.scene.names x)
no_constant m _ = None

-- 19: a dimension is a constant expression, but its value is below 1 or above 16,777,216
abbrev pub out_of_range : Pos → Value → Option Pos
out_of_range p (Is c) = at_unless (is_dimension c.value) p
out_of_range p _ = None

abbrev pub oversized : Rule
oversized m (Dimension x) = out_of_range (expr_pos x) (value_of m.scene.names x)
oversized m _ = None

-- 20: an input has an initialiser; braces have an item too many, or one where a number is needed; an expression stands where
-- braces are needed; a constant is outside its type
abbrev pub out_of_type : Pos → Num → Value → Option Pos
out_of_type p num (Is c) = at_unless (is_of num c.value) p
out_of_type p num _ = None

abbrev pub unfit : Form → Pos → Value → Option Pos
unfit (form.Scalar num) p v = out_of_type p num v
unfit _ p v = Some p

abbrev pub is_number : Form → Bool
is_number (form.Scalar num) = true
is_number _ = false

abbrev pub ill_begun : Rule
ill_begun m (Starts_input p) = Some p
ill_begun m (Next_item p) = at_unless (is_some (next_slot m.scene.structs m.opened)) p
ill_begun m (Begins_with x) = at_unless (is_number (wanted m.opened)) (expr_pos x)
ill_begun m (Initial x) = unfit (wanted m.opened) (expr_pos x) (value_of m.scene.names x)
ill_begun m _ = None

-- 21: `volatile` elsewhere than at file scope before whole numbers without dimensions, `static` before fields
abbrev pub misqualified : Rule
misqualified m (Misplaced p) = Some p
misqualified m (Volatile_before_bare p) = at_if (is_struct m.last.element) p
misqualified m _ = None

-- 23: a wait elsewhere than at the end of the clock loop, an item after the clock loop
abbrev pub astray : Rule
astray m (Stray p) = Some p
astray m _ = None

abbrev pub with_place : Option Pos → List Pos → List Pos
with_place None ps = ps
with_place (Some p) ps = p ∷ ps

-- the places that a rule refuses in events that come after what was seen
unfoldable pub places : Rule → Sight → List Event → List Pos
places rule m [] = []
places rule m (e ∷ es) = with_place (rule m e) (places rule (see m e) es)

-- ---- refusals
abbrev pub place_of : ℕ → Fault → Option Pos
place_of code f = at_if (f.rule == code) f.pos

-- the places of the refusals with a code
abbrev pub refused_by : ℕ → List Fault → List Pos
refused_by code fs = filter_map (place_of code) fs

-- the refusals with that code stand exactly where the rule says
abbrev pub IsRule : ℕ → Rule → Type 0
IsRule code rule = (u : Source) (end : Pos) → refused_by code (refusals u end) ≡ places rule nothing_seen (text u)

-- an event of the list at which the rule refuses that place, given what is visible after the events before it
pub record Breaks (rule : Rule) (m : Sight) (es : List Event) (p : Pos) : Type 0 where
  pub front : List Event
  pub event : Event
  pub rest : List Event
  pub is : es ≡ front ++ event ∷ rest
  pub at : rule (after m front) event ≡ Some p

-- the same, place by place: one is refused with the code exactly where an event of the text breaks the rule there
abbrev pub IsExact : ℕ → Rule → Type 0
IsExact code rule = (u : Source) (end : Pos) → (p : Pos) →
    (Contains (refusals u end) (fault code p) → Breaks rule nothing_seen (text u) p) × (Breaks rule nothing_seen (text u) p → Contains (refusals u end) (fault code p))

-- 22: the text has no main with the clock loop that gives void or int; it is refused where it ends
abbrev pub no_main : Source → Pos → List Pos
no_main u end = if (after nothing_seen (text u)).entry then [] else (end ∷ [])

abbrev pub IsMissingMain : Type 0
IsMissingMain = (u : Source) (end : Pos) → refused_by 22 (refusals u end) ≡ no_main u end
