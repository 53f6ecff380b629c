-- What is seen after some events: what is visible, what is open, and the type that was written last.
use Rattle.std.specs.Prelude.{ℕ, List, [], ◌∷◌, ◌++◌, ◌+◌, ◌&&◌, Bool, true, false, if◌then◌else◌, unsigned_abs, length, Option, Some, None}
use Rattle.std.specs.List.{fold}
use Rattle.sa_base.specs.declared.num.Num.TheVariants.{I32}
use Rattle.sa_syntax.specs.declared.decl.Name.{Name}
use Rattle.sa_typed.specs.declared.shape.Shape.{Shape}
use Rattle.sa_scopes.specs.declared.constant.Value.{Value}
use Rattle.sa_scopes.specs.declared.constant.Value.TheVariants.{Is}
use Rattle.sa_scopes.specs.declared.structs.Fields.{Fields}
use Rattle.sa_scopes.specs.declared.types.Element.TheVariants as el
use Rattle.sa_scopes.specs.declared.types.Tagged.TheVariants as t
use Rattle.sa_scopes.specs.declared.types.Ty.{Ty}
use Rattle.sa_operands.specs.Definitions.{is_dimension, no_fields, with_field, name_or_empty}
use Rattle.sa_scopes.specs.declared.form.Form.{Form}
use Rattle.sa_scopes.specs.declared.form.Form.TheVariants as form
use Rattle.sa_scopes.specs.Forms.{scalar, form_of}
use Rattle.sa_scopes.specs.Scopes.{meaning_of, is_visible, with_name, count}
use Rattle.sa_scopes.specs.Structures.{Structs, slot}
use Rattle.sa_scopes.specs.Types.{num_of, plain, qualified, shape_of}
use Rattle.sa_scopes.specs.Values.{is_constant}
use Rattle.sa_typer.specs.Units.{is_entry_type}
use Rattle.sa_rules.specs.Events.{Event, Misplaced, Volatile_before_bare, Words, Void, Tag, Named, Opens, Closes, Qualifies, Object, Uses, Follows, Indexes, Picks, Points, Loads, Assigns, Copies, Stores, Group_begins, Group_ends, Dimension, Starts, Starts_input, Next_item, Begins_with, Initial, Filled, Declares, Defines, Aliases, Member, Begins, Ends, Stray, Main}
use Rattle.sa_rules.specs.Scenes.{Scene, Alias, Function, blank, words_type, tag_type, named_type, object_type, named, declared, with_fields, within, is_taken}
use Rattle.sa_rules.specs.Spots.{Spot, nowhere, meant_spot, indexed, lost, stepped}
use Rattle.sa_rules.specs.Values.{value_of}

-- what is open
pub data Open : Type 0 where
  -- a structure, with the number of its tag where it declares one, and its fields so far
  Braces : Option ℕ → Fields → Open
  -- names of objects or fields of a type, with the dimensions so far of the name that stands there
  Group : Ty → List ℕ → Open
  -- a place up to a step
  Place : Spot → Open
  -- an initialiser for an object of that shape, with how many items its braces have so far
  For : Shape → ℕ → Open
  -- a block, with how many names and tags were visible where it began
  Block : ℕ → ℕ → Open

pub record Sight : Type 0 where
  pub scene : Scene
  -- what is open, the innermost first
  pub opened : List Open
  -- the type that was written last
  pub last : Ty
  -- whether the last function main has the clock loop and gives void or int
  pub entry : Bool

abbrev pub nothing_seen : Sight
nothing_seen = record { scene = blank; opened = []; last = plain el.Unknown; entry = false }

abbrev pub open_more : Open → Sight → Sight
open_more o m = record m { opened = o ∷ m.opened }

abbrev pub rest_of : List Open → List Open
rest_of [] = []
rest_of (o ∷ os) = os

-- the innermost is closed
abbrev pub close_one : Sight → Sight
close_one m = record m { opened = rest_of m.opened }

-- ---- places
abbrev pub spot_in : List Open → Spot
spot_in (Place l ∷ os) = l
spot_in _ = nowhere

-- the place that is assigned to, while the one that is copied to it is open
abbrev pub target_in : List Open → Spot
target_in os = spot_in (rest_of os)

abbrev pub step_to : Spot → Sight → Sight
step_to l m = record m { opened = Place l ∷ rest_of m.opened }

-- ---- structures
-- a structure's brace opens; its tag is declared there unless it is visible, but isn't complete
abbrev pub opened_unless : Bool → List ℕ → Sight → Sight
opened_unless true w m = open_more (Braces None no_fields) m
opened_unless false w m = record m { scene = record m.scene { tags = with_name m.scene.tags w t.Open }; opened = Braces (Some (count m.scene.tags)) no_fields ∷ m.opened }

abbrev pub with_open : Option Name → Sight → Sight
with_open None m = open_more (Braces None no_fields) m
with_open (Some x) m = opened_unless (is_visible m.scene.tags x.text) x.text m

abbrev pub closed : List ℕ → List Open → Sight → Sight
closed w (Braces i f ∷ rest) m = record m { scene = with_fields w i f m.scene; opened = rest; last = plain (el.Struct (length m.scene.structs.defs)) }
closed w _ m = m

-- the fields so far of the structure that is open
abbrev pub fields_so_far : List Open → Fields
fields_so_far (Group ty dims ∷ (Braces i f ∷ rest)) = f
fields_so_far _ = no_fields

abbrev pub field_unless : Bool → List ℕ → Ty → List ℕ → Fields → Fields
field_unless true w ty dims f = f
field_unless false w ty dims f = with_field f w (shape_of ty.element dims) ty.constant

abbrev pub with_member : Scene → List ℕ → List Open → List Open
with_member v w (Group ty dims ∷ (Braces i f ∷ rest)) = Group ty [] ∷ (Braces i (field_unless (is_taken v f w) w ty dims f) ∷ rest)
with_member v w os = os

-- ---- objects
-- a dimension; what is refused counts as 1
abbrev pub size_of : Value → ℕ
size_of (Is c) = if is_dimension c.value then unsigned_abs c.value else 1
size_of _ = 1

abbrev pub with_size : ℕ → List Open → List Open
with_size n (Group ty dims ∷ rest) = Group ty (dims ++ n ∷ []) ∷ rest
with_size n os = os

abbrev pub with_declared : Bool → List ℕ → List Open → Sight → Sight
with_declared input w (Group ty dims ∷ rest) m = record m { scene = declared input w ty dims m.scene; opened = Group ty [] ∷ rest }
with_declared input w _ m = m

-- ---- initialisers
-- what the initialiser or item that is open is for, at the outside
abbrev pub wanted : List Open → Form
wanted (For shape k ∷ rest) = form_of shape
wanted _ = form.Scalar I32

-- what the next item of braces is for; one too many counts as one for an int
abbrev pub next_slot : Structs → List Open → Option Shape
next_slot s (For shape k ∷ rest) = slot s shape k
next_slot s _ = None

abbrev pub or_int : Option Shape → Shape
or_int None = scalar I32
or_int (Some shape) = shape

abbrev pub with_item : Structs → List Open → List Open
with_item s (For shape k ∷ rest) = For (or_int (slot s shape k)) 0 ∷ (For shape (k + 1) ∷ rest)
with_item s os = os

abbrev pub with_start : List Open → List Open
with_start (Group ty dims ∷ rest) = For (shape_of ty.element dims) 0 ∷ (Group ty dims ∷ rest)
with_start os = os

-- ---- blocks
abbrev pub left : List Open → Sight → Sight
left (Block names tags ∷ rest) m = record m { scene = within names tags m.scene; opened = rest }
left _ m = m

unfoldable pub see : Sight → Event → Sight
see m (Misplaced p) = m
see m (Volatile_before_bare p) = m
see m (Words p ws) = record m { last = words_type (num_of ws) }
see m Void = record m { last = plain el.Void }
see m (Tag p x) = record m { last = tag_type (meaning_of m.scene.tags x.text) }
see m (Named x) = record m { last = named_type (meaning_of m.scene.names x.text) }
see m (Opens tag) = with_open tag m
see m (Closes tag) = closed (name_or_empty tag) m.opened m
see m (Qualifies qs) = record m { last = qualified qs m.last }
see m (Object p) = record m { last = object_type m.last }
see m (Uses x) = open_more (Place (meant_spot m.scene (meaning_of m.scene.names x.text))) m
see m (Follows x) = open_more (Place nowhere) m
see m (Indexes x) = step_to (indexed (is_constant (value_of m.scene.names x)) (spot_in m.opened)) m
see m (Picks x) = step_to (stepped m.scene.structs x.text (spot_in m.opened)) m
see m Points = step_to (lost (spot_in m.opened)) m
see m Loads = close_one m
see m (Assigns p) = m
see m (Copies p) = close_one (close_one m)
see m Stores = close_one m
see m Group_begins = open_more (Group m.last []) m
see m Group_ends = close_one m
see m (Dimension x) = record m { opened = with_size (size_of (value_of m.scene.names x)) m.opened }
see m Starts = record m { opened = with_start m.opened }
see m (Starts_input p) = m
see m (Next_item p) = record m { opened = with_item m.scene.structs m.opened }
see m (Begins_with x) = close_one m
see m (Initial x) = close_one m
see m Filled = close_one m
see m (Declares input x) = with_declared input x.text m.opened m
see m (Defines x) = record m { scene = named x.text Function m.scene }
see m (Aliases x) = record m { scene = named x.text (Alias m.last) m.scene }
see m (Member x) = record m { opened = with_member m.scene x.text m.opened }
see m Begins = open_more (Block (count m.scene.names) (count m.scene.tags)) m
see m Ends = left m.opened m
see m (Stray p) = m
see m (Main clock) = record m { entry = clock && is_entry_type m.last.element }

-- what is seen after some events more
abbrev pub after : Sight → List Event → Sight
after m es = fold see m es
