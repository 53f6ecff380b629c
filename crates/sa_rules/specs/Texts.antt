-- The events of initialisers, declarations, statements, and a whole text.
use Rattle.std.specs.List.{flat_map}
use Rattle.std.specs.Prelude.{List, [], ◌∷◌, ◌++◌, ◌||◌, Bool, true, false, if◌then◌else◌, codes, Option, Some, None}
use Rattle.std.specs.Str.{bytes_eq}
use Rattle.sa_base.specs.declared.pos.Pos.{Pos}
use Rattle.sa_syntax.specs.declared.decl.Declr.{out-Declr}
use Rattle.sa_syntax.specs.declared.decl.Init as init
use Rattle.sa_syntax.specs.declared.decl.Init.{Init, Row_of-Init, end_of-Init, more_of-Init}
use Rattle.sa_syntax.specs.declared.decl.InitDeclr.{InitDeclr}
use Rattle.sa_syntax.specs.declared.decl.Name.{Name}
use Rattle.sa_syntax.specs.declared.decl.Qualified.{Qualified}
use Rattle.sa_syntax.specs.declared.decl.Qualifier.{Qualifier}
use Rattle.sa_syntax.specs.declared.decl.Qualifier.TheVariants.{Volatile}
use Rattle.sa_syntax.specs.declared.decl.Specifiers.{Specifiers, out-Specifiers}
use Rattle.sa_syntax.specs.declared.decl.Start.{Start}
use Rattle.sa_syntax.specs.declared.decl.Start.TheVariants as start
use Rattle.sa_syntax.specs.declared.expr.Expr.{Expr, Place', Bracket', end_of-Expr, more_of-Expr}
use Rattle.sa_syntax.specs.declared.expr.Place.{Place, out-Place}
use Rattle.sa_syntax.specs.declared.stmt.Block.{Block, out-Block}
use Rattle.sa_syntax.specs.declared.stmt.BlockItem as block
use Rattle.sa_syntax.specs.declared.stmt.BlockItem.{BlockItem}
use Rattle.sa_syntax.specs.declared.stmt.Directive.{Directive}
use Rattle.sa_syntax.specs.declared.stmt.Directive.TheVariants.{Wait}
use Rattle.sa_syntax.specs.declared.stmt.Local.{Local}
use Rattle.sa_syntax.specs.declared.stmt.LocalDeclr.{LocalDeclr}
use Rattle.sa_syntax.specs.declared.stmt.LocalStart.{LocalStart}
use Rattle.sa_syntax.specs.declared.stmt.LocalStart.TheVariants as begins
use Rattle.sa_syntax.specs.declared.stmt.Simple.{Simple}
use Rattle.sa_syntax.specs.declared.stmt.Simple.TheVariants as simple
use Rattle.sa_syntax.specs.declared.stmt.Stmt as stmt
use Rattle.sa_syntax.specs.declared.stmt.Stmt.{Stmt, Row_of-BlockItem, end_of-BlockItem, more_of-BlockItem}
use Rattle.sa_syntax.specs.declared.unit.Item.{Item}
use Rattle.sa_syntax.specs.declared.unit.Item.TheVariants as top
use Rattle.sa_syntax.specs.declared.unit.Unit.{Unit as Source}
use Rattle.sa_typer.specs.Bodies.{clock_loop}
use Rattle.sa_declarations.specs.Declarations.{are_bare}
use Rattle.sa_scopes.specs.First.{item_pos, init_pos, place_pos}
use Rattle.sa_scopes.specs.Scopes.{is_visible, is_some}
use Rattle.sa_scopes.specs.Types.{has_volatile}
use Rattle.sa_rules.specs.Events.{Event, Misplaced, Volatile_before_bare, Qualifies, Object, Assigns, Copies, Stores, Group_begins, Group_ends, Starts, Starts_input, Next_item, Begins_with, Initial, Filled, Declares, Defines, Aliases, Begins, Ends, Stray, Main, is_volatile, misplaced, begin, in_expr, in_steps, in_step, in_base, in_struct, in_bound}
use Rattle.sa_rules.specs.Sight.{Sight, nothing_seen, after}

-- ---- initialisers
-- the place is that of the braces
unfoldable mutual
  pub in_init : Init → List Event
  in_init (init.Value e) = in_expr e ++ Initial e ∷ []
  in_init (init.Braces' p n row) = in_inits p row

  pub in_inits : {n : _} → Pos → Row_of-Init n → List Event
  in_inits p end_of-Init = Filled ∷ []
  in_inits p (more_of-Init i rest) = (Next_item p ∷ in_init i) ++ in_inits p rest

-- ---- declarations
abbrev pub in_type : Specifiers → List Event
in_type ty = in_base (out-Specifiers ty).pos (out-Specifiers ty).base ++ Qualifies (out-Specifiers ty).qualifiers ∷ []

-- the type of objects
abbrev pub in_object : Specifiers → List Event
in_object ty = in_type ty ++ Object (out-Specifiers ty).pos ∷ []

abbrev pub starts_input_if : Bool → Pos → List Event
starts_input_if true p = Starts_input p ∷ []
starts_input_if false p = []

-- an initialiser, given whether its type is volatile
abbrev pub in_start : Bool → Start → List Event
in_start volatile start.Nothing = []
in_start volatile (start.Init p i) = starts_input_if volatile (init_pos i) ++ (Starts ∷ in_init i)

-- without an initialiser a volatile number is an input
abbrev pub may_be_input : Bool → Start → Bool
may_be_input volatile start.Nothing = volatile
may_be_input volatile (start.Init p i) = false

-- a name is declared after its initialiser
unfoldable pub in_global : Bool → InitDeclr → List Event
in_global volatile d = flat_map in_bound (out-Declr d.declr).bounds ++ (in_start volatile d.start ++ Declares (may_be_input volatile d.start) (out-Declr d.declr).name ∷ [])

-- a qualifier at file scope, and whether the names after it have no dimensions
abbrev pub at_file_scope : Bool → Pos → Qualifier → List Event
at_file_scope true p Volatile = Volatile_before_bare p ∷ []
at_file_scope false p Volatile = Misplaced p ∷ []
at_file_scope bare p _ = []

unfoldable pub qualifiers_at_file_scope : Bool → List Qualified → List Event
qualifiers_at_file_scope bare [] = []
qualifiers_at_file_scope bare (q ∷ qs) = at_file_scope bare q.pos q.word ++ qualifiers_at_file_scope bare qs

unfoldable pub in_globals : Specifiers → List InitDeclr → List Event
in_globals ty ds =
    in_object ty ++ (qualifiers_at_file_scope (are_bare ds) (out-Specifiers ty).qualifiers ++ (Group_begins ∷ (flat_map (in_global (has_volatile (out-Specifiers ty).qualifiers)) ds ++ Group_ends ∷ [])))

-- an expression that a local begins with is any
unfoldable pub in_local_init : Init → List Event
in_local_init (init.Value e) = in_expr e ++ Begins_with e ∷ []
in_local_init (init.Braces' p n row) = in_inits p row

abbrev pub in_local_start : LocalStart → List Event
in_local_start begins.Nothing = []
in_local_start (begins.Init p i) = Starts ∷ in_local_init i
in_local_start (begins.Call p c) = []

unfoldable pub in_local_declr : LocalDeclr → List Event
in_local_declr d = flat_map in_bound (out-Declr d.declr).bounds ++ (in_local_start d.start ++ Declares false (out-Declr d.declr).name ∷ [])

unfoldable pub in_local : Local → List Event
in_local l = misplaced is_volatile (out-Specifiers l.ty).qualifiers ++ (in_object l.ty ++ (Group_begins ∷ (flat_map in_local_declr l.declrs ++ Group_ends ∷ [])))

-- ---- statements
unfoldable pub in_place : Place → List Event
in_place x = begin (out-Place x).base ∷ flat_map in_step (out-Place x).steps

-- a place that is assigned to
abbrev pub in_left : Place → List Event
in_left x = in_place x ++ Assigns (place_pos x) ∷ []

-- what stands behind a `=`: a place by itself, in brackets or not, or anything else
unfoldable pub in_right : Pos → Expr → List Event
in_right p (Place' b n row) = begin b ∷ (in_steps row ++ Copies p ∷ [])
in_right p (Bracket' q n (more_of-Expr x end_of-Expr)) = in_right p x
in_right p e = in_expr e ++ Stores ∷ []

unfoldable pub in_simple : Simple → List Event
in_simple (simple.Assign x p e) = in_left x ++ in_right p e
in_simple (simple.Compound x op p e) = in_left x ++ (in_expr e ++ Stores ∷ [])
in_simple (simple.After x turn p) = in_left x ++ Stores ∷ []
in_simple (simple.Before turn p x) = in_left x ++ Stores ∷ []

-- a wait by itself
abbrev pub in_directive : Pos → Directive → List Event
in_directive p Wait = Stray p ∷ []
in_directive p _ = []

unfoldable mutual
  pub in_stmt : Stmt → List Event
  in_stmt (stmt.Block' p n row q) = Begins ∷ (in_items row ++ Ends ∷ [])
  in_stmt (stmt.Simple x) = in_simple x
  in_stmt (stmt.Directive p x) = in_directive p x
  in_stmt _ = []

  pub in_items : {n : _} → Row_of-BlockItem n → List Event
  in_items end_of-BlockItem = []
  in_items (more_of-BlockItem i rest) = in_item i ++ in_items rest

  pub in_item : BlockItem → List Event
  in_item (block.Local l) = in_local l
  in_item (block.Stmt a) = in_stmt a

-- ---- main
-- an item directly in main's block, given what stands before the wait where it is a clock loop
abbrev pub in_loop_or_item : Option (List BlockItem) → BlockItem → List Event
in_loop_or_item (Some before) i = Begins ∷ (flat_map in_item before ++ Ends ∷ [])
in_loop_or_item None i = in_item i

abbrev pub stray_if : Bool → Pos → List Event
stray_if true p = Stray p ∷ []
stray_if false p = []

-- the items of main's block, given whether the clock loop stands before them: an item after it is astray
unfoldable pub in_main : Bool → List BlockItem → List Event
in_main found [] = []
in_main found (i ∷ is) = (stray_if found (item_pos i) ++ in_loop_or_item (clock_loop i) i) ++ in_main (found || is_some (clock_loop i)) is

unfoldable pub has_loop : Bool → List BlockItem → Bool
has_loop found [] = found
has_loop found (i ∷ is) = has_loop (found || is_some (clock_loop i)) is

abbrev pub in_body : Name → List BlockItem → List Event
in_body x is = Main (has_loop false is) ∷ Defines x ∷ Begins ∷ (in_main false is ++ Ends ∷ [])

-- ---- the whole
-- a type before the name of a function or a type name
abbrev pub in_plain : Specifiers → List Event
in_plain ty = misplaced is_volatile (out-Specifiers ty).qualifiers ++ in_type ty

-- the block of a second main isn't read
abbrev pub in_func : Sight → Name → Block → List Event
in_func m x b = if is_visible m.scene.names x.text then Defines x ∷ [] else in_body x (out-Block b).items

-- an item, after what was seen
unfoldable pub in_top : Sight → Item → List Event
in_top m (top.Typedef p ty x) = in_plain ty ++ Aliases x ∷ []
in_top m (top.Struct p x) = in_struct x
in_top m (top.Global ty ds) = in_globals ty ds
in_top m (top.Proto ty x ps) = []
in_top m (top.Func ty x ps b) = if bytes_eq x.text (codes "main") then in_plain ty ++ in_func (after m (in_plain ty)) x b else []

unfoldable pub in_tops : Sight → List Item → List Event
in_tops m [] = []
in_tops m (i ∷ is) = in_top m i ++ in_tops (after m (in_top m i)) is

-- all events of a text, in their order
abbrev pub text : Source → List Event
text u = in_tops nothing_seen u.items
