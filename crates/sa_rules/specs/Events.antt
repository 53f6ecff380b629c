-- What a text does with names, tags, types, places, initialisers and the wait: the events of its parts, in the order in which
-- they are met. What isn't analysed yet (see sa_unbuilt) does nothing.
use Rattle.std.specs.Prelude.{List, [], ◌∷◌, ◌++◌, Bool, true, false, Option}
use Rattle.sa_base.specs.declared.pos.Pos.{Pos}
use Rattle.sa_syntax.specs.declared.decl.Base as base
use Rattle.sa_syntax.specs.declared.decl.Bound.{Bound, out-Bound}
use Rattle.sa_syntax.specs.declared.decl.Declr.{Declr, Declr', Row_of-Bound, more_of-Bound, end_of-Bound}
use Rattle.sa_syntax.specs.declared.decl.Field as group
use Rattle.sa_syntax.specs.declared.decl.Field.{Field', Row_of-Declr, more_of-Declr, end_of-Declr}
use Rattle.sa_syntax.specs.declared.decl.Name.{Name}
use Rattle.sa_syntax.specs.declared.decl.Qualified.{Qualified}
use Rattle.sa_syntax.specs.declared.decl.Qualifier.{Qualifier}
use Rattle.sa_syntax.specs.declared.decl.Qualifier.TheVariants.{Const, Volatile}
use Rattle.sa_syntax.specs.declared.decl.ScalarWord.{ScalarWord}
use Rattle.sa_syntax.specs.declared.decl.Struct.{Struct, Struct', Row_of-Field, more_of-Field, end_of-Field}
use Rattle.sa_syntax.specs.declared.expr.Expr.{Expr, Number, Place', Bracket', Prefix', Cast', Chain', Choice', end_of-Expr, more_of-Expr, Row_of-Link, end_of-Link, more_of-Link, Row_of-Step, end_of-Step, more_of-Step, more_of-Specifiers, end_of-Specifiers}
use Rattle.sa_syntax.specs.declared.expr.PlaceBase.{PlaceBase}
use Rattle.sa_syntax.specs.declared.expr.PlaceBase.TheVariants as at
use Rattle.sa_syntax.specs.declared.expr.Step.{Step, Index', Field, Arrow}

pub data Event : Type 0 where
  -- a qualifier stands where it may not
  Misplaced : Pos → Event
  -- `volatile` stands at file scope before names without dimensions
  Volatile_before_bare : Pos → Event
  -- a type is written: words of a whole-number type, with the place of the type's first token
  Words : Pos → List ScalarWord → Event
  -- .. `void`
  Void : Event
  -- .. `struct` and a tag, with the place of the type's first token
  Tag : Pos → Name → Event
  -- .. a type name
  Named : Name → Event
  -- .. a structure with its fields, from its tag on to its closing brace
  Opens : Option Name → Event
  Closes : Option Name → Event
  -- such qualifiers stand before the type that was just written
  Qualifies : List Qualified → Event
  -- the type that was just written, with the place of its first token, is that of an object
  Object : Pos → Event
  -- a place begins with a variable's name, or with a `*` and a name
  Uses : Name → Event
  Follows : Name → Event
  -- .. it goes on with such an index, with a `.` and a field, with a `->`
  Indexes : Expr → Event
  Picks : Name → Event
  Points : Event
  -- .. it is at its end, and is read; or it began there, and is assigned to
  Loads : Event
  Assigns : Pos → Event
  -- .. what is assigned to it is the whole place behind that `=`; or it is anything else
  Copies : Pos → Event
  Stores : Event
  -- names of the type that was just written are declared, from there on to there
  Group_begins : Event
  Group_ends : Event
  -- an expression is a dimension of the next of these names
  Dimension : Expr → Event
  -- the next of these names has an initialiser; it is an input's, and begins there
  Starts : Event
  Starts_input : Pos → Event
  -- an item of braces that begin there is next
  Next_item : Pos → Event
  -- an initialiser or item is an expression: any, or one that has to be known
  Begins_with : Expr → Event
  Initial : Expr → Event
  -- .. or braces, which end
  Filled : Event
  -- a name is declared: a variable's, and whether it is an input if it is a number; a function's, a type name for the type that
  -- was just written, a field's
  Declares : Bool → Name → Event
  Defines : Name → Event
  Aliases : Name → Event
  Member : Name → Event
  -- a block begins and ends
  Begins : Event
  Ends : Event
  -- what the clock loop's place and its wait don't allow stands there
  Stray : Pos → Event
  -- a function main, whose result has the type that was just written, and whether the clock loop stands in its block
  Main : Bool → Event

-- ---- qualifiers
-- `volatile` before what is no name at file scope (`static` and `const` may stand there)
abbrev pub is_volatile : Qualifier → Bool
is_volatile Volatile = true
is_volatile _ = false

-- `volatile` and `static` before fields
abbrev pub is_no_const : Qualifier → Bool
is_no_const Const = false
is_no_const _ = true

abbrev pub misplaced_if : Bool → Pos → List Event
misplaced_if true p = Misplaced p ∷ []
misplaced_if false p = []

unfoldable pub misplaced : (Qualifier → Bool) → List Qualified → List Event
misplaced is_wrong [] = []
misplaced is_wrong (q ∷ qs) = misplaced_if (is_wrong q.word) q.pos ++ misplaced is_wrong qs

-- ---- expressions and types
abbrev pub begin : PlaceBase → Event
begin (at.Name x) = Uses x
begin (at.Through p star x) = Follows x
begin (at.Star star x) = Follows x

unfoldable mutual
  pub in_expr : Expr → List Event
  in_expr (Number v unsigned longs decimal p) = []
  in_expr (Place' b n row) = begin b ∷ (in_steps row ++ Loads ∷ [])
  in_expr (Bracket' p n (more_of-Expr x end_of-Expr)) = in_expr x
  in_expr (Prefix' op p n (more_of-Expr x end_of-Expr)) = in_expr x
  in_expr (Cast' p m (more_of-Specifiers q qs b end_of-Specifiers) n (more_of-Expr x end_of-Expr)) = misplaced is_volatile qs ++ (((in_base q b ++ Qualifies qs ∷ []) ++ Object q ∷ []) ++ in_expr x)
  in_expr (Chain' m (more_of-Expr x end_of-Expr) n row) = in_expr x ++ in_links row
  in_expr (Choice' l (more_of-Expr x end_of-Expr) p m (more_of-Expr y end_of-Expr) n (more_of-Expr z end_of-Expr)) = in_expr x ++ (in_expr y ++ in_expr z)

  pub in_links : {n : _} → Row_of-Link n → List Event
  in_links end_of-Link = []
  in_links (more_of-Link op p x rest) = in_expr x ++ in_links rest

  pub in_steps : {n : _} → Row_of-Step n → List Event
  in_steps end_of-Step = []
  in_steps (more_of-Step x rest) = in_step x ++ in_steps rest

  pub in_step : Step → List Event
  in_step (Index' p n (more_of-Expr x end_of-Expr)) = in_expr x ++ Indexes x ∷ []
  in_step (Field p x) = Picks x ∷ []
  in_step (Arrow p x) = Points ∷ []

  -- the place is that of the type's first token
  pub in_base : Pos → base.Base → List Event
  in_base p (base.Scalar ws) = Words p ws ∷ []
  in_base p base.Void = Void ∷ []
  in_base p (base.Tag x) = Tag p x ∷ []
  in_base p (base.Struct x) = in_struct x
  in_base p (base.Named x) = Named x ∷ []

  pub in_struct : Struct → List Event
  in_struct (Struct' tag n row) = Opens tag ∷ (in_fields row ++ Closes tag ∷ [])

  pub in_fields : {n : _} → Row_of-Field n → List Event
  in_fields end_of-Field = []
  in_fields (more_of-Field x rest) = in_field x ++ in_fields rest

  pub in_field : group.Field → List Event
  in_field (Field' p qs b n row) = misplaced is_no_const qs ++ (((in_base p b ++ Qualifies qs ∷ []) ++ Object p ∷ []) ++ (Group_begins ∷ (in_declrs row ++ Group_ends ∷ [])))

  pub in_declrs : {n : _} → Row_of-Declr n → List Event
  in_declrs end_of-Declr = []
  in_declrs (more_of-Declr x rest) = in_declr x ++ in_declrs rest

  pub in_declr : Declr → List Event
  in_declr (Declr' x n row) = in_bounds row ++ Member x ∷ []

  pub in_bounds : {n : _} → Row_of-Bound n → List Event
  in_bounds end_of-Bound = []
  in_bounds (more_of-Bound p x rest) = (in_expr x ++ Dimension x ∷ []) ++ in_bounds rest

abbrev pub in_bound : Bound → List Event
in_bound b = in_expr (out-Bound b).size ++ Dimension (out-Bound b).size ∷ []
