-- Expressions, places and types see and refuse what their events do.
use Rattle.std.proofs.Common.{ℕ, Bool, List, [], ◌∷◌, ◌++◌, refl, Option}
use Rattle.std.specs.List.{flat_map}
use Rattle.sa_base.specs.declared.pos.Pos.{Pos}
use Rattle.sa_syntax.specs.declared.decl.Base as base
use Rattle.sa_syntax.specs.declared.decl.Bound.{Bound, out-Bound}
use Rattle.sa_syntax.specs.declared.decl.Declr.{Declr, Declr', Row_of-Bound, more_of-Bound, end_of-Bound}
use Rattle.sa_syntax.specs.declared.decl.Field.{Field as FieldGroup, Field', Row_of-Declr, more_of-Declr, end_of-Declr}
use Rattle.sa_syntax.specs.declared.decl.Qualified.{Qualified}
use Rattle.sa_syntax.specs.declared.decl.Specifiers.{Specifiers, out-Specifiers}
use Rattle.sa_syntax.specs.declared.decl.Struct.{Struct, Struct', Row_of-Field, more_of-Field, end_of-Field}
use Rattle.sa_syntax.specs.declared.expr.Expr.{Expr, Number, Place', Bracket', Prefix', Cast', Chain', Choice', end_of-Expr, more_of-Expr, Row_of-Link, end_of-Link, more_of-Link, Row_of-Step, end_of-Step, more_of-Step, more_of-Specifiers, end_of-Specifiers}
use Rattle.sa_syntax.specs.declared.expr.Place.{Place, out-Place}
use Rattle.sa_syntax.specs.declared.expr.Step.{Step, Index', Field, Arrow}
use Rattle.sa_operands.specs.declared.operand.Left.{Left}
use Rattle.sa_operands.specs.declared.operand.Spot.{Spot}
use Rattle.sa_scopes.specs.declared.structs.Fields.{Fields}
use Rattle.sa_scopes.specs.declared.typer.Typer.{Typer}
use Rattle.sa_scopes.specs.declared.types.Ty.{Ty}
use Rattle.sa_operands.specs.Definitions.{no_fields}
use Rattle.sa_operands.specs.Expressions.{expr, links, steps, step, base_type, structure, fields, field, declrs, declr, bounds, beside_first}
use Rattle.sa_operands.specs.Lists as list
use Rattle.sa_operands.specs.Operands.{prefix_of, left_of}
use Rattle.sa_scopes.specs.Types.{num_of, object}
use Rattle.sa_scopes.specs.Typing.{Typing}
use Rattle.sa_rules.specs.Events.{Event, Qualifies, Object, in_expr, in_links, in_steps, in_step, in_base, in_struct, in_fields, in_field, in_declrs, in_declr, in_bounds, in_bound}
use Rattle.sa_rules.specs.Sight as sight
use Rattle.sa_rules.specs.Sight.{Open, Braces, Group}
use Rattle.sa_rules.specs.Texts.{in_place, in_type, in_object}
use Rattle.sa_rules.proofs.Walks.{state, value, then_here, Reads, Quiet, quiet_gives, quiet_then, quiet, stays, bind, ends, ends_to, so, all_parts}
use Rattle.sa_rules.proofs.Steps.{At, AtSpot, Last, forget, seen_spot, begins_reads, scalar_reads, void_reads, tagged_reads, type_name_reads, whole_reads, object_reads}
use Rattle.sa_rules.proofs.Names.{Next, opened_reads, closed_reads, field_reads, group_begins, group_ends}
use Rattle.sa_rules.proofs.Places.{index_reads, field_reads as place_field_reads, arrow_reads, loads}
use Rattle.sa_rules.proofs.Dimensions.{known_there, dimension_reads}
use Rattle.sa_rules.proofs.Qualifiers.{plain_qualifiers, field_qualifiers}
use Rattle.sa_rules.proofs.QuietParts.{beside_quiet, prefixed_quiet, cast_quiet, linked_quiet, choice_quiet}

beside_first_quiet : {n : _} (row : Row_of-Link n) (x : Expr) (s : Typer) → Quiet s (beside_first row x s)
beside_first_quiet end_of-Link x s = quiet_gives
beside_first_quiet (more_of-Link op q y rest) x s = beside_quiet op x s

module _ (found : Bool) where
  object_type_reads : (os : List Open) (p : Pos) (qs : List Qualified) (b : Typing Ty) (es : List Event) (s : Typer) → Reads (At os found) s es (Last os found) (b s) →
      Reads (At os found) s ((es ++ Qualifies qs ∷ []) ++ Object p ∷ []) (Last os found) (object p qs b s)
  object_type_reads os p qs b es s h = bind (whole_reads os found qs b es s h) (λ ty u. object_reads os found p ty u)

  mutual
    unfolding expr in_expr

    pub expr_reads : (os : List Open) (x : Expr) (s : Typer) → Reads (At os found) s (in_expr x) (λ y. At os found) (expr x s)
    expr_reads os (Number v unsigned longs decimal q) s = quiet quiet_gives
    expr_reads os (Place' b n row) s = ends (loads os found (bind (begins_reads os found b s) (λ l t. steps_reads os row l t))) (λ l t. quiet_gives)
    expr_reads os (Bracket' q n (more_of-Expr x end_of-Expr)) s = expr_reads os x s
    expr_reads os (Prefix' op q n (more_of-Expr x end_of-Expr)) s = ends (expr_reads os x s) (λ y t. prefixed_quiet (prefix_of op) q y t)
    expr_reads os (Cast' q m (more_of-Specifiers r qs b end_of-Specifiers) n (more_of-Expr x end_of-Expr)) s =
        bind (plain_qualifiers (At os found) qs s) (λ a t. bind (so (object_type_reads os r qs (base_type r b) _ t (base_reads os r b t)) (λ ty m h. forget os found ty m h))
        (λ ty u. ends (expr_reads os x u) (λ y v. cast_quiet q ty.element y v)))
    expr_reads os (Chain' m (more_of-Expr x end_of-Expr) n row) s =
        bind (expr_reads os x s) (λ first t. bind (quiet (beside_first_quiet row x t)) (λ a u. ends (links_reads os row (left_of first) u) (λ l v. quiet_gives)))
    expr_reads os (Choice' l (more_of-Expr x end_of-Expr) q m (more_of-Expr y end_of-Expr) n (more_of-Expr z end_of-Expr)) s =
        bind (expr_reads os x s) (λ c t. bind (expr_reads os y t) (λ i u. ends (expr_reads os z u) (λ j v. choice_quiet q c i j v)))

    links_reads : {n : _} (os : List Open) (row : Row_of-Link n) (l : Left) (s : Typer) → Reads (At os found) s (in_links row) (λ l. At os found) (links row l s)
    links_reads os end_of-Link l s = quiet quiet_gives
    links_reads os (more_of-Link op q x rest) l s =
        bind (ends (expr_reads os x s) (λ i t. quiet_then (beside_quiet op x t) (λ a u. linked_quiet op q l i u))) (λ l t. links_reads os rest l t)

    pub steps_reads : {n : _} (os : List Open) (row : Row_of-Step n) (l : Spot) (s : Typer) → Reads (AtSpot os found l) s (in_steps row) (AtSpot os found) (steps row l s)
    steps_reads os end_of-Step l s = stays
    steps_reads os (more_of-Step x rest) l s = bind (step_reads os x l s) (λ l t. steps_reads os rest l t)

    pub step_reads : (os : List Open) (x : Step) (l : Spot) (s : Typer) → Reads (AtSpot os found l) s (in_step x) (AtSpot os found) (step x l s)
    step_reads os (Index' q n (more_of-Expr x end_of-Expr)) l s = then_here _ (expr_reads (sight.Place (seen_spot l) ∷ os) x s) (index_reads os found q x (value (expr x s)) l (state (expr x s)) (known_there x s))
    step_reads os (Field q x) l s = place_field_reads os found q x l s
    step_reads os (Arrow q x) l s = arrow_reads os found q l s

    pub base_reads : (os : List Open) (q : Pos) (b : base.Base) (s : Typer) → Reads (At os found) s (in_base q b) (Last os found) (base_type q b s)
    base_reads os q (base.Scalar ws) s = scalar_reads os found q ws (num_of ws) s refl
    base_reads os q base.Void s = void_reads os found s
    base_reads os q (base.Tag x) s = tagged_reads os found q x s
    base_reads os q (base.Struct x) s = structure_reads os x s
    base_reads os q (base.Named x) s = type_name_reads os found x s

    pub structure_reads : (os : List Open) (x : Struct) (s : Typer) → Reads (At os found) s (in_struct x) (Last os found) (structure x s)
    structure_reads os (Struct' tag n row) s = bind (opened_reads os found tag s) (λ i t. bind (fields_reads os i row no_fields t) (λ f u. closed_reads os found tag i f u))

    fields_reads : {n : _} (os : List Open) (i : Option ℕ) (row : Row_of-Field n) (f : Fields) (s : Typer) → Reads (At (Braces i f ∷ os) found) s (in_fields row) (λ f. At (Braces i f ∷ os) found) (fields row f s)
    fields_reads os i end_of-Field f s = stays
    fields_reads os i (more_of-Field x rest) f s = bind (group_reads os i x f s) (λ f t. fields_reads os i rest f t)

    group_reads : (os : List Open) (i : Option ℕ) (x : FieldGroup) (f : Fields) (s : Typer) → Reads (At (Braces i f ∷ os) found) s (in_field x) (λ f. At (Braces i f ∷ os) found) (field x f s)
    group_reads os i (Field' q qs b n row) f s =
        bind (field_qualifiers (At (Braces i f ∷ os) found) qs s)
        (λ a t. bind (object_type_reads (Braces i f ∷ os) q qs (base_type q b) _ t (base_reads (Braces i f ∷ os) q b t))
        (λ ty u. group_begins (Braces i f ∷ os) found ty (group_ends (λ f. Braces i f ∷ os) found ty (declrs_reads os i ty row f u))))

    declrs_reads : {n : _} (os : List Open) (i : Option ℕ) (ty : Ty) (row : Row_of-Declr n) (f : Fields) (s : Typer) → Reads (Next os found ty [] i f) s (in_declrs row) (Next os found ty [] i) (declrs ty row f s)
    declrs_reads os i ty end_of-Declr f s = stays
    declrs_reads os i ty (more_of-Declr x rest) f s = bind (declr_reads os i ty x f s) (λ f t. declrs_reads os i ty rest f t)

    declr_reads : (os : List Open) (i : Option ℕ) (ty : Ty) (x : Declr) (f : Fields) (s : Typer) → Reads (Next os found ty [] i f) s (in_declr x) (Next os found ty [] i) (declr ty x f s)
    declr_reads os i ty (Declr' x n row) f s = bind (bounds_reads (Braces i f ∷ os) ty row [] s) (λ dims t. field_reads os found i x ty dims f t)

    bounds_reads : {n : _} (os : List Open) (ty : Ty) (row : Row_of-Bound n) (dims : List ℕ) (s : Typer) → Reads (At (Group ty dims ∷ os) found) s (in_bounds row) (λ dims. At (Group ty dims ∷ os) found) (bounds row dims s)
    bounds_reads os ty end_of-Bound dims s = stays
    bounds_reads os ty (more_of-Bound q x rest) dims s =
        bind (then_here _ (expr_reads (Group ty dims ∷ os) x s)
        (ends_to (dimension_reads os found x ty dims (value (expr x s)) (state (expr x s)) (known_there x s)) (λ n u. quiet_gives) (λ n u m h. h))) (λ dims t. bounds_reads os ty rest dims t)

  -- ---- lists of parts
  pub spot_reads : (os : List Open) (x : Place) (s : Typer) → Reads (At os found) s (in_place x) (AtSpot os found) (list.spot x s)
  unfolding list.spot in_place
  spot_reads os x s = bind (begins_reads os found (out-Place x).base s) (λ l t. all_parts (AtSpot os found) step in_step (λ y l s. step_reads os y l s) (out-Place x).steps l t)

  pub type_reads : (os : List Open) (ty : Specifiers) (s : Typer) → Reads (At os found) s (in_type ty) (Last os found) (list.type_of ty s)
  unfolding list.type_of
  type_reads os ty s = whole_reads os found (out-Specifiers ty).qualifiers (base_type (out-Specifiers ty).pos (out-Specifiers ty).base) _ s (base_reads os (out-Specifiers ty).pos (out-Specifiers ty).base s)

  pub objects_reads : (os : List Open) (ty : Specifiers) (s : Typer) → Reads (At os found) s (in_object ty) (Last os found) (list.object_type ty s)
  unfolding list.object_type
  objects_reads os ty s =
      object_type_reads os (out-Specifiers ty).pos (out-Specifiers ty).qualifiers (base_type (out-Specifiers ty).pos (out-Specifiers ty).base) _ s (base_reads os (out-Specifiers ty).pos (out-Specifiers ty).base s)

  pub dimensions_reads : (os : List Open) (ty : Ty) (bs : List Bound) (s : Typer) → Reads (At (Group ty [] ∷ os) found) s (flat_map in_bound bs) (λ dims. At (Group ty dims ∷ os) found) (list.bounds bs [] s)
  dimensions_reads os ty bs s =
      all_parts (λ dims. At (Group ty dims ∷ os) found) list.bound in_bound
      (λ b dims s. let x = (out-Bound b).size in then_here _ (expr_reads (Group ty dims ∷ os) x s)
      (ends_to (dimension_reads os found x ty dims (value (expr x s)) (state (expr x s)) (known_there x s)) (λ n u. quiet_gives) (λ n u m h. h))) bs [] s
