-- What expressions and types promise of the program that the walk ends in.
use Rattle.std.proofs.Common.{◌≡◌, ℕ, zero, suc, ◌+◌, ◌≤◌, Bool, true, false, List, [], ◌∷◌, ◌++◌, length, refl, arith, Option, Some, None}
use Rattle.sa_base.specs.declared.pos.Pos.{Pos}
use Rattle.sa_syntax.specs.declared.decl.Base as base
use Rattle.sa_syntax.specs.declared.decl.Bound.{Bound, out-Bound}
use Rattle.sa_syntax.specs.declared.decl.Declr.{Declr, out-Declr, Declr', Row_of-Bound, more_of-Bound, end_of-Bound}
use Rattle.sa_syntax.specs.declared.decl.Field.{Field as FieldGroup, out-Field, Field', Row_of-Declr, more_of-Declr, end_of-Declr}
use Rattle.sa_syntax.specs.declared.decl.Specifiers.{Specifiers, out-Specifiers}
use Rattle.sa_syntax.specs.declared.decl.Struct.{Struct, Struct', Row_of-Field, more_of-Field, end_of-Field}
use Rattle.sa_syntax.specs.declared.expr.Expr.{Expr, Number, Place', Bracket', Prefix', Cast', Chain', Choice', end_of-Expr, more_of-Expr, Row_of-Link, end_of-Link, more_of-Link, Row_of-Step, end_of-Step, more_of-Step, more_of-Specifiers, end_of-Specifiers}
use Rattle.sa_syntax.specs.declared.expr.Operator.{Operator}
use Rattle.sa_syntax.specs.declared.expr.Place.{Place, out-Place}
use Rattle.sa_syntax.specs.declared.expr.Step.{Step, Index', Field, Arrow}
use Rattle.sa_typed.specs.declared.program.Program.{Program}
use Rattle.sa_operands.specs.declared.operand.Left.{Left}
use Rattle.sa_operands.specs.declared.operand.Operand.{Operand}
use Rattle.sa_operands.specs.declared.operand.Spot.{Spot}
use Rattle.sa_scopes.specs.declared.structs.Fields.{Fields}
use Rattle.sa_scopes.specs.declared.types.Ty.{Ty}
use Rattle.sa_scopes.specs.declared.typer.Typer.{Typer}
use Rattle.sa_scopes.specs.First.{expr_pos}
use Rattle.sa_scopes.specs.Types.{num_of}
use Rattle.sa_operands.specs.Operands.{prefix_of, left_of}
use Rattle.sa_operands.specs.Definitions.{no_fields}
use Rattle.sa_operands.specs.Expressions.{expr, links, steps, step, base_type, structure, fields, field, declrs, declr, bounds, linking, bounding, beside_first}
use Rattle.sa_operands.specs.Lists as list
use Rattle.sa_scopes.specs.Typing.{Typed, Typing, Gives, and_then, pure}
use Rattle.sa_scopes.proofs.StructLaws.{FieldsBelow, fields_more}
use Rattle.sa_scopes.proofs.WalkLaws.{Ends, Later, element_more, Well, Leads, Any, gives, refuses, refusal, bind, next, from, free, so, either, unless, all_parts}
use Rattle.sa_operands.proofs.OperandLaws.{GoodOperand, GoodLeft, literal_good, beside_leads, prefixed_leads, cast_leads, left_good, linked_leads, chained_good, choice_leads}
use Rattle.sa_operands.proofs.PlaceLaws as place
use Rattle.sa_operands.proofs.PlaceLaws.{GoodSpot, begins_leads, index_leads, arrow_leads, operand_good}
use Rattle.sa_operands.proofs.TypeLaws.{GoodTy, GoodFields, qualifiers_leads, scalar_leads, tagged_leads, name_leads, whole_leads, object_leads, dimension_leads, field_leads, opened_leads, closed_leads}

module _ (p : Program) where
  first_leads : {n : _} {X : Type 0} (row : Row_of-Link n) (x : Expr) (s : Typer) → Leads p X s Any (beside_first row x s)
  first_leads end_of-Link x s = gives (λ w h e. tt)
  first_leads (more_of-Link op q y rest) x s = beside_leads p op x s

  no_fields_good : (s : Typer) → GoodFields no_fields s
  unfolding FieldsBelow
  no_fields_good s = tt

  pub linking_leads : (op : Operator) (q : Pos) (x : Expr) (m : Typing Operand) (l : Left) (s : Typer) → Leads p (GoodLeft p l) s (λ y t. GoodOperand p y) (m s) → Leads p (GoodLeft p l) s (λ l t. GoodLeft p l) (linking op q x m l s)
  linking_leads op q x m l s h = next h (λ i t. next (beside_leads p op x t) (λ a u. from (λ h. h.0) (linked_leads p op q l i u)))

  pub bounding_leads : {X : Type 0} (x : Expr) (m : Typing Operand) (found : List ℕ) (s : Typer) → Leads p X s (λ y t. GoodOperand p y) (m s) → Leads p X s Any (bounding x m found s)
  bounding_leads x m found s h = next h (λ i t. next (dimension_leads p (expr_pos x) i t) (λ n u. gives (λ w h e. tt)))

  mutual
    unfolding expr

    pub expr_leads : (x : Expr) (s : Typer) → Leads p (Unit {0}) s (λ y t. GoodOperand p y) (expr x s)
    expr_leads (Number v unsigned longs decimal q) s = gives (λ w h e. literal_good p v unsigned longs decimal)
    expr_leads (Place' b n row) s = next (next (begins_leads p b s) (λ l t. from (λ h. h.1) (steps_leads row l t))) (λ l t. gives (λ w h e. operand_good p l h.1))
    expr_leads (Bracket' q n (more_of-Expr x end_of-Expr)) s = expr_leads x s
    expr_leads (Prefix' op q n (more_of-Expr x end_of-Expr)) s = next (free (expr_leads x s)) (λ y t. from (λ h. h.1) (prefixed_leads p (prefix_of op) q y t))
    expr_leads (Cast' q m (more_of-Specifiers r qs b end_of-Specifiers) n (more_of-Expr x end_of-Expr)) s =
        next (qualifiers_leads p false true qs s) (λ a t. next (object_leads p r qs (base_type r b) t (free (base_leads r b t))) (λ ty u. next (free (expr_leads x u)) (λ y v. from (λ h. h.1) (cast_leads p q ty.element y v))))
    expr_leads (Chain' m (more_of-Expr x end_of-Expr) n row) s =
        next (free (expr_leads x s)) (λ first t. next (first_leads row x t) (λ a u. next (from (λ h. left_good p first h.0.1) (links_leads row (left_of first) u)) (λ l v. gives (λ w h e. chained_good p l h.1))))
    expr_leads (Choice' l (more_of-Expr x end_of-Expr) q m (more_of-Expr y end_of-Expr) n (more_of-Expr z end_of-Expr)) s =
        next (free (expr_leads x s)) (λ c t. next (free (expr_leads y t)) (λ i u. next (free (expr_leads z u)) (λ j v. from (λ h. (h.0.0.1, (h.0.1, h.1))) (choice_leads p q c i j v))))

    pub links_leads : {n : _} (row : Row_of-Link n) (l : Left) (s : Typer) → Leads p (GoodLeft p l) s (λ l t. GoodLeft p l) (links row l s)
    links_leads end_of-Link l s = gives (λ w h e. h)
    links_leads (more_of-Link op q x rest) l s = next (linking_leads op q x (expr x) l s (free (expr_leads x s))) (λ l t. from (λ h. h.1) (links_leads rest l t))

    pub steps_leads : {n : _} (row : Row_of-Step n) (l : Spot) (s : Typer) → Leads p (GoodSpot p l) s (λ l t. GoodSpot p l) (steps row l s)
    steps_leads end_of-Step l s = gives (λ w h e. h)
    steps_leads (more_of-Step x rest) l s = next (step_leads x l s) (λ l t. from (λ h. h.1) (steps_leads rest l t))

    pub step_leads : (x : Step) (l : Spot) (s : Typer) → Leads p (GoodSpot p l) s (λ l t. GoodSpot p l) (step x l s)
    step_leads (Index' q n (more_of-Expr x end_of-Expr)) l s = next (free (expr_leads x s)) (λ i t. from (λ h. (h.1, h.0)) (index_leads p q i l t))
    step_leads (Field q x) l s = place.field_leads p q x l s
    step_leads (Arrow q x) l s = arrow_leads p q l s

    pub base_leads : (q : Pos) (b : base.Base) (s : Typer) → Leads p (Unit {0}) s GoodTy (base_type q b s)
    base_leads q (base.Scalar ws) s = scalar_leads p q (num_of ws) s
    base_leads q base.Void s = gives (λ w h e. tt)
    base_leads q (base.Tag x) s = tagged_leads p q x s
    base_leads q (base.Struct x) s = structure_leads x s
    base_leads q (base.Named x) s = name_leads p x s

    pub structure_leads : (x : Struct) (s : Typer) → Leads p (Unit {0}) s GoodTy (structure x s)
    structure_leads (Struct' tag n row) s =
        next (opened_leads p tag s) (λ i t. bind {Z = GoodFields} (from (λ h. no_fields_good t) (fields_leads row no_fields t)) (λ f u l x w y. y) (λ f u. closed_leads p tag i f u))

    pub fields_leads : {n : _} (row : Row_of-Field n) (f : Fields) (s : Typer) → Leads p (GoodFields f s) s GoodFields (fields row f s)
    fields_leads end_of-Field f s = gives (λ w h e. h)
    fields_leads (more_of-Field x rest) f s = bind {Z = GoodFields} (group_leads x f s) (λ f t l x w y. y) (λ f t. fields_leads rest f t)

    pub group_leads : (x : FieldGroup) (f : Fields) (s : Typer) → Leads p (GoodFields f s) s GoodFields (field x f s)
    group_leads (Field' q qs b n row) f s =
        bind {Z = λ a t. GoodFields f t} (qualifiers_leads p false false qs s) (λ a t l x w y. fields_more (length s.structs.defs) (length t.structs.defs) f.defs l.more x)
        (λ a t. bind {Z = λ ty u. GoodTy ty u × GoodFields f u} (object_leads p q qs (base_type q b) t (free (base_leads q b t)))
        (λ ty u l x w y. (y, fields_more (length t.structs.defs) (length u.structs.defs) f.defs l.more x)) (λ ty u. declrs_leads ty row f u))

    pub declrs_leads : {n : _} (ty : Ty) (row : Row_of-Declr n) (f : Fields) (s : Typer) → Leads p (GoodTy ty s × GoodFields f s) s GoodFields (declrs ty row f s)
    declrs_leads ty end_of-Declr f s = gives (λ w h e. h.1)
    declrs_leads ty (more_of-Declr x rest) f s =
        bind {Z = λ f t. GoodTy ty t × GoodFields f t} (declr_leads ty x f s) (λ f t l x w y. (element_more (length s.structs.defs) (length t.structs.defs) ty.element l.more x.0, y)) (λ f t. declrs_leads ty rest f t)

    pub declr_leads : (ty : Ty) (x : Declr) (f : Fields) (s : Typer) → Leads p (GoodTy ty s × GoodFields f s) s GoodFields (declr ty x f s)
    declr_leads ty (Declr' x n row) f s =
        bind {Z = λ dims t. GoodTy ty t × GoodFields f t} (free (bounds_leads row [] s))
        (λ dims t l x w y. (element_more (length s.structs.defs) (length t.structs.defs) ty.element l.more x.0, fields_more (length s.structs.defs) (length t.structs.defs) f.defs l.more x.1))
        (λ dims t. field_leads p x ty dims f t)

    pub bounds_leads : {n : _} (row : Row_of-Bound n) (found : List ℕ) (s : Typer) → Leads p (Unit {0}) s Any (bounds row found s)
    bounds_leads end_of-Bound found s = gives (λ w h e. tt)
    bounds_leads (more_of-Bound q x rest) found s = next (bounding_leads x (expr x) found s (expr_leads x s)) (λ found t. free (bounds_leads rest found t))

  -- ---- lists of parts
  pub spot_leads : {X : Type 0} (x : Place) (s : Typer) → Leads p X s (λ l t. GoodSpot p l) (list.spot x s)
  unfolding list.spot
  spot_leads x s = next (begins_leads p (out-Place x).base s) (λ l t. from (λ h. (tt, h.1)) (all_parts p (Unit {0}) (λ l t. GoodSpot p l) step (λ l s t m h. h) (λ x l s. from (λ h. h.1) (step_leads x l s)) (out-Place x).steps l t))

  pub type_leads : {X : Type 0} (ty : Specifiers) (s : Typer) → Leads p X s GoodTy (list.type_of ty s)
  unfolding list.type_of
  type_leads ty s = whole_leads p (out-Specifiers ty).qualifiers (base_type (out-Specifiers ty).pos (out-Specifiers ty).base) s (free (base_leads (out-Specifiers ty).pos (out-Specifiers ty).base s))

  pub object_type_leads : {X : Type 0} (ty : Specifiers) (s : Typer) → Leads p X s GoodTy (list.object_type ty s)
  unfolding list.object_type
  object_type_leads ty s =
      object_leads p (out-Specifiers ty).pos (out-Specifiers ty).qualifiers (base_type (out-Specifiers ty).pos (out-Specifiers ty).base) s (free (base_leads (out-Specifiers ty).pos (out-Specifiers ty).base s))

  pub all_bounds_leads : {X : Type 0} (bs : List Bound) (s : Typer) → Leads p X s Any (list.bounds bs [] s)
  all_bounds_leads bs s =
      from (λ x. (tt, tt)) (all_parts p (Unit {0}) Any list.bound (λ a s t m h. tt) (λ b found s. bounding_leads (out-Bound b).size (expr (out-Bound b).size) found s (free (expr_leads (out-Bound b).size s))) bs [] s)
