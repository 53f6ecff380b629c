-- What expressions, places and types may refuse.
use Rattle.std.proofs.Common.{ℕ, true, false, List, [], ◌∷◌, ◌++◌}
use Rattle.std.specs.List.{flat_map}
use Rattle.sa_base.specs.declared.pos.Pos.{Pos}
use Rattle.sa_syntax.specs.declared.decl.Base as base
use Rattle.sa_syntax.specs.declared.decl.Bound.{Bound, out-Bound}
use Rattle.sa_syntax.specs.declared.decl.Declr.{Declr, Declr', Row_of-Bound, more_of-Bound, end_of-Bound}
use Rattle.sa_syntax.specs.declared.decl.Field.{Field as FieldGroup, Field', Row_of-Declr, more_of-Declr, end_of-Declr}
use Rattle.sa_syntax.specs.declared.decl.Qualified.{Qualified}
use Rattle.sa_syntax.specs.declared.decl.Specifiers.{Specifiers, out-Specifiers}
use Rattle.sa_syntax.specs.declared.decl.Struct.{Struct, Struct', Row_of-Field, more_of-Field, end_of-Field}
use Rattle.sa_syntax.specs.declared.expr.Expr.{Expr, Number, Place', Bracket', Prefix', Cast', Chain', Choice', end_of-Expr, more_of-Expr, Row_of-Link, end_of-Link, more_of-Link, Row_of-Step, end_of-Step, more_of-Step, more_of-Specifiers, end_of-Specifiers}
use Rattle.sa_syntax.specs.declared.expr.Place.{Place, out-Place}
use Rattle.sa_syntax.specs.declared.expr.Step.{Step, Index', Field, Arrow}
use Rattle.sa_operands.specs.declared.operand.Left.{Left}
use Rattle.sa_operands.specs.declared.operand.Spot.{Spot}
use Rattle.sa_scopes.specs.declared.structs.Fields.{Fields}
use Rattle.sa_scopes.specs.declared.typer.Typer.{Typer}
use Rattle.sa_scopes.specs.declared.types.Ty.{Ty}
use Rattle.sa_operands.specs.Definitions.{no_fields}
use Rattle.sa_operands.specs.Expressions.{expr, links, steps, step, base_type, structure, fields, field, declrs, declr, bounds, beside_first}
use Rattle.sa_scopes.specs.First.{expr_pos}
use Rattle.sa_operands.specs.Lists as list
use Rattle.sa_operands.specs.Operands.{prefix_of, left_of}
use Rattle.sa_scopes.specs.Types.{num_of, object, whole}
use Rattle.sa_scopes.specs.Typing.{Typing}
use Rattle.sa_rules.specs.Sites.{of_begin, of_expr, of_links, of_steps, of_step, of_base, of_struct, of_fields, of_field, of_declrs, of_declr, of_bounds, of_bound, of_place, of_specifiers}
use Rattle.sa_rules.proofs.SiteWalks.{Adds, Sub, sub_left, sub_right, sub_head, sub_rest, adds_none, adds_then, adds_here, adds_all}
use Rattle.sa_rules.proofs.Walks.{state, value}
use Rattle.sa_rules.proofs.SiteOperands.{expr_operands}
use Rattle.sa_rules.proofs.SiteParts.{dimension_adds, beside_adds, prefixed_adds, cast_adds, linked_adds, choice_adds, begins_adds, index_adds, field_adds, arrow_adds, scalar_adds, tagged_adds, type_name_adds, not_void_adds, qualifiers_adds, opened_adds, closed_adds, member_name_adds}

module _ (P : Pos → Type 0) where
  first_adds : {n : _} (row : Row_of-Link n) (x : Expr) (s : Typer) → Adds P s (beside_first row x s)
  first_adds end_of-Link x s = adds_none P
  first_adds (more_of-Link op q y rest) x s = beside_adds P op x s

  whole_adds : (qs : List Qualified) (b : Typing Ty) (s : Typer) → Adds P s (b s) → Adds P s (whole qs b s)
  whole_adds qs b s h = adds_then P h (λ ty t. adds_none P)

  object_adds : (p : Pos) (qs : List Qualified) (b : Typing Ty) (s : Typer) → Adds P s (b s) → Adds P s (object p qs b s)
  object_adds p qs b s h = adds_then P (whole_adds qs b s h) (λ ty t. not_void_adds P p ty t)

  mutual
    unfolding expr of_expr

    pub expr_adds : (x : Expr) (s : Typer) → Sub P (of_expr x) → Adds P s (expr x s)
    expr_adds (Number v unsigned longs decimal q) s h = adds_none P
    expr_adds (Place' b n row) s h = adds_then P (adds_then P (begins_adds P b s (sub_left (of_begin b) (of_steps row) h)) (λ l t. steps_adds row l t (sub_right (of_begin b) (of_steps row) h))) (λ l t. adds_none P)
    expr_adds (Bracket' q n (more_of-Expr x end_of-Expr)) s h = expr_adds x s h
    expr_adds (Prefix' op q n (more_of-Expr x end_of-Expr)) s h = adds_then P (expr_adds x s (sub_rest q (of_expr x) h)) (λ y t. prefixed_adds P (prefix_of op) q y t (sub_head q (of_expr x) h))
    expr_adds (Cast' q m (more_of-Specifiers r qs b end_of-Specifiers) n (more_of-Expr x end_of-Expr)) s h =
        let inner = sub_rest q (of_base b ++ of_expr x) h in
        adds_then P (qualifiers_adds P false true qs s) (λ a t. adds_then P (object_adds r qs (base_type r b) t (base_adds r b t (sub_left (of_base b) (of_expr x) inner)))
        (λ ty u. adds_then P (expr_adds x u (sub_right (of_base b) (of_expr x) inner)) (λ y v. cast_adds P q ty.element y v (sub_head q (of_base b ++ of_expr x) h))))
    expr_adds (Chain' m (more_of-Expr x end_of-Expr) n row) s h =
        adds_then P (expr_adds x s (sub_left (of_expr x) (of_links row) h)) (λ first t. adds_then P (first_adds row x t)
        (λ a u. adds_then P (links_adds row (left_of first) u (sub_right (of_expr x) (of_links row) h)) (λ l v. adds_none P)))
    expr_adds (Choice' l (more_of-Expr x end_of-Expr) q m (more_of-Expr y end_of-Expr) n (more_of-Expr z end_of-Expr)) s h =
        let parts = sub_rest q (of_expr x ++ (of_expr y ++ of_expr z)) h in
        let ends = sub_right (of_expr x) (of_expr y ++ of_expr z) parts in
        adds_then P (expr_adds x s (sub_left (of_expr x) (of_expr y ++ of_expr z) parts)) (λ c t. adds_then P (expr_adds y t (sub_left (of_expr y) (of_expr z) ends))
        (λ i u. adds_then P (expr_adds z u (sub_right (of_expr y) (of_expr z) ends)) (λ j v. choice_adds P q c i j v (sub_head q (of_expr x ++ (of_expr y ++ of_expr z)) h))))

    links_adds : {n : _} (row : Row_of-Link n) (l : Left) (s : Typer) → Sub P (of_links row) → Adds P s (links row l s)
    links_adds end_of-Link l s h = adds_none P
    links_adds (more_of-Link op q x rest) l s h =
        let here = sub_left (q ∷ of_expr x) (of_links rest) h in
        adds_then P (adds_then P (expr_adds x s (sub_rest q (of_expr x) here)) (λ i t. adds_then P (beside_adds P op x t) (λ a u. linked_adds P op q l i u (sub_head q (of_expr x) here))))
        (λ l t. links_adds rest l t (sub_right (q ∷ of_expr x) (of_links rest) h))

    steps_adds : {n : _} (row : Row_of-Step n) (l : Spot) (s : Typer) → Sub P (of_steps row) → Adds P s (steps row l s)
    steps_adds end_of-Step l s h = adds_none P
    steps_adds (more_of-Step x rest) l s h = adds_then P (step_adds x l s (sub_left (of_step x) (of_steps rest) h)) (λ l t. steps_adds rest l t (sub_right (of_step x) (of_steps rest) h))

    pub step_adds : (x : Step) (l : Spot) (s : Typer) → Sub P (of_step x) → Adds P s (step x l s)
    step_adds (Index' q n (more_of-Expr x end_of-Expr)) l s h = adds_then P (expr_adds x s (sub_rest q (of_expr x) h)) (λ i t. index_adds P q i l t (sub_head q (of_expr x) h))
    step_adds (Field q x) l s h = field_adds P q x l s (sub_head q [] h)
    step_adds (Arrow q x) l s h = arrow_adds P q l s (sub_head q [] h)

    pub base_adds : (q : Pos) (b : base.Base) (s : Typer) → Sub P (of_base b) → Adds P s (base_type q b s)
    base_adds q (base.Scalar ws) s h = scalar_adds P q (num_of ws) s
    base_adds q base.Void s h = adds_none P
    base_adds q (base.Tag x) s h = tagged_adds P q x s
    base_adds q (base.Struct x) s h = structure_adds x s h
    base_adds q (base.Named x) s h = type_name_adds P x s

    pub structure_adds : (x : Struct) (s : Typer) → Sub P (of_struct x) → Adds P s (structure x s)
    structure_adds (Struct' tag n row) s h = adds_then P (opened_adds P tag s) (λ i t. adds_then P (fields_adds row no_fields t h) (λ f u. closed_adds P tag i f u))

    fields_adds : {n : _} (row : Row_of-Field n) (f : Fields) (s : Typer) → Sub P (of_fields row) → Adds P s (fields row f s)
    fields_adds end_of-Field f s h = adds_none P
    fields_adds (more_of-Field x rest) f s h = adds_then P (group_adds x f s (sub_left (of_field x) (of_fields rest) h)) (λ f t. fields_adds rest f t (sub_right (of_field x) (of_fields rest) h))

    group_adds : (x : FieldGroup) (f : Fields) (s : Typer) → Sub P (of_field x) → Adds P s (field x f s)
    group_adds (Field' q qs b n row) f s h =
        adds_then P (qualifiers_adds P false false qs s) (λ a t. adds_then P (object_adds q qs (base_type q b) t (base_adds q b t (sub_left (of_base b) (of_declrs row) h)))
        (λ ty u. declrs_adds ty row f u (sub_right (of_base b) (of_declrs row) h)))

    declrs_adds : {n : _} (ty : Ty) (row : Row_of-Declr n) (f : Fields) (s : Typer) → Sub P (of_declrs row) → Adds P s (declrs ty row f s)
    declrs_adds ty end_of-Declr f s h = adds_none P
    declrs_adds ty (more_of-Declr x rest) f s h = adds_then P (declr_adds ty x f s (sub_left (of_declr x) (of_declrs rest) h)) (λ f t. declrs_adds ty rest f t (sub_right (of_declr x) (of_declrs rest) h))

    declr_adds : (ty : Ty) (x : Declr) (f : Fields) (s : Typer) → Sub P (of_declr x) → Adds P s (declr ty x f s)
    declr_adds ty (Declr' x n row) f s h = adds_then P (bounds_adds row [] s h) (λ dims t. member_name_adds P x ty dims f t)

    bounds_adds : {n : _} (row : Row_of-Bound n) (dims : List ℕ) (s : Typer) → Sub P (of_bounds row) → Adds P s (bounds row dims s)
    bounds_adds end_of-Bound dims s h = adds_none P
    bounds_adds (more_of-Bound q x rest) dims s h =
        let here = sub_left (of_expr x) (of_bounds rest) h in
        adds_then P (adds_here P _ (expr_adds x s here) (adds_then P (dimension_adds P (expr_pos x) (value (expr x s)) (state (expr x s)) (expr_operands P x s here).operands) (λ n u. adds_none P)))
        (λ dims t. bounds_adds rest dims t (sub_right (of_expr x) (of_bounds rest) h))

  -- ---- lists of parts
  pub spot_adds : (x : Place) (s : Typer) → Sub P (of_place x) → Adds P s (list.spot x s)
  unfolding list.spot
  spot_adds x s h =
      let b = of_begin (out-Place x).base in
      let ys = flat_map of_step (out-Place x).steps in
      adds_then P (begins_adds P (out-Place x).base s (sub_left b ys h)) (λ l t. adds_all P step of_step (λ y l s k. step_adds y l s k) (out-Place x).steps l t (sub_right b ys h))

  pub type_adds : (ty : Specifiers) (s : Typer) → Sub P (of_specifiers ty) → Adds P s (list.type_of ty s)
  unfolding list.type_of
  type_adds ty s h = whole_adds (out-Specifiers ty).qualifiers (base_type (out-Specifiers ty).pos (out-Specifiers ty).base) s (base_adds (out-Specifiers ty).pos (out-Specifiers ty).base s h)

  pub objects_adds : (ty : Specifiers) (s : Typer) → Sub P (of_specifiers ty) → Adds P s (list.object_type ty s)
  unfolding list.object_type
  objects_adds ty s h =
      object_adds (out-Specifiers ty).pos (out-Specifiers ty).qualifiers (base_type (out-Specifiers ty).pos (out-Specifiers ty).base) s (base_adds (out-Specifiers ty).pos (out-Specifiers ty).base s h)

  bound_adds : (b : Bound) (dims : List ℕ) (s : Typer) → Sub P (of_bound b) → Adds P s (list.bound b dims s)
  bound_adds b dims s h =
      let x = (out-Bound b).size in
      adds_here P _ (expr_adds x s h) (adds_then P (dimension_adds P (expr_pos x) (value (expr x s)) (state (expr x s)) (expr_operands P x s h).operands) (λ n u. adds_none P))

  pub dimensions_adds : (bs : List Bound) (s : Typer) → Sub P (flat_map of_bound bs) → Adds P s (list.bounds bs [] s)
  dimensions_adds bs s h = adds_all P list.bound of_bound bound_adds bs [] s h
