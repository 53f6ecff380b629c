-- What stands at a place is refused at the name that the place begins with.
use Rattle.std.proofs.Common.{◌≡◌, ℕ, [], refl, Option, Some, None}
use Rattle.std.specs.Prelude.{slice_get}
use Rattle.sa_base.specs.declared.pos.Pos.{Pos}
use Rattle.sa_syntax.specs.declared.decl.Name.{Name}
use Rattle.sa_syntax.specs.declared.expr.Expr as tree
use Rattle.sa_syntax.specs.declared.expr.Expr.{Number, Place', Bracket', Prefix', Cast', Chain', Choice', end_of-Expr, more_of-Expr, Row_of-Step, end_of-Step, more_of-Step, more_of-Specifiers, end_of-Specifiers}
use Rattle.sa_syntax.specs.declared.expr.PlaceBase.{PlaceBase}
use Rattle.sa_syntax.specs.declared.expr.PlaceBase.TheVariants as base
use Rattle.sa_syntax.specs.declared.expr.Step.{Step, Index', Field, Arrow}
use Rattle.sa_typed.specs.declared.expr.Expr.{Expr}
use Rattle.sa_typed.specs.declared.program.Var.{Var}
use Rattle.sa_typed.specs.declared.shape.Shape.{Shape}
use Rattle.sa_scopes.specs.declared.form.Form.{Form}
use Rattle.sa_scopes.specs.declared.form.Form.TheVariants as form
use Rattle.sa_scopes.specs.declared.structs.Member.{Member}
use Rattle.sa_scopes.specs.declared.typer.Typer.{Typer}
use Rattle.sa_scopes.specs.declared.types.Named as named
use Rattle.sa_scopes.specs.declared.types.Named.TheVariants as n
use Rattle.sa_operands.specs.declared.operand.Operand.{Operand}
use Rattle.sa_operands.specs.declared.operand.Operand.TheVariants as a
use Rattle.sa_operands.specs.declared.operand.Spot.{Spot}
use Rattle.sa_operands.specs.Expressions.{expr, steps, step}
use Rattle.sa_operands.specs.Operands.{is_object, sort_of, expr_or}
use Rattle.sa_operands.specs.Places.{root_by, pointed_by, begun, begins, variable_at, spot_of, index, indexed_with, element_of, field, field_of, to_member, arrow, is_known, form_at, operand, operand_by}
use Rattle.sa_scopes.specs.Forms.{form_inside}
use Rattle.sa_scopes.specs.Scopes.{meaning_of}
use Rattle.sa_scopes.specs.Structures.{member_of}
use Rattle.sa_scopes.specs.Typing.{Typed, Typing, Gives, and_then, refuse_if}
use Rattle.sa_rules.specs.Sites.{of_begin, of_expr, of_steps}
use Rattle.sa_rules.proofs.PlainParts.{IsPlain, Plain, number_plain, prefix_plain, conversion_plain, chain_plain, choice_plain}
use Rattle.sa_rules.proofs.SiteParts.{OperandAt}
use Rattle.sa_rules.proofs.SiteWalks.{Sub, sub_left, sub_head}
use Rattle.sa_rules.proofs.Walks.{value}

module _ (P : Pos → Type 0) where
  -- a place whose shape is known has such a name
  abbrev KnownAt : Option Shape → Pos → Type 0
  KnownAt None p = Unit {0}
  KnownAt (Some shape) p = P p

  abbrev SpotAt : Spot → Type 0
  SpotAt l = KnownAt l.shape l.name

  record Spots (t : Typed Spot) : Type 0 where
    pub spots : SpotAt (value t)

  spots_then : {A : Type 0} (t : Typed A) (f : A → Typing Spot) → ((x : A) (u : Typer) → Spots (f x u)) → Spots (and_then t f)
  spots_then (Gives x u) f h = record { spots = (h x u).spots }

  spots_after : {t : Typed Spot} (f : Spot → Typing Spot) → Spots t → ((l : Spot) (u : Typer) → SpotAt l → Spots (f l u)) → Spots (and_then t f)
  spots_after {t = Gives l u} f h go = record { spots = (go l u h.spots).spots }

  spots_give : {l : Spot} {s : Typer} → SpotAt l → Spots (Gives l s)
  spots_give h = record { spots = h }

  known_form : (o : Option Shape) (d : ℕ) (p : Pos) (f : Form) → form_inside o d ≡ Some f → KnownAt o p → P p
  known_form None d p f e h = cc
  known_form (Some shape) d p f e h = h

  -- ---- where a place begins
  variable_spots : (p : Pos) (k : ℕ) (o : Option Var) → P p → SpotAt (variable_at p k o)
  variable_spots p k None h = tt
  variable_spots p k (Some v) h = h

  root_spots : (p : Pos) (o : Option named.Named) (s : Typer) → P p → Spots (begun p (root_by p o) s)
  unfolding spot_of
  root_spots p None s h = spots_give tt
  root_spots p (Some (n.Variable k)) s h = spots_give (variable_spots p k (slice_get s.vars k) h)
  root_spots p (Some (n.Input k num)) s h = spots_give h
  root_spots p (Some (n.Alias ty)) s h = spots_give tt
  root_spots p (Some n.Function) s h = spots_give tt

  pointed_spots : (star p : Pos) (o : Option named.Named) (s : Typer) → Spots (begun p (pointed_by star p o) s)
  unfolding spot_of
  pointed_spots star p None s = spots_give tt
  pointed_spots star p (Some m) s = spots_give tt

  begins_spots : (b : PlaceBase) (s : Typer) → Sub P (of_begin b) → Spots (begins b s)
  unfolding begins
  begins_spots (base.Name x) s h = root_spots x.pos (meaning_of s.names x.text) s (sub_head x.pos [] h)
  begins_spots (base.Through p star x) s h = pointed_spots star x.pos (meaning_of s.names x.text) s
  begins_spots (base.Star star x) s h = pointed_spots star x.pos (meaning_of s.names x.text) s

  -- ---- steps
  element_spots : (p : Pos) (i : Expr) (o : Option Form) (l : Spot) (s : Typer) → SpotAt l → Spots (element_of p i o l s)
  element_spots p i None l s h = spots_give tt
  element_spots p i (Some (form.Array count)) l s h = spots_give h
  element_spots p i (Some (form.Scalar num)) l s h = spots_give tt
  element_spots p i (Some (form.Struct k)) l s h = spots_give tt

  index_spots : (p : Pos) (i : Operand) (l : Spot) (s : Typer) → SpotAt l → Spots (index p i l s)
  unfolding index
  index_spots p i l s h = spots_then (refuse_if (is_object (sort_of i)) 5 p s) _ (λ x t. element_spots p (expr_or i) (form_at l) (indexed_with i l) t h)

  member_spots : (p : Pos) (o : Option Member) (l : Spot) (s : Typer) → P l.name → Spots (to_member p o l s)
  member_spots p None l s h = spots_give tt
  member_spots p (Some m) l s h = spots_give h

  field_of_spots : (p : Pos) (x : Name) (o : Option Form) (l : Spot) (s : Typer) → form_at l ≡ o → SpotAt l → Spots (field_of p x o l s)
  field_of_spots p x None l s e h = spots_give tt
  field_of_spots p x (Some (form.Struct k)) l s e h = member_spots x.pos (member_of s.structs k x.text) l s (known_form l.shape l.depth l.name (form.Struct k) e h)
  field_of_spots p x (Some (form.Scalar num)) l s e h = spots_give tt
  field_of_spots p x (Some (form.Array count)) l s e h = spots_give tt

  field_spots : (p : Pos) (x : Name) (l : Spot) (s : Typer) → SpotAt l → Spots (field p x l s)
  unfolding field
  field_spots p x l s h = field_of_spots p x (form_at l) l s refl h

  arrow_spots : (p : Pos) (l : Spot) (s : Typer) → Spots (arrow p l s)
  unfolding arrow
  arrow_spots p l s = spots_then (refuse_if (is_known l.shape) 5 p s) _ (λ x t. spots_give tt)

  step_spots : (x : Step) (l : Spot) (s : Typer) → SpotAt l → Spots (step x l s)
  unfolding step
  step_spots (Index' q m (more_of-Expr x end_of-Expr)) l s h = spots_then (expr x s) _ (λ i t. index_spots q i l t h)
  step_spots (Field q x) l s h = field_spots q x l s h
  step_spots (Arrow q x) l s h = arrow_spots q l s

  steps_spots : {m : _} (row : Row_of-Step m) (l : Spot) (s : Typer) → SpotAt l → Spots (steps row l s)
  unfolding steps
  steps_spots end_of-Step l s h = spots_give h
  steps_spots (more_of-Step x rest) l s h = spots_after _ (step_spots x l s h) (λ l t k. steps_spots rest l t k)

  -- ---- operands
  pub record Operands (t : Typed Operand) : Type 0 where
    pub operands : OperandAt P (value t)

  operand_at : (l : Spot) (o : Option Form) → form_at l ≡ o → SpotAt l → OperandAt P (operand_by l o)
  operand_at l None e h = tt
  operand_at l (Some (form.Scalar num)) e h = tt
  operand_at l (Some (form.Struct k)) e h = known_form l.shape l.depth l.name (form.Struct k) e h
  operand_at l (Some (form.Array count)) e h = known_form l.shape l.depth l.name (form.Array count) e h

  place_operands : {t : Typed Spot} → Spots t → Operands (and_then t (λ l s. Gives (operand l) s))
  unfolding operand
  place_operands {t = Gives l s} h = record { operands = operand_at l (form_at l) refl h.spots }

  plain_at : (i : Operand) → IsPlain i → OperandAt P i
  plain_at (a.Number e num v) h = tt
  plain_at (a.Struct x k fixed p) h = absurd h
  plain_at (a.Array p) h = absurd h
  plain_at a.Unknown h = tt

  plain_operands : {t : Typed Operand} → Plain t → Operands t
  plain_operands {t = t} h = record { operands = plain_at (value t) h.plain }

  pub expr_operands : (x : tree.Expr) (s : Typer) → Sub P (of_expr x) → Operands (expr x s)
  unfolding expr of_expr
  expr_operands (Number v unsigned longs decimal p) s h = plain_operands (number_plain v unsigned longs decimal p s)
  expr_operands (Place' b m row) s h = place_operands (spots_after _ (begins_spots b s (sub_left (of_begin b) (of_steps row) h)) (λ l t k. steps_spots row l t k))
  expr_operands (Bracket' p m (more_of-Expr y end_of-Expr)) s h = expr_operands y s h
  expr_operands (Prefix' o p m (more_of-Expr y end_of-Expr)) s h = plain_operands (prefix_plain o p m y s)
  expr_operands (Cast' p k (more_of-Specifiers r qs b end_of-Specifiers) m (more_of-Expr y end_of-Expr)) s h = plain_operands (conversion_plain p k r qs b m y s)
  expr_operands (Chain' k (more_of-Expr y end_of-Expr) m row) s h = plain_operands (chain_plain k y m row s)
  expr_operands (Choice' o (more_of-Expr y end_of-Expr) p k (more_of-Expr z end_of-Expr) m (more_of-Expr w end_of-Expr)) s h = plain_operands (choice_plain o y p k z m w s)
