-- An expression and a type declare no names.
use Rattle.std.proofs.Common.{◌≡◌, ℕ, Bool, true, false, List, [], ◌∷◌, refl, ◌∙◌, Option, Some, None}
use Rattle.std.specs.Prelude.{ℤ, unsigned_abs, if◌then◌else◌}
use Rattle.sa_base.specs.declared.num.Num.{Num}
use Rattle.sa_base.specs.declared.pos.Pos.{Pos}
use Rattle.sa_syntax.specs.declared.decl.Base as base
use Rattle.sa_syntax.specs.declared.decl.Declr.{Declr, Declr', Row_of-Bound, more_of-Bound, end_of-Bound}
use Rattle.sa_syntax.specs.declared.decl.Field.{Field as FieldGroup, Field', Row_of-Declr, more_of-Declr, end_of-Declr}
use Rattle.sa_syntax.specs.declared.decl.Name.{Name}
use Rattle.sa_syntax.specs.declared.decl.Qualified.{Qualified}
use Rattle.sa_syntax.specs.declared.decl.Struct.{Struct, Struct', Row_of-Field, more_of-Field, end_of-Field}
use Rattle.sa_syntax.specs.declared.expr.Expr.{Expr, Number, Place', Bracket', Prefix', Cast', Chain', Choice', end_of-Expr, more_of-Expr, Row_of-Link, end_of-Link, more_of-Link, Row_of-Step, end_of-Step, more_of-Step, more_of-Specifiers, end_of-Specifiers}
use Rattle.sa_syntax.specs.declared.expr.PlaceBase.{PlaceBase}
use Rattle.sa_syntax.specs.declared.expr.PlaceBase.TheVariants as place
use Rattle.sa_syntax.specs.declared.expr.Step.{Step, Index', Field, Arrow}
use Rattle.sa_scopes.specs.declared.constant.Value.{Value}
use Rattle.sa_scopes.specs.declared.constant.Value.TheVariants as v
use Rattle.sa_operands.specs.declared.operand.Left.{Left}
use Rattle.sa_operands.specs.declared.operand.Operand.{Operand}
use Rattle.sa_operands.specs.declared.operand.Spot.{Spot}
use Rattle.sa_scopes.specs.declared.structs.Fields.{Fields}
use Rattle.sa_scopes.specs.declared.typer.Typer.{Typer}
use Rattle.sa_scopes.specs.declared.types.Element.{Element}
use Rattle.sa_scopes.specs.declared.types.Element.TheVariants as el
use Rattle.sa_scopes.specs.declared.types.Named as named
use Rattle.sa_scopes.specs.declared.types.Named.TheVariants as n
use Rattle.sa_scopes.specs.declared.types.Tagged.{Tagged}
use Rattle.sa_scopes.specs.declared.types.Tagged.TheVariants as t
use Rattle.sa_scopes.specs.declared.types.Ty.{Ty}
use Rattle.sa_operands.specs.Definitions as def
use Rattle.sa_operands.specs.Definitions.{no_fields}
use Rattle.sa_operands.specs.Expressions.{expr, links, steps, step, base_type, structure, fields, field, declrs, declr, bounds, beside_first}
use Rattle.sa_scopes.specs.First.{expr_pos}
use Rattle.sa_operands.specs.Operands.{prefix_of, left_of, known_value}
use Rattle.sa_scopes.specs.declared.form.Form.{Form}
use Rattle.sa_scopes.specs.declared.form.Form.TheVariants as form
use Rattle.sa_scopes.specs.declared.structs.Member.{Member}
use Rattle.sa_scopes.specs.Structures.{member_of}
use Rattle.sa_operands.specs.Places as places
use Rattle.sa_operands.specs.Places.{root_by, pointed_by, begins, to_member, field_of, form_at}
use Rattle.sa_scopes.specs.Scopes.{meaning_of, is_visible, with_name, count}
use Rattle.sa_scopes.specs.Types.{num_of, qualifier, qualifiers, is_misplaced, scalar, defined, tagged, type_name, not_void, object}
use Rattle.sa_scopes.specs.Typing.{Typed, Typing, Gives, and_then, each, pure, refuse, refused, refuse_if, ◌>>◌}
use Rattle.sa_scopes.specs.Values.{constant}
use Rattle.sa_rules.proofs.Walks.{state, Quiet}
use Rattle.sa_rules.proofs.QuietParts.{no_object_quiet, beside_quiet, prefixed_quiet, cast_quiet, linked_quiet, choice_quiet, index_quiet, arrow_quiet}

pub record Keeps (s : Typer) {A : Type 0} (t : Typed A) : Type 0 where
  pub names : (state t).names ≡ s.names

kept : {A : Type 0} {s : Typer} {a : A} → Keeps s (Gives a s)
kept = record { names = refl }

kept_refused : {A : Type 0} {s : Typer} {a : A} (k : ℕ) (q : Pos) → Keeps s (Gives a (refused k q s))
unfolding refused
kept_refused k q = record { names = refl }

still : {A : Type 0} {s : Typer} {t : Typed A} → Quiet s t → Keeps s t
still q = record { names = q.names }

pub kept_then : {A B : Type 0} {s : Typer} {t : Typed A} {f : A → Typing B} → Keeps s t → ((a : A) (u : Typer) → Keeps u (f a u)) → Keeps s (and_then t f)
kept_then {t = Gives a u} m go = record { names = (go a u).names ∙ m.names }

kept_unless : {s : Typer} (b : Bool) (k : ℕ) (q : Pos) → Keeps s (refuse_if b k q s)
kept_unless true k q = kept_refused k q
kept_unless false k q = kept

kept_by : {A : Type 0} {s : Typer} (b : Bool) {t u : Typed A} → Keeps s t → Keeps s u → Keeps s (if b then t else u)
kept_by true a b = a
kept_by false a b = b

-- ---- steps
root_kept : (p : Pos) (o : Option named.Named) (s : Typer) → Keeps s (root_by p o s)
root_kept p None s = kept_refused 1 p
root_kept p (Some (n.Variable k)) s = kept
root_kept p (Some (n.Input k num)) s = kept
root_kept p (Some (n.Alias ty)) s = kept_refused 5 p
root_kept p (Some n.Function) s = kept_refused 5 p

pointed_kept : (star p : Pos) (o : Option named.Named) (s : Typer) → Keeps s (pointed_by star p o s)
pointed_kept star p None s = kept_refused 1 p
pointed_kept star p (Some m) s = kept_refused 5 star

pub begins_kept : (b : PlaceBase) (s : Typer) → Keeps s (begins b s)
unfolding begins
begins_kept (place.Name x) s = kept_then (root_kept x.pos (meaning_of s.names x.text) s) (λ r u. kept)
begins_kept (place.Through p star x) s = kept_then (pointed_kept star x.pos (meaning_of s.names x.text) s) (λ r u. kept)
begins_kept (place.Star star x) s = kept_then (pointed_kept star x.pos (meaning_of s.names x.text) s) (λ r u. kept)

pub scalar_kept : (p : Pos) (o : Option Num) (s : Typer) → Keeps s (scalar p o s)
scalar_kept p None s = kept_refused 3 p
scalar_kept p (Some num) s = kept

defined_kept : (p : Pos) (o : Option Tagged) (s : Typer) → Keeps s (defined p o s)
defined_kept p None s = kept_refused 3 p
defined_kept p (Some t.Open) s = kept_refused 3 p
defined_kept p (Some (t.Struct k)) s = kept

pub tagged_kept : (p : Pos) (x : Name) (s : Typer) → Keeps s (tagged p x s)
unfolding tagged
tagged_kept p x s = defined_kept p (meaning_of s.tags x.text) s

type_name_kept : (x : Name) (s : Typer) → Keeps s (type_name x s)
unfolding type_name
type_name_kept x s = kept

pub not_void_by : (p : Pos) (e : Element) (c : Bool) (s : Typer) → Keeps s (not_void p (record { element = e; constant = c }) s)
not_void_by p el.Void c s = kept_refused 3 p
not_void_by p (el.Scalar num) c s = kept
not_void_by p (el.Struct k) c s = kept
not_void_by p el.Unknown c s = kept

object_kept : (p : Pos) (qs : List Qualified) (b : Typing Ty) (s : Typer) → Keeps s (b s) → Keeps s (object p qs b s)
object_kept p qs b s h = kept_then (kept_then h (λ ty t. kept)) (λ ty t. not_void_by p ty.element ty.constant t)

pub qualifiers_kept : (volatile static : Bool) (qs : List Qualified) (s : Typer) → Keeps s (qualifiers volatile static qs s)
unfolding qualifiers each
qualifiers_kept volatile static qs s = all_kept qs tt s where
  all_kept : (qs : List Qualified) (u : Unit {0}) (s : Typer) → Keeps s (each (qualifier volatile static) qs u s)
  all_kept [] u s = kept
  all_kept (q ∷ qs) u s = kept_then (kept_unless (is_misplaced volatile static q.word) 21 q.pos) (λ v t. all_kept qs v t)

pub opened_kept : (tag : Option Name) (s : Typer) → Keeps s (def.opened tag s)
unfolding def.opened
opened_kept None s = kept
opened_kept (Some x) s = kept_by (is_visible s.tags x.text) {u = Gives (Some (count s.tags)) (record s { tags = with_name s.tags x.text t.Open })} (kept_refused 2 x.pos) (record { names = refl })

pub closed_kept : (tag : Option Name) (i : Option ℕ) (f : Fields) (s : Typer) → Keeps s (def.closed tag i f s)
unfolding def.closed
closed_kept tag i f s = record { names = refl }

member_kept : (x : Name) (ty : Ty) (dims : List ℕ) (f : Fields) (s : Typer) → Keeps s (def.field x ty dims f s)
unfolding def.field
member_kept x ty dims f s = kept_by (def.is_taken s f x.text) (kept_refused 2 x.pos) kept

pub first_kept : {n : _} (row : Row_of-Link n) (x : Expr) (s : Typer) → Keeps s (beside_first row x s)
first_kept end_of-Link x s = kept
first_kept (more_of-Link op q y rest) x s = still (beside_quiet op x s)

to_member_kept : (p : Pos) (o : Option Member) (l : Spot) (s : Typer) → Keeps s (to_member p o l s)
to_member_kept p None l s = kept_refused 4 p
to_member_kept p (Some m) l s = kept

field_of_kept : (p : Pos) (x : Name) (o : Option Form) (l : Spot) (s : Typer) → Keeps s (field_of p x o l s)
field_of_kept p x None l s = kept
field_of_kept p x (Some (form.Struct k)) l s = to_member_kept x.pos (member_of s.structs k x.text) l s
field_of_kept p x (Some (form.Scalar num)) l s = kept_refused 5 p
field_of_kept p x (Some (form.Array count)) l s = kept_refused 5 p

field_kept : (p : Pos) (x : Name) (l : Spot) (s : Typer) → Keeps s (places.field p x l s)
unfolding places.field
field_kept p x l s = field_of_kept p x (form_at l) l s

constant_kept : (p : Pos) (w : Value) (s : Typer) → Keeps s (constant p w s)
constant_kept p v.Varies s = kept_refused 18 p
constant_kept p (v.Errs num) s = kept_refused 18 p
constant_kept p v.Unknown s = kept
constant_kept p (v.Is c) s = kept

dimension_by_kept : (p : Pos) (o : Option ℤ) (s : Typer) → Keeps s (def.dimension_by p o s)
dimension_by_kept p None s = kept
dimension_by_kept p (Some z) s = by_size (def.is_dimension z) where
  by_size : (b : Bool) → Keeps s ((if b then pure (unsigned_abs z) else (refuse 19 p >> pure 1)) s)
  by_size true = kept
  by_size false = kept_refused 19 p

dimension_kept : (p : Pos) (x : Operand) (s : Typer) → Keeps s (def.dimension p x s)
unfolding def.dimension
dimension_kept p x s = kept_then (still (no_object_quiet x s)) (λ a t. kept_then (constant_kept p (known_value x) t) (λ o u. dimension_by_kept p o u))

mutual
  unfolding expr

  pub expr_kept : (x : Expr) (s : Typer) → Keeps s (expr x s)
  expr_kept (Number v unsigned longs decimal q) s = kept
  expr_kept (Place' b n row) s = kept_then (kept_then (begins_kept b s) (λ l t. steps_kept row l t)) (λ l t. kept)
  expr_kept (Bracket' q n (more_of-Expr x end_of-Expr)) s = expr_kept x s
  expr_kept (Prefix' op q n (more_of-Expr x end_of-Expr)) s = kept_then (expr_kept x s) (λ y t. still (prefixed_quiet (prefix_of op) q y t))
  expr_kept (Cast' q m (more_of-Specifiers r qs b end_of-Specifiers) n (more_of-Expr x end_of-Expr)) s =
      kept_then (qualifiers_kept false true qs s) (λ a t. kept_then (object_kept r qs (base_type r b) t (base_kept r b t)) (λ ty u. kept_then (expr_kept x u) (λ y v. still (cast_quiet q ty.element y v))))
  expr_kept (Chain' m (more_of-Expr x end_of-Expr) n row) s =
      kept_then (expr_kept x s) (λ first t. kept_then (first_kept row x t) (λ a u. kept_then (links_kept row (left_of first) u) (λ l v. kept)))
  expr_kept (Choice' l (more_of-Expr x end_of-Expr) q m (more_of-Expr y end_of-Expr) n (more_of-Expr z end_of-Expr)) s =
      kept_then (expr_kept x s) (λ c t. kept_then (expr_kept y t) (λ i u. kept_then (expr_kept z u) (λ j v. still (choice_quiet q c i j v))))

  pub links_kept : {n : _} (row : Row_of-Link n) (l : Left) (s : Typer) → Keeps s (links row l s)
  links_kept end_of-Link l s = kept
  links_kept (more_of-Link op q x rest) l s =
      kept_then (kept_then (expr_kept x s) (λ i t. kept_then (still (beside_quiet op x t)) (λ a u. still (linked_quiet op q l i u)))) (λ l t. links_kept rest l t)

  pub steps_kept : {n : _} (row : Row_of-Step n) (l : Spot) (s : Typer) → Keeps s (steps row l s)
  steps_kept end_of-Step l s = kept
  steps_kept (more_of-Step x rest) l s = kept_then (step_kept x l s) (λ l t. steps_kept rest l t)

  step_kept : (x : Step) (l : Spot) (s : Typer) → Keeps s (step x l s)
  step_kept (Index' q n (more_of-Expr x end_of-Expr)) l s = kept_then (expr_kept x s) (λ i t. still (index_quiet q i l t))
  step_kept (Field q x) l s = field_kept q x l s
  step_kept (Arrow q x) l s = still (arrow_quiet q l s)

  pub base_kept : (q : Pos) (b : base.Base) (s : Typer) → Keeps s (base_type q b s)
  base_kept q (base.Scalar ws) s = scalar_kept q (num_of ws) s
  base_kept q base.Void s = kept
  base_kept q (base.Tag x) s = tagged_kept q x s
  base_kept q (base.Struct x) s = structure_kept x s
  base_kept q (base.Named x) s = type_name_kept x s

  structure_kept : (x : Struct) (s : Typer) → Keeps s (structure x s)
  structure_kept (Struct' tag n row) s = kept_then (opened_kept tag s) (λ i t. kept_then (fields_kept row no_fields t) (λ f u. closed_kept tag i f u))

  pub fields_kept : {n : _} (row : Row_of-Field n) (f : Fields) (s : Typer) → Keeps s (fields row f s)
  fields_kept end_of-Field f s = kept
  fields_kept (more_of-Field x rest) f s = kept_then (group_kept x f s) (λ f t. fields_kept rest f t)

  group_kept : (x : FieldGroup) (f : Fields) (s : Typer) → Keeps s (field x f s)
  group_kept (Field' q qs b n row) f s =
      kept_then (qualifiers_kept false false qs s) (λ a t. kept_then (object_kept q qs (base_type q b) t (base_kept q b t)) (λ ty u. declrs_kept ty row f u))

  declrs_kept : {n : _} (ty : Ty) (row : Row_of-Declr n) (f : Fields) (s : Typer) → Keeps s (declrs ty row f s)
  declrs_kept ty end_of-Declr f s = kept
  declrs_kept ty (more_of-Declr x rest) f s = kept_then (declr_kept ty x f s) (λ f t. declrs_kept ty rest f t)

  declr_kept : (ty : Ty) (x : Declr) (f : Fields) (s : Typer) → Keeps s (declr ty x f s)
  declr_kept ty (Declr' x n row) f s = kept_then (bounds_kept row [] s) (λ dims t. member_kept x ty dims f t)

  bounds_kept : {n : _} (row : Row_of-Bound n) (dims : List ℕ) (s : Typer) → Keeps s (bounds row dims s)
  bounds_kept end_of-Bound dims s = kept
  bounds_kept (more_of-Bound q x rest) dims s =
      kept_then (kept_then (expr_kept x s) (λ i t. kept_then (dimension_kept (expr_pos x) i t) (λ n u. kept))) (λ dims t. bounds_kept rest dims t)
