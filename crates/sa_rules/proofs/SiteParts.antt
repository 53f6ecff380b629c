-- What the helpers of typing may refuse.
use Rattle.std.proofs.Common.{◌≡◌, ℕ, Bool, true, List, [], refl, inl, Option, Some, None}
use Rattle.std.specs.Prelude.{ℤ, ◌||◌}
use Rattle.sa_base.specs.declared.num.Num.{Num}
use Rattle.sa_base.specs.declared.pos.Pos.{Pos}
use Rattle.sa_syntax.specs.declared.decl.Name.{Name}
use Rattle.sa_syntax.specs.declared.expr.Expr as tree
use Rattle.sa_syntax.specs.declared.expr.Operator as from
use Rattle.sa_typed.specs.declared.expr.Expr.{Expr}
use Rattle.sa_typed.specs.declared.expr.Prefix.{Prefix}
use Rattle.sa_scopes.specs.declared.constant.Value.{Value}
use Rattle.sa_scopes.specs.declared.constant.Value.TheVariants as v
use Rattle.sa_scopes.specs.declared.form.Form.{Form}
use Rattle.sa_scopes.specs.declared.form.Form.TheVariants as form
use Rattle.sa_operands.specs.declared.operand.Left.{Left}
use Rattle.sa_operands.specs.declared.operand.Operand.{Operand}
use Rattle.sa_operands.specs.declared.operand.Operand.TheVariants as a
use Rattle.sa_operands.specs.declared.operand.Sort.{Sort}
use Rattle.sa_operands.specs.declared.operand.Sort.TheVariants as sort
use Rattle.sa_operands.specs.declared.operand.Spot.{Spot}
use Rattle.sa_scopes.specs.declared.structs.Member.{Member}
use Rattle.sa_scopes.specs.declared.typer.Typer.{Typer}
use Rattle.sa_scopes.specs.declared.types.Element.{Element}
use Rattle.sa_scopes.specs.declared.types.Element.TheVariants as el
use Rattle.sa_operands.specs.Definitions.{is_dimension, dimension_by, dimension}
use Rattle.sa_operands.specs.Operands.{no_object, with_threshold, beside, is_comparison, by_itself, prefixed, no_number, cast, cast_to, miscast, linked, choice, sort_of, is_object, known_value, expr_or}
use Rattle.sa_operands.specs.Places.{index, element_of, field, field_of, to_member, arrow, is_known, form_at, indexed_with}
use Rattle.sa_scopes.specs.Structures.{member_of}
use Rattle.sa_scopes.specs.Values.{constant}
use Rattle.sa_syntax.specs.declared.expr.PlaceBase.{PlaceBase}
use Rattle.sa_syntax.specs.declared.expr.PlaceBase.TheVariants as base
use Rattle.sa_syntax.specs.declared.decl.Qualified.{Qualified}
use Rattle.sa_typed.specs.Arithmetic.{is_of}
use Rattle.sa_typed.specs.declared.expr.Access.{Access}
use Rattle.sa_typed.specs.declared.expr.Operator.{Operator}
use Rattle.sa_typed.specs.declared.program.Home.{Home}
use Rattle.sa_typed.specs.declared.shape.Shape.{Shape}
use Rattle.sa_scopes.specs.declared.structs.Fields.{Fields}
use Rattle.sa_scopes.specs.declared.types.Named as named
use Rattle.sa_scopes.specs.declared.types.Named.TheVariants as n
use Rattle.sa_scopes.specs.declared.types.Tagged.{Tagged}
use Rattle.sa_scopes.specs.declared.types.Tagged.TheVariants as t
use Rattle.sa_scopes.specs.declared.types.Ty.{Ty}
use Rattle.sa_declarations.specs.Declarations as decl
use Rattle.sa_declarations.specs.Declarations.{variable, input, begun_with}
use Rattle.sa_operands.specs.Definitions as def
use Rattle.sa_declarations.specs.Initialisers.{item, within, valued}
use Rattle.sa_operands.specs.Places.{root_by, pointed_by, begins}
use Rattle.sa_scopes.specs.Scopes.{meaning_of, is_visible}
use Rattle.sa_typer.specs.Statements.{to_number, to_struct, to_form, assigned, compounded_number, compounded_by, compounded, sort_by}
use Rattle.sa_scopes.specs.Types.{qualifier, qualifiers, is_misplaced, scalar, defined, tagged, type_name, not_void}
use Rattle.sa_operands.specs.Places.{access}
use Rattle.sa_rules.specs.Sites.{of_begin}
use Rattle.sa_rules.proofs.SiteWalks.{Adds, Sub, sub_head, adds_none, adds_refusal, adds_other, adds_then, adds_unless, other_unless, adds_if, adds_by, adds_each}

module _ (P : Pos → Type 0) where
  -- an operand that no operator takes is refused at its name
  abbrev pub OperandAt : Operand → Type 0
  OperandAt (a.Struct x k fixed p) = P p
  OperandAt (a.Array p) = P p
  OperandAt _ = Unit {0}

  -- ---- constants
  constant_adds : (p : Pos) (x : Value) (s : Typer) → Adds P s (constant p x s)
  constant_adds p v.Varies s = adds_other P 18 p refl
  constant_adds p (v.Errs num) s = adds_other P 18 p refl
  constant_adds p v.Unknown s = adds_none P
  constant_adds p (v.Is c) s = adds_none P

  no_object_adds : (x : Operand) (s : Typer) → OperandAt x → Adds P s (no_object x s)
  no_object_adds (a.Number e num x) s h = adds_none P
  no_object_adds (a.Struct x k fixed p) s h = adds_refusal P p h
  no_object_adds (a.Array p) s h = adds_refusal P p h
  no_object_adds a.Unknown s h = adds_none P

  dimension_by_adds : (p : Pos) (o : Option ℤ) (s : Typer) → Adds P s (dimension_by p o s)
  dimension_by_adds p None s = adds_none P
  dimension_by_adds p (Some z) s = adds_if P (is_dimension z) _ _ (adds_none P) (adds_other P 19 p refl)

  pub dimension_adds : (p : Pos) (x : Operand) (s : Typer) → OperandAt x → Adds P s (dimension p x s)
  unfolding dimension
  dimension_adds p x s h =
      adds_then P (no_object_adds x s h) (λ a t. adds_then P (constant_adds p (known_value x) t) (λ o u. dimension_by_adds p o u))

  within_adds : (p : Pos) (num : Num) (o : Option ℤ) (s : Typer) → Adds P s (within p num o s)
  within_adds p num None s = adds_none P
  within_adds p num (Some z) s = adds_if P (is_of num z) _ _ (adds_none P) (adds_other P 20 p refl)

  item_adds : (p : Pos) (num : Num) (x : Operand) (s : Typer) → OperandAt x → Adds P s (item p num x s)
  unfolding item
  item_adds p num x s h = adds_then P (no_object_adds x s h) (λ a t. adds_then P (constant_adds p (known_value x) t) (λ o u. within_adds p num o u))

  pub valued_adds : (p : Pos) (f : Form) (x : Operand) (zs : List ℤ) (s : Typer) → OperandAt x → Adds P s (valued p f x zs s)
  valued_adds p (form.Scalar num) x zs s h =
      adds_then P (item_adds p num x s h) (λ z t. adds_none P)
  valued_adds p (form.Struct k) x zs s h = adds_other P 20 p refl
  valued_adds p (form.Array m) x zs s h = adds_other P 20 p refl

  pub begun_with_adds : (p q : Pos) (f : Form) (x : Operand) (s : Typer) → P p → Adds P s (begun_with p q f x s)
  begun_with_adds p q (form.Scalar num) x s h = adds_then P (adds_unless P (is_object (sort_of x)) p h) (λ a t. adds_none P)
  begun_with_adds p q (form.Struct k) x s h = adds_other P 20 q refl
  begun_with_adds p q (form.Array m) x s h = adds_other P 20 q refl

  -- ---- operators
  threshold_adds : (o : Option ℕ) (s : Typer) → Adds P s (with_threshold o s)
  threshold_adds None s = adds_none P
  threshold_adds (Some x) s = record { new = λ f h. inl h }

  pub beside_adds : (op : from.Operator) (x : tree.Expr) (s : Typer) → Adds P s (beside op x s)
  unfolding beside
  beside_adds op x s = adds_if P (is_comparison op) _ _ (threshold_adds (by_itself true x) s) (adds_none P)

  no_number_adds : (p : Pos) (x : Sort) (s : Typer) → P p → Adds P s (no_number p x s)
  no_number_adds p x s h = adds_then P (adds_unless P (is_object x) p h) (λ a t. adds_none P)

  pub prefixed_adds : (op : Prefix) (p : Pos) (x : Operand) (s : Typer) → P p → Adds P s (prefixed op p x s)
  prefixed_adds op p (a.Number e num x) s h = adds_none P
  prefixed_adds op p (a.Struct x k fixed q) s h = no_number_adds p sort.Object s h
  prefixed_adds op p (a.Array q) s h = no_number_adds p sort.Object s h
  prefixed_adds op p a.Unknown s h = no_number_adds p sort.Unknown s h

  cast_to_adds : (p : Pos) (num : Num) (x : Operand) (s : Typer) → P p → Adds P s (cast_to p num x s)
  cast_to_adds p num (a.Number e from x) s h = adds_none P
  cast_to_adds p num (a.Struct x k fixed q) s h = no_number_adds p sort.Object s h
  cast_to_adds p num (a.Array q) s h = no_number_adds p sort.Object s h
  cast_to_adds p num a.Unknown s h = no_number_adds p sort.Unknown s h

  miscast_adds : (p : Pos) (x : Operand) (s : Typer) → P p → Adds P s (miscast p x s)
  miscast_adds p (a.Number e from x) s h = adds_none P
  miscast_adds p (a.Struct x k fixed q) s h = no_number_adds p sort.Object s h
  miscast_adds p (a.Array q) s h = no_number_adds p sort.Object s h
  miscast_adds p a.Unknown s h = no_number_adds p sort.Unknown s h

  pub cast_adds : (p : Pos) (e : Element) (x : Operand) (s : Typer) → P p → Adds P s (cast p e x s)
  unfolding cast
  cast_adds p (el.Scalar num) x s h = cast_to_adds p num x s h
  cast_adds p (el.Struct k) x s h = adds_then P {A = Unit {0}} (adds_refusal P {a = tt} p h) (λ b t. miscast_adds p x t h)
  cast_adds p el.Void x s h = miscast_adds p x s h
  cast_adds p el.Unknown x s h = miscast_adds p x s h

  linked_number_adds : (op : from.Operator) (p : Pos) (l : Left) (e : Expr) (num : Num) (x : Value) (k : Sort) (s : Typer) → l.sort ≡ k → P p → Adds P s (linked op p l (a.Number e num x) s)
  unfolding linked
  linked_number_adds op p l e num x (sort.Number before) s e1 h = rw e1 (adds_none P)
  linked_number_adds op p l e num x sort.Object s e1 h = rw e1 (adds_refusal P p h)
  linked_number_adds op p l e num x sort.Unknown s e1 h = rw e1 (adds_none P)

  pub linked_adds : (op : from.Operator) (p : Pos) (l : Left) (x : Operand) (s : Typer) → P p → Adds P s (linked op p l x s)
  unfolding linked
  linked_adds op p l (a.Number e num x) s h = linked_number_adds op p l e num x l.sort s refl h
  linked_adds op p l (a.Struct x k fixed q) s h = adds_refusal P p h
  linked_adds op p l (a.Array q) s h = adds_refusal P p h
  linked_adds op p l a.Unknown s h = adds_then P (adds_unless P (is_object l.sort) p h) (λ b t. adds_none P)

  pub choice_adds : (p : Pos) (c x y : Operand) (s : Typer) → P p → Adds P s (choice p c x y s)
  unfolding choice
  choice_adds p c x y s h = adds_then P (adds_unless P (is_object (sort_of c) || is_object (sort_of x) || is_object (sort_of y)) p h) (λ b t. adds_none P)

  -- ---- places
  root_adds : (p : Pos) (o : Option named.Named) (s : Typer) → P p → Adds P s (root_by p o s)
  root_adds p None s h = adds_other P 1 p refl
  root_adds p (Some (n.Variable k)) s h = adds_none P
  root_adds p (Some (n.Input k num)) s h = adds_none P
  root_adds p (Some (n.Alias ty)) s h = adds_refusal P p h
  root_adds p (Some n.Function) s h = adds_refusal P p h

  pointed_adds : (star p : Pos) (o : Option named.Named) (s : Typer) → P star → Adds P s (pointed_by star p o s)
  pointed_adds star p None s h = adds_other P 1 p refl
  pointed_adds star p (Some m) s h = adds_refusal P star h

  pub begins_adds : (b : PlaceBase) (s : Typer) → Sub P (of_begin b) → Adds P s (begins b s)
  unfolding begins
  begins_adds (base.Name x) s h = adds_then P (root_adds x.pos (meaning_of s.names x.text) s (sub_head x.pos [] h)) (λ r u. adds_none P)
  begins_adds (base.Through p star x) s h = adds_then P (pointed_adds star x.pos (meaning_of s.names x.text) s (sub_head star [] h)) (λ r u. adds_none P)
  begins_adds (base.Star star x) s h = adds_then P (pointed_adds star x.pos (meaning_of s.names x.text) s (sub_head star [] h)) (λ r u. adds_none P)

  element_adds : (p : Pos) (i : Expr) (o : Option Form) (l : Spot) (s : Typer) → P p → Adds P s (element_of p i o l s)
  element_adds p i None l s h = adds_none P
  element_adds p i (Some (form.Array count)) l s h = adds_none P
  element_adds p i (Some (form.Scalar num)) l s h = adds_refusal P p h
  element_adds p i (Some (form.Struct k)) l s h = adds_refusal P p h

  pub index_adds : (p : Pos) (i : Operand) (l : Spot) (s : Typer) → P p → Adds P s (index p i l s)
  unfolding index
  index_adds p i l s h = adds_then P (adds_unless P (is_object (sort_of i)) p h) (λ a t. element_adds p (expr_or i) (form_at l) (indexed_with i l) t h)

  member_adds : (p : Pos) (o : Option Member) (l : Spot) (s : Typer) → Adds P s (to_member p o l s)
  member_adds p None l s = adds_other P 4 p refl
  member_adds p (Some m) l s = adds_none P

  field_of_adds : (p : Pos) (x : Name) (o : Option Form) (l : Spot) (s : Typer) → P p → Adds P s (field_of p x o l s)
  field_of_adds p x None l s h = adds_none P
  field_of_adds p x (Some (form.Struct k)) l s h = member_adds x.pos (member_of s.structs k x.text) l s
  field_of_adds p x (Some (form.Scalar num)) l s h = adds_refusal P p h
  field_of_adds p x (Some (form.Array count)) l s h = adds_refusal P p h

  pub field_adds : (p : Pos) (x : Name) (l : Spot) (s : Typer) → P p → Adds P s (field p x l s)
  unfolding field
  field_adds p x l s h = field_of_adds p x (form_at l) l s h

  pub arrow_adds : (p : Pos) (l : Spot) (s : Typer) → P p → Adds P s (arrow p l s)
  unfolding arrow
  arrow_adds p l s h = adds_then P (adds_unless P (is_known l.shape) p h) (λ a t. adds_none P)

  -- ---- types
  pub scalar_adds : (p : Pos) (o : Option Num) (s : Typer) → Adds P s (scalar p o s)
  scalar_adds p None s = adds_other P 3 p refl
  scalar_adds p (Some num) s = adds_none P

  defined_adds : (p : Pos) (o : Option Tagged) (s : Typer) → Adds P s (defined p o s)
  defined_adds p None s = adds_other P 3 p refl
  defined_adds p (Some t.Open) s = adds_other P 3 p refl
  defined_adds p (Some (t.Struct k)) s = adds_none P

  pub tagged_adds : (p : Pos) (x : Name) (s : Typer) → Adds P s (tagged p x s)
  unfolding tagged
  tagged_adds p x s = defined_adds p (meaning_of s.tags x.text) s

  pub type_name_adds : (x : Name) (s : Typer) → Adds P s (type_name x s)
  unfolding type_name
  type_name_adds x s = adds_none P

  not_void_by : (p : Pos) (e : Element) (c : Bool) (s : Typer) → Adds P s (not_void p (record { element = e; constant = c }) s)
  not_void_by p el.Void c s = adds_other P 3 p refl
  not_void_by p (el.Scalar num) c s = adds_none P
  not_void_by p (el.Struct k) c s = adds_none P
  not_void_by p el.Unknown c s = adds_none P

  pub not_void_adds : (p : Pos) (ty : Ty) (s : Typer) → Adds P s (not_void p ty s)
  not_void_adds p ty s = not_void_by p ty.element ty.constant s

  pub qualifiers_adds : (volatile static : Bool) (qs : List Qualified) (s : Typer) → Adds P s (qualifiers volatile static qs s)
  unfolding qualifiers
  qualifiers_adds volatile static qs s = adds_each P (qualifier volatile static) (λ q u s. other_unless P (is_misplaced volatile static q.word) 21 q.pos refl) qs tt s

  -- ---- declarations
  pub opened_adds : (tag : Option Name) (s : Typer) → Adds P s (def.opened tag s)
  unfolding def.opened
  opened_adds None s = adds_none P
  opened_adds (Some x) s = adds_by P (is_visible s.tags x.text) (adds_other P 2 x.pos refl) (record { new = λ f h. inl h })

  pub closed_adds : (tag : Option Name) (i : Option ℕ) (f : Fields) (s : Typer) → Adds P s (def.closed tag i f s)
  unfolding def.closed
  closed_adds tag i f s = record { new = λ g h. inl h }

  pub member_name_adds : (x : Name) (ty : Ty) (dims : List ℕ) (f : Fields) (s : Typer) → Adds P s (def.field x ty dims f s)
  unfolding def.field
  member_name_adds x ty dims f s = adds_by P (def.is_taken s f x.text) (adds_other P 2 x.pos refl) (adds_none P)

  pub named_adds : (x : Name) (m : named.Named) (s : Typer) → Adds P s (decl.named x m s)
  unfolding decl.named
  named_adds x m s = adds_by P (is_visible s.names x.text) (adds_other P 2 x.pos refl) (record { new = λ f h. inl h })

  pub variable_adds : (x : Name) (shape : Shape) (home : Home) (constant : Bool) (zs : List ℤ) (s : Typer) → Adds P s (variable x shape home constant zs s)
  unfolding variable
  variable_adds x shape home constant zs s = adds_then P (adds_then P (named_adds x _ s) (λ u t. record { new = λ f h. inl h })) (λ u t. adds_none P)

  pub input_adds : (x : Name) (num : Num) (s : Typer) → Adds P s (input x num s)
  unfolding input
  input_adds x num s = adds_then P (named_adds x _ s) (λ u t. record { new = λ f h. inl h })

  -- ---- assignments
  to_number_adds : (y : Access) (num : Num) (p : Pos) (i : Operand) (s : Typer) → P p → Adds P s (to_number y num p i s)
  to_number_adds y num p (a.Number e from v) s h = adds_none P
  to_number_adds y num p (a.Struct z k fixed q) s h = adds_refusal P p h
  to_number_adds y num p (a.Array q) s h = adds_refusal P p h
  to_number_adds y num p a.Unknown s h = adds_none P

  to_struct_adds : (y : Access) (fixed : Bool) (k : ℕ) (p : Pos) (i : Operand) (s : Typer) → P p → Adds P s (to_struct y fixed k p i s)
  to_struct_adds y fixed k p (a.Number e from v) s h = adds_refusal P p h
  to_struct_adds y fixed k p (a.Struct z j g q) s h = adds_then P (other_unless P _ 7 p refl) (λ b t. adds_none P)
  to_struct_adds y fixed k p (a.Array q) s h = adds_refusal P p h
  to_struct_adds y fixed k p a.Unknown s h = adds_none P

  to_form_adds : (l : Spot) (o : Option Form) (p : Pos) (i : Operand) (s : Typer) → P p → Adds P s (to_form l o p i s)
  to_form_adds l None p i s h = adds_none P
  to_form_adds l (Some (form.Scalar num)) p i s h = to_number_adds (access l) num p i s h
  to_form_adds l (Some (form.Struct k)) p i s h = to_struct_adds (access l) l.fixed k p i s h
  to_form_adds l (Some (form.Array m)) p i s h = adds_refusal P p h

  pub assigned_adds : (l : Spot) (p : Pos) (i : Operand) (s : Typer) → P p → Adds P s (assigned l p i s)
  unfolding assigned
  assigned_adds l p i s h = to_form_adds l (form_at l) p i s h

  compounded_number_adds : (y : Access) (o : Operator) (p : Pos) (k : Sort) (e : Expr) (num : Num) (s : Typer) → P p → Adds P s (compounded_number y o p k e num s)
  compounded_number_adds y o p (sort.Number to) e num s h = adds_none P
  compounded_number_adds y o p sort.Object e num s h = adds_refusal P p h
  compounded_number_adds y o p sort.Unknown e num s h = adds_none P

  compounded_by_adds : (y : Access) (o : Operator) (p : Pos) (k : Sort) (i : Operand) (s : Typer) → P p → Adds P s (compounded_by y o p k i s)
  compounded_by_adds y o p k (a.Number e num v) s h = compounded_number_adds y o p k e num s h
  compounded_by_adds y o p k (a.Struct z j fixed q) s h = adds_refusal P p h
  compounded_by_adds y o p k (a.Array q) s h = adds_refusal P p h
  compounded_by_adds y o p k a.Unknown s h = adds_then P (adds_unless P (is_object k) p h) (λ b t. adds_none P)

  pub compounded_adds : (l : Spot) (o : Operator) (p : Pos) (i : Operand) (s : Typer) → P p → Adds P s (compounded l o p i s)
  unfolding compounded
  compounded_adds l o p i s h = compounded_by_adds (access l) o p (sort_by (form_at l)) i s h
