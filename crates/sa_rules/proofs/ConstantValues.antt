-- The value that typing knows of an expression is the one that it has by the visible names.
use Rattle.std.proofs.Common.{◌≡◌, ℕ, Bool, true, false, List, refl, sym, ap, subst, ◌∙◌, Option, Some, None}
use Rattle.std.specs.Prelude.{option_map, if◌then◌else◌, ◌&&◌, ◌||◌}
use Rattle.sa_base.specs.declared.num.Num.{Num}
use Rattle.sa_base.specs.declared.pos.Pos.{Pos}
use Rattle.sa_syntax.specs.declared.decl.Base as base
use Rattle.sa_syntax.specs.declared.decl.Qualified.{Qualified}
use Rattle.sa_syntax.specs.declared.decl.Name.{Name}
use Rattle.sa_syntax.specs.declared.decl.Struct.{Struct, Struct'}
use Rattle.sa_syntax.specs.declared.expr.Expr as tree
use Rattle.sa_syntax.specs.declared.expr.Expr.{Number, Place', Bracket', Prefix', Cast', Chain', Choice', end_of-Expr, more_of-Expr, Row_of-Link, end_of-Link, more_of-Link, more_of-Specifiers, end_of-Specifiers}
use Rattle.sa_syntax.specs.declared.expr.Operator as from
use Rattle.sa_typed.specs.Arithmetic.{common, literal_type}
use Rattle.sa_typed.specs.declared.expr.Expr.{Expr}
use Rattle.sa_typed.specs.declared.expr.Link.{Link}
use Rattle.sa_typed.specs.declared.expr.Operator.{Operator}
use Rattle.sa_typed.specs.declared.expr.Prefix.{Prefix}
use Rattle.sa_scopes.specs.declared.constant.Value.{Value}
use Rattle.sa_scopes.specs.declared.constant.Value.TheVariants as v
use Rattle.sa_scopes.specs.declared.form.Form.{Form}
use Rattle.sa_scopes.specs.declared.form.Form.TheVariants as form
use Rattle.sa_operands.specs.declared.operand.Join.{Join}
use Rattle.sa_operands.specs.declared.operand.Join.TheVariants as join
use Rattle.sa_operands.specs.declared.operand.Left.{Left}
use Rattle.sa_operands.specs.declared.operand.Spot.{Spot}
use Rattle.sa_operands.specs.declared.operand.Operand.{Operand}
use Rattle.sa_operands.specs.declared.operand.Operand.TheVariants as a
use Rattle.sa_operands.specs.declared.operand.Sort.{Sort}
use Rattle.sa_operands.specs.declared.operand.Sort.TheVariants as sort
use Rattle.sa_scopes.specs.declared.typer.Typer.{Typer}
use Rattle.sa_scopes.specs.declared.types.Element.{Element}
use Rattle.sa_scopes.specs.declared.types.Element.TheVariants as el
use Rattle.sa_scopes.specs.declared.types.Named as named
use Rattle.sa_scopes.specs.declared.types.Named.TheVariants as n
use Rattle.sa_scopes.specs.declared.types.Tagged.{Tagged}
use Rattle.sa_scopes.specs.declared.types.Tagged.TheVariants as t
use Rattle.sa_operands.specs.Definitions as def
use Rattle.sa_operands.specs.Definitions.{no_fields}
use Rattle.sa_operands.specs.Expressions.{expr, links, base_type, structure}
use Rattle.sa_operands.specs.Operands.{known_value, literal, prefix_of, prefixed, cast, cast_to, miscast, sort_of, is_object, num_or, join_of, joined_value, left_of, some_left, mixed, links_of, ands_of, ors_of, with_link, with_and, with_or, joined, linked, chained, choice_in, choice}
use Rattle.sa_operands.specs.Places as place
use Rattle.sa_scopes.specs.Scopes.{Scope, meaning_of}
use Rattle.sa_scopes.specs.Types.{num_of, scalar, defined, tagged, type_name, alias, not_void, object}
use Rattle.sa_scopes.specs.Typing.{Typed, Typing, Gives, and_then, refuse_if}
use Rattle.sa_scopes.specs.Values.{literal_value, prefix_value, is_constant, operator_value, and_value, or_value, choice_value}
use Rattle.sa_scopes.specs.declared.types.Ty.{Ty}
use Rattle.sa_rules.specs.Scenes.{Meaning, named_type}
use Rattle.sa_rules.specs.Values.{number_of, cast_type, cast_as, value_of, chain_value}
use Rattle.sa_rules.proofs.KeptNames.{Keeps, qualifiers_kept, opened_kept, closed_kept, first_kept, begins_kept, steps_kept, fields_kept, scalar_kept, tagged_kept, not_void_by}
use Rattle.sa_rules.proofs.QuietParts.{beside_quiet, prefixed_quiet, cast_quiet, linked_quiet, choice_quiet}
use Rattle.sa_rules.proofs.Steps.{meaning_seen}
use Rattle.sa_rules.proofs.Walks.{meant, seen_as, state, value, Quiet}

-- ---- operands
prefixed_value : (op : Prefix) (p : Pos) (x : Operand) (s : Typer) → known_value (value (prefixed op p x s)) ≡ prefix_value op (known_value x)
prefixed_value op p (a.Number e num k) s = refl
prefixed_value op p (a.Struct x k fixed q) s = refl
prefixed_value op p (a.Array q) s = refl
prefixed_value op p a.Unknown s = refl

cast_to_value : (p : Pos) (num : Num) (x : Operand) (s : Typer) → known_value (value (cast_to p num x s)) ≡ cast_as (Some num) (known_value x)
cast_to_value p num (a.Number e from k) s = refl
cast_to_value p num (a.Struct x k fixed q) s = refl
cast_to_value p num (a.Array q) s = refl
cast_to_value p num a.Unknown s = refl

miscast_is : (p : Pos) (x : Operand) (s : Typer) → known_value (value (miscast p x s)) ≡ cast_as None (known_value x)
miscast_is p (a.Number e from k) s = refl
miscast_is p (a.Struct x k fixed q) s = refl
miscast_is p (a.Array q) s = refl
miscast_is p a.Unknown s = refl

cast_is : (p : Pos) (e : Element) (x : Operand) (s : Typer) → known_value (value (cast p e x s)) ≡ cast_as (number_of e) (known_value x)
unfolding cast
cast_is p (el.Scalar num) x s = cast_to_value p num x s
cast_is p (el.Struct k) x s = miscast_is p x _
cast_is p el.Void x s = miscast_is p x s
cast_is p el.Unknown x s = miscast_is p x s

literal_is : (k : ℕ) (unsigned : Bool) (longs : ℕ) (decimal : Bool) → known_value (literal k unsigned longs decimal) ≡ literal_value (literal_type k unsigned longs decimal) k
unfolding literal
literal_is k unsigned longs decimal = refl

operand_by_varies : (l : Spot) (o : Option Form) → known_value (place.operand_by l o) ≡ v.Varies
operand_by_varies l None = refl
operand_by_varies l (Some (form.Scalar num)) = refl
operand_by_varies l (Some (form.Struct k)) = refl
operand_by_varies l (Some (form.Array n)) = refl

place_varies : (l : Spot) → known_value (place.operand l) ≡ v.Varies
unfolding place.operand
place_varies l = operand_by_varies l (place.form_at l)

-- ---- chains
abbrev NoNumber : Sort → Value → Type 0
NoNumber (sort.Number num) w = Unit {0}
NoNumber _ w = w ≡ v.Varies

record Chained (l : Left) (w : Value) : Type 0 where
  is : l.value ≡ w
  varies : NoNumber l.sort w

left_chained : (x : Operand) (w : Value) → known_value x ≡ w → Chained (left_of x) w
left_chained (a.Number e num k) w h = record { is = h; varies = tt }
left_chained (a.Struct x k fixed q) w h = record { is = h; varies = sym h }
left_chained (a.Array q) w h = record { is = h; varies = sym h }
left_chained a.Unknown w h = record { is = h; varies = sym h }

by_varies : (j : Join) (w : Value) → joined_value j v.Varies w ≡ v.Varies
by_varies join.And w = refl
by_varies join.Or w = refl
by_varies (join.Link op) w = refl

no_more : (b : Bool) (w : Value) → (if b && false then w else v.Varies) ≡ v.Varies
no_more true w = refl
no_more false w = refl

to_varies : (j : Join) (w : Value) → joined_value j w v.Varies ≡ v.Varies
to_varies join.And w = no_more (is_constant w) _
to_varies join.Or w = no_more (is_constant w) _
to_varies (join.Link op) v.Varies = refl
to_varies (join.Link op) v.Unknown = refl
to_varies (join.Link op) (v.Errs num) = refl
to_varies (join.Link op) (v.Is c) = refl

some_chained : (w : Value) → w ≡ v.Varies → Chained some_left w
some_chained w h = record { is = sym h; varies = tt }

mixed_chained : (w z : Value) → w ≡ z → Chained (mixed w) z
mixed_chained w z h = record { is = h; varies = tt }

link_chained : (op : Operator) (p : Pos) (l : Left) (before : Num) (e : Expr) (num : Num) (w z : Value) (o : Option (List Link)) → w ≡ z → Chained (with_link op p l before e num w o) z
link_chained op p l before e num w z None h = mixed_chained w z h
link_chained op p l before e num w z (Some ls) h = record { is = h; varies = tt }

and_chained : (l : Left) (e : Expr) (w z : Value) (o : Option (List Expr)) → w ≡ z → Chained (with_and l e w o) z
and_chained l e w z None h = mixed_chained w z h
and_chained l e w z (Some es) h = record { is = h; varies = tt }

or_chained : (l : Left) (e : Expr) (w z : Value) (o : Option (List Expr)) → w ≡ z → Chained (with_or l e w o) z
or_chained l e w z None h = mixed_chained w z h
or_chained l e w z (Some es) h = record { is = h; varies = tt }

by_chained : (j : Join) (p : Pos) (l : Left) (before : Num) (e : Expr) (num : Num) (k w : Value) → l.value ≡ w → Chained (joined j p l before e num k) (joined_value j w k)
by_chained join.And p l before e num k w h = and_chained l e (and_value l.value k) (and_value w k) (ands_of l.rest) (ap (λ (x : Value). and_value x k) h)
by_chained join.Or p l before e num k w h = or_chained l e (or_value l.value k) (or_value w k) (ors_of l.rest) (ap (λ (x : Value). or_value x k) h)
by_chained (join.Link op) p l before e num k w h = link_chained op p l before e num (operator_value op l.value k) (operator_value op w k) (links_of l.rest) (ap (λ (x : Value). operator_value op x k) h)

-- ---- choices
choice_is : (p : Pos) (c x y : Operand) (s : Typer) → known_value (value (choice p c x y s)) ≡ choice_value (known_value c) (known_value x) (known_value y)
unfolding choice
choice_is p c x y s = given_last (refuse_if (is_object (sort_of c) || is_object (sort_of x) || is_object (sort_of y)) 5 p s) (choice_in (common (num_or x) (num_or y)) c x y)
  where
    given_last : (t : Typed (Unit {0})) (i : Operand) → known_value (value (and_then t (λ a s. Gives i s))) ≡ known_value i
    given_last (Gives a s) i = refl

number_chained : (op : from.Operator) (p : Pos) (l : Left) (e : Expr) (num : Num) (k w : Value) (z : Sort) (s : Typer) → l.sort ≡ z → l.value ≡ w → NoNumber z w →
    Chained (value (linked op p l (a.Number e num k) s)) (joined_value (join_of op) w k)
unfolding linked
number_chained op p l e num k w (sort.Number before) s h q r = rw h (by_chained (join_of op) p _ before e num k w q)
number_chained op p l e num k w sort.Object s h q r = rw h (some_chained _ (ap (λ (x : Value). joined_value (join_of op) x k) r ∙ by_varies (join_of op) k))
number_chained op p l e num k w sort.Unknown s h q r = rw h (some_chained _ (ap (λ (x : Value). joined_value (join_of op) x k) r ∙ by_varies (join_of op) k))

linked_chained : (op : from.Operator) (p : Pos) (l : Left) (x : Operand) (w : Value) (s : Typer) → Chained l w → Chained (value (linked op p l x s)) (joined_value (join_of op) w (known_value x))
unfolding linked
linked_chained op p l (a.Number e num k) w s c = number_chained op p l e num k w l.sort s refl c.is c.varies
linked_chained op p l (a.Struct x k fixed q) w s c = some_chained _ (to_varies (join_of op) w)
linked_chained op p l (a.Array q) w s c = some_chained _ (to_varies (join_of op) w)
linked_chained op p l a.Unknown w s c = unknown_chained op p l w s l.sort refl where
  unknown_chained : (op : from.Operator) (p : Pos) (l : Left) (w : Value) (s : Typer) (z : Sort) → l.sort ≡ z → Chained (value (linked op p l a.Unknown s)) (joined_value (join_of op) w v.Varies)
  unknown_chained op p l w s (sort.Number num) h = rw h (some_chained _ (to_varies (join_of op) w))
  unknown_chained op p l w s sort.Object h = rw h (some_chained _ (to_varies (join_of op) w))
  unknown_chained op p l w s sort.Unknown h = rw h (some_chained _ (to_varies (join_of op) w))

whole_by : (l : Left) (w : Value) (z : Sort) → l.sort ≡ z → l.value ≡ w → NoNumber z w → known_value (chained l) ≡ w
whole_by l w (sort.Number num) h q r = rw h q
whole_by l w sort.Object h q r = rw h (sym r)
whole_by l w sort.Unknown h q r = rw h (sym r)

whole_chain : (l : Left) (w : Value) → Chained l w → known_value (chained l) ≡ w
whole_chain l w c = whole_by l w l.sort refl c.is c.varies

-- ---- types
scalar_number : (p : Pos) (o : Option Num) (s : Typer) → number_of (value (scalar p o s)).element ≡ o
scalar_number p None s = refl
scalar_number p (Some num) s = refl

defined_number : (p : Pos) (o : Option Tagged) (s : Typer) → number_of (value (defined p o s)).element ≡ None
defined_number p None s = refl
defined_number p (Some t.Open) s = refl
defined_number p (Some (t.Struct k)) s = refl

tagged_number : (p : Pos) (x : Name) (s : Typer) → number_of (value (tagged p x s)).element ≡ None
unfolding tagged
tagged_number p x s = defined_number p (meaning_of s.tags x.text) s

alias_number : (o : Option named.Named) → alias o ≡ named_type (option_map meant o)
alias_number None = refl
alias_number (Some (n.Variable k)) = refl
alias_number (Some (n.Input k num)) = refl
alias_number (Some (n.Alias ty)) = refl
alias_number (Some n.Function) = refl

object_number : (p : Pos) (e : Element) (c : Bool) (s : Typer) → number_of (value (not_void p (record { element = e; constant = c }) s)).element ≡ number_of e
object_number p el.Void c s = refl
object_number p (el.Scalar num) c s = refl
object_number p (el.Struct k) c s = refl
object_number p el.Unknown c s = refl

module _ (names : Scope Meaning) where
  -- what a walk gives where these names are visible, and they still are after it
  pub record Gets (s : Typer) {A : Type 0} (Q : A → Type 0) (t : Typed A) : Type 0 where
    pub gets : seen_as meant s.names ≡ names → Q (value t) × (seen_as meant (state t).names ≡ names)

  gets_then : {A B : Type 0} {Q : A → Type 0} {R : B → Type 0} {s : Typer} {t : Typed A} {f : A → Typing B} → Gets s Q t → ((a : A) (u : Typer) → Q a → Gets u R (f a u)) → Gets s R (and_then t f)
  gets_then {t = Gives a u} m go = record { gets = λ h. let g = m.gets h in (go a u g.0).gets g.1 }

  by_keeping : {A : Type 0} {Q : A → Type 0} {s : Typer} {t : Typed A} → Keeps s t → (seen_as meant s.names ≡ names → Q (value t)) → Gets s Q t
  by_keeping k q = record { gets = λ h. (q h, ap (λ (x : _). seen_as meant x) k.names ∙ h) }

  by_quiet : {A : Type 0} {Q : A → Type 0} {s : Typer} {t : Typed A} → Quiet s t → Q (value t) → Gets s Q t
  by_quiet k q = record { gets = λ h. (q, ap (λ (x : _). seen_as meant x) k.names ∙ h) }

  unnoticed : {A : Type 0} {s : Typer} {t : Typed A} → Keeps s t → Gets s (λ (a : A). Unit {0}) t
  unnoticed k = by_keeping k (λ h. tt)

  given : {A : Type 0} {Q : A → Type 0} {s : Typer} {b : A} → Q b → Gets s Q (Gives b s)
  given q = record { gets = λ h. (q, h) }

  type_number : (x : Name) (s : Typer) → seen_as meant s.names ≡ names → number_of (value (type_name x s)).element ≡ number_of (named_type (meaning_of names x.text)).element
  unfolding type_name
  type_number x s h =
      ap (λ (ty : Ty). number_of ty.element)
      (alias_number (meaning_of s.names x.text) ∙ ap (λ (o : Option Meaning). named_type o) (sym (meaning_seen meant s.names x.text) ∙ ap (λ (z : Scope Meaning). meaning_of z x.text) h))

  named_gets : (x : Name) (s : Typer) → Gets s (λ ty. number_of ty.element ≡ number_of (named_type (meaning_of names x.text)).element) (type_name x s)
  unfolding type_name
  named_gets x s = record { gets = λ h. (type_number x s h, kept_there x s ∙ h) } where
    kept_there : (x : Name) (s : Typer) → seen_as meant (state (type_name x s)).names ≡ seen_as meant s.names
    kept_there x s = refl

  closed_number : (tag : Option Name) (i : Option ℕ) (f : _) (s : Typer) → number_of (value (def.closed tag i f s)).element ≡ None
  unfolding def.closed
  closed_number tag i f s = refl

  structure_gets : (x : Struct) (s : Typer) → Gets s (λ ty. number_of ty.element ≡ None) (structure x s)
  unfolding structure
  structure_gets (Struct' tag n row) s =
      gets_then (unnoticed (opened_kept tag s)) (λ i t h. gets_then (unnoticed (fields_kept row no_fields t)) (λ f u k. by_keeping (closed_kept tag i f u) (λ r. closed_number tag i f u)))

  base_gets : (q : Pos) (b : base.Base) (s : Typer) → Gets s (λ ty. number_of ty.element ≡ cast_type names b) (base_type q b s)
  unfolding base_type
  base_gets q (base.Scalar ws) s = by_keeping (scalar_kept q (num_of ws) s) (λ h. scalar_number q (num_of ws) s)
  base_gets q base.Void s = given refl
  base_gets q (base.Tag x) s = by_keeping (tagged_kept q x s) (λ h. tagged_number q x s)
  base_gets q (base.Struct x) s = structure_gets x s
  base_gets q (base.Named x) s = named_gets x s

  object_gets : (q : Pos) (qs : List Qualified) (b : base.Base) (s : Typer) → Gets s (λ ty. number_of ty.element ≡ cast_type names b) (object q qs (base_type q b) s)
  object_gets q qs b s =
      gets_then (gets_then (base_gets q b s) (λ ty t h. given {Q = λ ty. number_of ty.element ≡ cast_type names b} h))
      (λ ty t h. by_keeping (not_void_by q ty.element ty.constant t) (λ r. object_number q ty.element ty.constant t ∙ h))

  mutual
    unfolding expr value_of

    pub value_gets : (x : tree.Expr) (s : Typer) → Gets s (λ y. known_value y ≡ value_of names x) (expr x s)
    value_gets (Number k unsigned longs decimal q) s = given (literal_is k unsigned longs decimal)
    value_gets (Place' b n row) s = gets_then (gets_then (unnoticed (begins_kept b s)) (λ l t h. unnoticed (steps_kept row l t))) (λ l t h. given (place_varies l))
    value_gets (Bracket' q n (more_of-Expr x end_of-Expr)) s = value_gets x s
    value_gets (Prefix' op q n (more_of-Expr x end_of-Expr)) s =
        gets_then (value_gets x s) (λ y t h. by_quiet (prefixed_quiet (prefix_of op) q y t) (prefixed_value (prefix_of op) q y t ∙ ap (prefix_value (prefix_of op)) h))
    value_gets (Cast' q m (more_of-Specifiers r qs b end_of-Specifiers) n (more_of-Expr x end_of-Expr)) s =
        gets_then (unnoticed (qualifiers_kept false true qs s))
        (λ a t h. gets_then (object_gets r qs b t)
        (λ ty u k. gets_then (value_gets x u)
        (λ y w j. by_quiet (cast_quiet q ty.element y w) (cast_is q ty.element y w ∙ ap (λ (o : Option Num). cast_as o (known_value y)) k ∙ ap (cast_as (cast_type names b)) j))))
    value_gets (Chain' m (more_of-Expr x end_of-Expr) n row) s =
        gets_then (value_gets x s)
        (λ y t h. gets_then (unnoticed (first_kept row x t))
        (λ a u k. gets_then (chain_gets row (left_of y) (value_of names x) u (left_chained y (value_of names x) h)) (λ l w j. given (whole_chain l (chain_value names row (value_of names x)) j))))
    value_gets (Choice' l (more_of-Expr x end_of-Expr) q m (more_of-Expr y end_of-Expr) n (more_of-Expr z end_of-Expr)) s =
        gets_then (value_gets x s) (λ c t h. gets_then (value_gets y t) (λ i u k. gets_then (value_gets z u) (λ j w g. by_quiet (choice_quiet q c i j w)
        (choice_is q c i j w ∙ ap (λ (o : Value). choice_value o (known_value i) (known_value j)) h ∙ ap (λ (o : Value). choice_value (value_of names x) o (known_value j)) k ∙ ap (choice_value (value_of names x) (value_of names y)) g))))

    chain_gets : {n : _} (row : Row_of-Link n) (l : Left) (w : Value) (s : Typer) → Chained l w → Gets s (λ k. Chained k (chain_value names row w)) (links row l s)
    chain_gets end_of-Link l w s c = given c
    chain_gets (more_of-Link op q x rest) l w s c =
        gets_then
        (gets_then {R = λ k. Chained k (joined_value (join_of op) w (value_of names x))} (value_gets x s)
        (λ i t h. gets_then (by_quiet {Q = λ (z : Unit {0}). Unit {0}} (beside_quiet op x t) tt)
        (λ z u k. by_quiet (linked_quiet op q l i u) (subst (λ (j : Value). Chained (value (linked op q l i u)) (joined_value (join_of op) w j)) h (linked_chained op q l i w u c)))))
        (λ k t h. chain_gets rest k (joined_value (join_of op) w (value_of names x)) t h)
