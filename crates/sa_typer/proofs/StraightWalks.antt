-- Where every form of an expression in the tree is analysed today, typing gives expressions of which today's analysis knows
-- every form.
use Rattle.std.proofs.Common.{◌≡◌, ℕ, Bool, true, false, List, [], ◌∷◌, ◌++◌, refl, sym, ap, subst, ◌∙◌, Option, Some, None}
use Rattle.std.specs.Prelude.{if◌then◌else◌, slice_get, ◌||◌}
use Rattle.sa_base.specs.declared.num.Num.{Num}
use Rattle.sa_base.specs.declared.num.Num.TheVariants.{I32}
use Rattle.sa_base.specs.declared.pos.Pos.{Pos}
use Rattle.sa_syntax.specs.declared.decl.Name.{Name}
use Rattle.sa_syntax.specs.declared.expr.Expr as tree
use Rattle.sa_syntax.specs.declared.expr.Expr.{Number, Place', Bracket', Prefix', Cast', Chain', Choice', end_of-Expr, more_of-Expr, Row_of-Link, end_of-Link, more_of-Link, Row_of-Step, end_of-Step, more_of-Step, more_of-Specifiers, end_of-Specifiers}
use Rattle.sa_syntax.specs.declared.expr.Operator as from
use Rattle.sa_syntax.specs.declared.expr.Operator.TheVariants as o
use Rattle.sa_syntax.specs.declared.expr.Place.{Place, out-Place}
use Rattle.sa_syntax.specs.declared.expr.PlaceBase.{PlaceBase}
use Rattle.sa_syntax.specs.declared.expr.PlaceBase.TheVariants as base
use Rattle.sa_syntax.specs.declared.expr.Step as steps_of
use Rattle.sa_syntax.specs.declared.expr.Step.{Step, Index', Field, Arrow}
use Rattle.sa_typed.specs.Arithmetic.{promoted}
use Rattle.sa_typed.specs.declared.expr.Access.{Access}
use Rattle.sa_typed.specs.declared.expr.Expr.{Expr}
use Rattle.sa_typed.specs.declared.expr.Expr.TheVariants as v
use Rattle.sa_typed.specs.declared.expr.Operator.{Operator}
use Rattle.sa_typed.specs.declared.expr.Prefix.{Prefix}
use Rattle.sa_typed.specs.declared.expr.Step as typed_step
use Rattle.sa_typed.specs.declared.expr.Step.TheVariants as step
use Rattle.sa_typed.specs.declared.program.Var.{Var}
use Rattle.sa_scopes.specs.declared.constant.Value.{Value}
use Rattle.sa_scopes.specs.declared.constant.Value.TheVariants.{Varies}
use Rattle.sa_scopes.specs.declared.form.Form.{Form}
use Rattle.sa_scopes.specs.declared.form.Form.TheVariants as form
use Rattle.sa_scopes.specs.declared.structs.Member.{Member}
use Rattle.sa_scopes.specs.declared.typer.Typer.{Typer}
use Rattle.sa_scopes.specs.declared.types.Element.{Element}
use Rattle.sa_scopes.specs.declared.types.Element.TheVariants as el
use Rattle.sa_scopes.specs.declared.types.Ty.{Ty}
use Rattle.sa_scopes.specs.Constants.{working}
use Rattle.sa_scopes.specs.Structures.{member_of}
use Rattle.sa_scopes.specs.Types.{object, qualifiers}
use Rattle.sa_scopes.specs.Typing.{Typed, Typing, Gives, and_then, each, refused, refuse_if}
use Rattle.sa_scopes.proofs.WalkLaws.{value}
use Rattle.sa_operands.specs.declared.operand.Join.{Join}
use Rattle.sa_operands.specs.declared.operand.Join.TheVariants as join
use Rattle.sa_operands.specs.declared.operand.Left.{Left}
use Rattle.sa_operands.specs.declared.operand.Operand.{Operand}
use Rattle.sa_operands.specs.declared.operand.Operand.TheVariants as a
use Rattle.sa_operands.specs.declared.operand.Rest.{Rest}
use Rattle.sa_operands.specs.declared.operand.Rest.TheVariants as rest
use Rattle.sa_operands.specs.declared.operand.Root.{Root}
use Rattle.sa_operands.specs.declared.operand.Root.TheVariants as root
use Rattle.sa_operands.specs.declared.operand.Sort.{Sort}
use Rattle.sa_operands.specs.declared.operand.Sort.TheVariants as sort
use Rattle.sa_operands.specs.declared.operand.Spot.{Spot}
use Rattle.sa_operands.specs.Expressions.{expr, links, steps, step as step_to, base_type, beside_first, linking}
use Rattle.sa_operands.specs.Lists as list
use Rattle.sa_operands.specs.Operands.{stand_in, some_number, sort_of, is_object, expr_or, literal, literal_number, no_number, prefixed, prefix_of, cast, cast_to, miscast, beside, join_of, joined_value, left_of, some_left, mixed, link, links_of, with_link, joined, linked, chain, chained}
use Rattle.sa_operands.specs.Places.{spot_at, variable_at, spot_of, begun, begins, root_of, pointed, form_at, indexed_with, element_of, index, to_member, field_of, field, is_known, arrow, access, access_of, reading, operand_by, operand}
use Rattle.sa_typer.proofs.StraightExprs.{IsStraight, AllStraightSteps, AllStraightLinks, straight_steps_append, straight_links_append, straight_number, straight_input, straight_read, straight_prefix, straight_cast, straight_chain, straight_at, straight_field}
use Rattle.sa_unbuilt.specs.Unbuilt as un
use Rattle.sa_unbuilt.specs.Unbuilt.{◌or◌, first_in}

-- ---- walks of which the result alone matters
pub record Straight {A : Type 0} (Y : A → Type 0) (t : Typed A) : Type 0 where
  pub straight : Y (value t)

pub gives : {A : Type 0} {Y : A → Type 0} {a : A} {s : Typer} → Y a → Straight Y (Gives a s)
gives h = record { straight = h }

pub bind : {A B : Type 0} {Y : A → Type 0} {Z : B → Type 0} {t : Typed A} {f : A → Typing B} → Straight Y t → ((a : A) (u : Typer) → Y a → Straight Z (f a u)) → Straight Z (and_then t f)
bind {t = Gives a u} h go = record { straight = (go a u h.straight).straight }

pub after : {A B : Type 0} {Z : B → Type 0} {f : A → Typing B} (t : Typed A) → ((a : A) (u : Typer) → Straight Z (f a u)) → Straight Z (and_then t f)
after (Gives a u) go = record { straight = (go a u).straight }

-- ---- no part of a form isn't analysed
pub none_first : (a b : Option Pos) → (a or b) ≡ None → a ≡ None
none_first None b h = refl
none_first (Some p) b h = cc

pub none_rest : (a b : Option Pos) → (a or b) ≡ None → b ≡ None
none_rest None b h = h
none_rest (Some p) b h = cc

pub never : (a : Option Pos) (p : Pos) → (a or Some p) ≡ None → ⊥
never None p h = cc
never (Some q) p h = cc

-- one part after the other, each of which is analysed
pub each_part : {U A : Type 0} (Y : A → Type 0) (f : U → A → Typing A) (g : U → Option Pos) → ((x : U) (a : A) (s : Typer) → g x ≡ None → Y a → Straight Y (f x a s)) →
    (xs : List U) (a : A) (s : Typer) → first_in g xs ≡ None → Y a → Straight Y (each f xs a s)
unfolding each first_in
each_part Y f g one [] a s h k = gives k
each_part Y f g one (x ∷ xs) a s h k = bind (one x a s (none_first (g x) (first_in g xs) h) k) (λ b u y. each_part Y f g one xs b u (none_rest (g x) (first_in g xs) h) y)

-- ---- operands
abbrev pub StraightOperand : Operand → Type 0
StraightOperand (a.Number x num w) = IsStraight x
StraightOperand (a.Struct x k fixed q) = IsStraight (v.Read x I32)
StraightOperand (a.Array q) = Unit {0}
StraightOperand a.Unknown = Unit {0}

abbrev pub StraightSpot : Spot → Type 0
StraightSpot l = AllStraightSteps l.steps

abbrev StraightRest : Rest → Type 0
StraightRest (rest.Links ls) = AllStraightLinks ls
StraightRest (rest.And xs) = ⊥
StraightRest (rest.Or xs) = ⊥

abbrev StraightLeft : Left → Type 0
StraightLeft l = IsStraight l.first × StraightRest l.rest

stand_in_straight : IsStraight stand_in
stand_in_straight = straight_number 0 I32

pub part_straight : (i : Operand) → StraightOperand i → IsStraight (expr_or i)
part_straight (a.Number x num w) h = h
part_straight (a.Struct x k fixed q) h = stand_in_straight
part_straight (a.Array q) h = stand_in_straight
part_straight a.Unknown h = stand_in_straight

literal_straight : (n : ℕ) (unsigned : Bool) (longs : ℕ) (decimal : Bool) → StraightOperand (literal n unsigned longs decimal)
unfolding literal
literal_straight n unsigned longs decimal = straight_number _ _

no_number_straight : (p : Pos) (k : Sort) (s : Typer) → Straight StraightOperand (no_number p k s)
no_number_straight p k s = after _ (λ b u. gives stand_in_straight)

prefixed_straight : (op : Prefix) (p : Pos) (i : Operand) (s : Typer) → StraightOperand i → Straight StraightOperand (prefixed op p i s)
prefixed_straight op p (a.Number x num w) s h = gives (straight_prefix op p (promoted num) x h)
prefixed_straight op p (a.Struct x k fixed q) s h = no_number_straight p sort.Object s
prefixed_straight op p (a.Array q) s h = no_number_straight p sort.Object s
prefixed_straight op p a.Unknown s h = no_number_straight p sort.Unknown s

cast_to_straight : (p : Pos) (num : Num) (i : Operand) (s : Typer) → StraightOperand i → Straight StraightOperand (cast_to p num i s)
cast_to_straight p num (a.Number x from w) s h = gives (straight_cast p num x h)
cast_to_straight p num (a.Struct x k fixed q) s h = no_number_straight p sort.Object s
cast_to_straight p num (a.Array q) s h = no_number_straight p sort.Object s
cast_to_straight p num a.Unknown s h = no_number_straight p sort.Unknown s

miscast_straight : (p : Pos) (i : Operand) (s : Typer) → Straight StraightOperand (miscast p i s)
miscast_straight p (a.Number x from w) s = gives stand_in_straight
miscast_straight p (a.Struct x k fixed q) s = no_number_straight p sort.Object s
miscast_straight p (a.Array q) s = no_number_straight p sort.Object s
miscast_straight p a.Unknown s = no_number_straight p sort.Unknown s

conversion_straight : (p : Pos) (e : Element) (i : Operand) (s : Typer) → StraightOperand i → Straight StraightOperand (cast p e i s)
unfolding cast
conversion_straight p (el.Scalar num) i s h = cast_to_straight p num i s h
conversion_straight p (el.Struct k) i s h = miscast_straight p i _
conversion_straight p el.Void i s h = miscast_straight p i s
conversion_straight p el.Unknown i s h = miscast_straight p i s

-- ---- chains
left_straight : (i : Operand) → StraightOperand i → StraightLeft (left_of i)
unfolding AllStraightLinks
left_straight i h = (part_straight i h, tt)

mixed_straight : (w : Value) → StraightLeft (mixed w)
unfolding AllStraightLinks
mixed_straight w = (stand_in_straight, tt)

-- an operator that is analysed joins its operands by a link
record IsLinking (j : Join) : Type 0 where
  op : Operator
  is : j ≡ join.Link op

linking_operator : (op : from.Operator) (p : Pos) → un.in_operator op p ≡ None → IsLinking (join_of op)
linking_operator o.Or p h = cc
linking_operator o.And p h = cc
linking_operator o.BitOr p h = record { op = _; is = refl }
linking_operator o.BitXor p h = record { op = _; is = refl }
linking_operator o.BitAnd p h = record { op = _; is = refl }
linking_operator o.Equal p h = record { op = _; is = refl }
linking_operator o.NotEqual p h = record { op = _; is = refl }
linking_operator o.Less p h = record { op = _; is = refl }
linking_operator o.LessEqual p h = record { op = _; is = refl }
linking_operator o.Greater p h = record { op = _; is = refl }
linking_operator o.GreaterEqual p h = record { op = _; is = refl }
linking_operator o.ShiftLeft p h = record { op = _; is = refl }
linking_operator o.ShiftRight p h = record { op = _; is = refl }
linking_operator o.Plus p h = record { op = _; is = refl }
linking_operator o.Minus p h = record { op = _; is = refl }
linking_operator o.Times p h = record { op = _; is = refl }
linking_operator o.Divide p h = record { op = _; is = refl }
linking_operator o.Remainder p h = record { op = _; is = refl }

link_straight : (op : Operator) (p : Pos) (l : Left) (r : Rest) (before : Num) (x : Expr) (num : Num) (w : Value) → IsStraight l.first → StraightRest r → IsStraight x →
    StraightLeft (with_link op p l before x num w (links_of r))
link_straight op p l (rest.Links ls) before x num w f h k = (f, straight_links_append ls (link op p (working op before num) x) h k)
link_straight op p l (rest.And xs) before x num w f h k = absurd h
link_straight op p l (rest.Or xs) before x num w f h k = absurd h

joined_straight : (j : Join) (p : Pos) (l : Left) (before : Num) (x : Expr) (num : Num) (w : Value) → IsLinking j → StraightLeft l → IsStraight x → StraightLeft (joined j p l before x num w)
joined_straight j p l before x num w g h k =
    subst (λ (i : Join). StraightLeft (joined i p l before x num w)) (sym g.is) (link_straight g.op p l l.rest before x num (joined_value (join.Link g.op) l.value w) h.0 h.1 k)

linked_number : (op : from.Operator) (p : Pos) (l : Left) (x : Expr) (num : Num) (w : Value) (k : Sort) (s : Typer) → l.sort ≡ k → IsLinking (join_of op) → StraightLeft l → IsStraight x →
    Straight StraightLeft (linked op p l (a.Number x num w) s)
unfolding linked
linked_number op p l x num w (sort.Number before) s e g h k = rw e (gives (joined_straight (join_of op) p _ before x num w g h k))
linked_number op p l x num w sort.Object s e g h k = rw e (gives (mixed_straight Varies))
linked_number op p l x num w sort.Unknown s e g h k = rw e (gives (mixed_straight Varies))

linked_straight : (op : from.Operator) (p : Pos) (l : Left) (i : Operand) (s : Typer) → IsLinking (join_of op) → StraightLeft l → StraightOperand i → Straight StraightLeft (linked op p l i s)
unfolding linked
linked_straight op p l (a.Number x num w) s g h k = linked_number op p l x num w l.sort s refl g h k
linked_straight op p l (a.Struct x j fixed q) s g h k = gives (mixed_straight Varies)
linked_straight op p l (a.Array q) s g h k = gives (mixed_straight Varies)
linked_straight op p l a.Unknown s g h k = after _ (λ b u. gives (mixed_straight Varies))

chain_straight : (x : Expr) (r : Rest) → IsStraight x → StraightRest r → IsStraight (chain x r)
chain_straight x (rest.Links ls) h k = straight_chain x ls h k
chain_straight x (rest.And xs) h k = absurd k
chain_straight x (rest.Or xs) h k = absurd k

chained_straight : (l : Left) (k : Sort) → l.sort ≡ k → StraightLeft l → StraightOperand (chained l)
chained_straight l (sort.Number num) e h = rw e (chain_straight l.first l.rest h.0 h.1)
chained_straight l sort.Object e h = rw e stand_in_straight
chained_straight l sort.Unknown e h = rw e tt

-- ---- places
variable_straight : (p : Pos) (k : ℕ) (o : Option Var) → StraightSpot (variable_at p k o)
unfolding AllStraightSteps
variable_straight p k None = tt
variable_straight p k (Some x) = tt

spot_straight : (s : Typer) (p : Pos) (r : Root) → StraightSpot (spot_of s p r)
unfolding spot_of AllStraightSteps
spot_straight s p (root.Variable k) = variable_straight p k (slice_get s.vars k)
spot_straight s p (root.Input k num) = tt
spot_straight s p root.Nothing = tt

begun_straight : (p : Pos) (m : Typing Root) (s : Typer) → Straight StraightSpot (begun p m s)
begun_straight p m s = after _ (λ r u. gives (spot_straight u p r))

begins_straight : (b : PlaceBase) (s : Typer) → Straight StraightSpot (begins b s)
unfolding begins
begins_straight (base.Name x) s = begun_straight x.pos (root_of x) s
begins_straight (base.Through p star x) s = begun_straight x.pos (pointed star x) s
begins_straight (base.Star star x) s = begun_straight x.pos (pointed star x) s

element_straight : (p : Pos) (x : Expr) (o : Option Form) (l : Spot) (s : Typer) → IsStraight x → StraightSpot l → Straight StraightSpot (element_of p x o l s)
element_straight p x None l s h k = gives (straight_steps_append l.steps (step.At p 1 x) k (straight_at p 1 x h))
element_straight p x (Some (form.Array n)) l s h k = gives (straight_steps_append l.steps (step.At p n x) k (straight_at p n x h))
element_straight p x (Some (form.Scalar num)) l s h k = gives (straight_steps_append l.steps (step.At p 1 x) k (straight_at p 1 x h))
element_straight p x (Some (form.Struct j)) l s h k = gives (straight_steps_append l.steps (step.At p 1 x) k (straight_at p 1 x h))

index_straight : (p : Pos) (i : Operand) (l : Spot) (s : Typer) → StraightOperand i → StraightSpot l → Straight StraightSpot (index p i l s)
unfolding index
index_straight p i l s h k = after _ (λ b u. element_straight p (expr_or i) (form_at l) (indexed_with i l) u (part_straight i h) k)

field_more : (l : Spot) (k : ℕ) → StraightSpot l → AllStraightSteps (l.steps ++ step.Field k ∷ [])
field_more l k h = straight_steps_append l.steps (step.Field k) h (straight_field k)

to_member_straight : (p : Pos) (m : Option Member) (l : Spot) (s : Typer) → StraightSpot l → Straight StraightSpot (to_member p m l s)
to_member_straight p None l s h = gives (field_more l 0 h)
to_member_straight p (Some m) l s h = gives (field_more l m.number h)

field_of_straight : (p : Pos) (x : Name) (o : Option Form) (l : Spot) (s : Typer) → StraightSpot l → Straight StraightSpot (field_of p x o l s)
field_of_straight p x None l s h = gives (field_more l 0 h)
field_of_straight p x (Some (form.Struct k)) l s h = to_member_straight x.pos (member_of s.structs k x.text) l s h
field_of_straight p x (Some (form.Scalar num)) l s h = gives (field_more l 0 h)
field_of_straight p x (Some (form.Array n)) l s h = gives (field_more l 0 h)

field_straight : (p : Pos) (x : Name) (l : Spot) (s : Typer) → StraightSpot l → Straight StraightSpot (field p x l s)
unfolding field
field_straight p x l s h = field_of_straight p x (form_at l) l s h

arrow_straight : (p : Pos) (l : Spot) (s : Typer) → StraightSpot l → Straight StraightSpot (arrow p l s)
unfolding arrow
arrow_straight p l s h = after _ (λ b u. gives (field_more l 0 h))

pub access_straight : (r : Root) (xs : List typed_step.Step) (num : Num) → AllStraightSteps xs → IsStraight (v.Read (access_of r xs) num)
access_straight (root.Variable k) xs num h = straight_read k xs num h
access_straight (root.Input k n) xs num h = straight_read 0 xs num h
access_straight root.Nothing xs num h = straight_read 0 xs num h

reading_straight : (r : Root) (xs : List typed_step.Step) (num : Num) → AllStraightSteps xs → IsStraight (reading r xs num)
reading_straight (root.Variable k) xs num h = straight_read k xs num h
reading_straight (root.Input k n) xs num h = straight_input k num
reading_straight root.Nothing xs num h = straight_read 0 xs num h

operand_by_straight : (l : Spot) (o : Option Form) → StraightSpot l → StraightOperand (operand_by l o)
operand_by_straight l None h = tt
operand_by_straight l (Some (form.Scalar num)) h = reading_straight l.root l.steps num h
operand_by_straight l (Some (form.Struct k)) h = access_straight l.root l.steps I32 h
operand_by_straight l (Some (form.Array n)) h = tt

operand_straight : (l : Spot) → StraightSpot l → StraightOperand (operand l)
unfolding operand
operand_straight l h = operand_by_straight l (form_at l) h

-- ---- expressions
mutual
  unfolding expr un.in_expr

  pub expr_straight : (x : tree.Expr) (s : Typer) → un.in_expr x ≡ None → Straight StraightOperand (expr x s)
  expr_straight (Number n unsigned longs decimal q) s h = gives (literal_straight n unsigned longs decimal)
  expr_straight (Place' b n row) s h = bind (bind (begins_straight b s) (λ l t k. steps_straight row l t h k)) (λ l t k. gives (operand_straight l k))
  expr_straight (Bracket' q n (more_of-Expr x end_of-Expr)) s h = expr_straight x s h
  expr_straight (Prefix' op q n (more_of-Expr x end_of-Expr)) s h = bind (expr_straight x s h) (λ y t k. prefixed_straight (prefix_of op) q y t k)
  expr_straight (Cast' q m (more_of-Specifiers r qs b end_of-Specifiers) n (more_of-Expr x end_of-Expr)) s h =
      after (qualifiers false true qs s) (λ c t. after (object r qs (base_type r b) t) (λ (ty : Ty) u. bind (expr_straight x u (none_rest (un.in_base b) (un.in_expr x) h)) (λ y w k. conversion_straight q ty.element y w k)))
  expr_straight (Chain' m (more_of-Expr x end_of-Expr) n row) s h =
      bind (expr_straight x s (none_first (un.in_expr x) (un.in_links row) h))
      (λ first t k. after (beside_first row x t) (λ c u. bind (links_straight row (left_of first) u (none_rest (un.in_expr x) (un.in_links row) h) (left_straight first k)) (λ l w g. gives (chained_straight l l.sort refl g))))
  expr_straight (Choice' l (more_of-Expr x end_of-Expr) q m y n z) s h = absurd (never (un.in_expr x) q h)

  links_straight : {n : _} (row : Row_of-Link n) (l : Left) (s : Typer) → un.in_links row ≡ None → StraightLeft l → Straight StraightLeft (links row l s)
  links_straight end_of-Link l s h k = gives k
  links_straight (more_of-Link op q x more) l s h k =
      let here = none_first (un.in_operator op q or un.in_expr x) (un.in_links more) h in
      bind (bind (expr_straight x s (none_rest (un.in_operator op q) (un.in_expr x) here)) (λ i t g. after (beside op x t) (λ c u. linked_straight op q l i u (linking_operator op q (none_first (un.in_operator op q) (un.in_expr x) here)) k g)))
      (λ j t g. links_straight more j t (none_rest (un.in_operator op q or un.in_expr x) (un.in_links more) h) g)

  steps_straight : {n : _} (row : Row_of-Step n) (l : Spot) (s : Typer) → un.in_steps row ≡ None → StraightSpot l → Straight StraightSpot (steps row l s)
  steps_straight end_of-Step l s h k = gives k
  steps_straight (more_of-Step x more) l s h k = bind (step_straight x l s (none_first (un.in_step x) (un.in_steps more) h) k) (λ j t g. steps_straight more j t (none_rest (un.in_step x) (un.in_steps more) h) g)

  step_straight : (x : Step) (l : Spot) (s : Typer) → un.in_step x ≡ None → StraightSpot l → Straight StraightSpot (step_to x l s)
  step_straight (Index' q n (more_of-Expr x end_of-Expr)) l s h k = bind (expr_straight x s h) (λ i t g. index_straight q i l t g k)
  step_straight (Field q x) l s h k = field_straight q x l s k
  step_straight (Arrow q x) l s h k = arrow_straight q l s k

pub place_straight : (x : Place) (s : Typer) → un.in_place x ≡ None → Straight StraightSpot (list.spot x s)
unfolding list.spot
place_straight x s h = bind (begins_straight (out-Place x).base s) (λ l t k. each_part StraightSpot step_to un.in_step (λ y j u g m. step_straight y j u g m) (out-Place x).steps l t h k)
