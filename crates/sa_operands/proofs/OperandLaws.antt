-- What operands, chains and places promise of the program that the walk ends in.
use Rattle.std.proofs.Common.{◌≡◌, ℕ, zero, suc, ◌+◌, ◌<◌, ◌≤◌, ℤ, pos, Bool, true, false, ◌&&◌, List, [], ◌∷◌, ◌++◌, length, refl, sym, ap, subst, ◌∙◌, arith, Option, Some, None}
use Rattle.std.proofs.lemmas.Bool.Decides.{nat_tests}
use Rattle.std.specs.Prelude.{if◌then◌else◌, IsTrue, slice_get, reverse, not, ◌||◌, ◌==◌}
use Rattle.sa_base.specs.declared.num.Num.{Num}
use Rattle.sa_base.specs.declared.num.Num.TheVariants.{I8, U8, I16, U16, I32, U32, I64, U64}
use Rattle.sa_base.specs.declared.pos.Pos.{Pos}
use Rattle.sa_syntax.specs.declared.decl.Name.{Name}
use Rattle.sa_syntax.specs.declared.expr.Expr as tree
use Rattle.sa_syntax.specs.declared.expr.Operator as from
use Rattle.sa_syntax.specs.declared.expr.PlaceBase.{PlaceBase}
use Rattle.sa_syntax.specs.declared.expr.PlaceBase.TheVariants as base
use Rattle.sa_typed.specs.Arithmetic.{is_of, promoted, common, literal_type, result_type, prefix_type}
use Rattle.sa_typed.specs.Constants.{is_constant}
use Rattle.sa_typed.specs.Layouts.{Layout, leaf, row, fields, layout_with, layouts_with, nth_field, struct_layout, shape_layout, layout_of, var_layout}
use Rattle.sa_typed.specs.TypedExpressions.{IsPlace}
use Rattle.sa_typed.specs.WellTyped.{type_of, converts, right_converts, typed_step, into, num_of_input, IsLink, is_fixed_read}
use Rattle.sa_typed.specs.declared.expr.Access.{Access}
use Rattle.sa_typed.specs.declared.expr.Expr.{Expr}
use Rattle.sa_typed.specs.declared.expr.Expr.TheVariants as e
use Rattle.sa_typed.specs.declared.expr.Link.{Link, out-Link}
use Rattle.sa_typed.specs.declared.expr.Operator.{Operator}
use Rattle.sa_typed.specs.declared.expr.Operator.TheVariants as op
use Rattle.sa_typed.specs.declared.expr.Prefix.{Prefix}
use Rattle.sa_typed.specs.declared.expr.Prefix.TheVariants as pre
use Rattle.sa_typed.specs.declared.expr.Step.{Step}
use Rattle.sa_typed.specs.declared.expr.Step.TheVariants as step
use Rattle.sa_typed.specs.declared.program.Program.{Program}
use Rattle.sa_typed.specs.declared.program.Var.{Var}
use Rattle.sa_typed.specs.declared.shape.FieldDef.{FieldDef}
use Rattle.sa_typed.specs.declared.shape.StructDef.{StructDef}
use Rattle.sa_scopes.specs.declared.constant.Value.{Value}
use Rattle.sa_scopes.specs.declared.constant.Value.TheVariants.{Varies, Unknown, Errs, Is}
use Rattle.sa_operands.specs.declared.operand.Join.{Join}
use Rattle.sa_operands.specs.declared.operand.Join.TheVariants as join
use Rattle.sa_operands.specs.declared.operand.Left.{Left}
use Rattle.sa_operands.specs.declared.operand.Rest.{Rest}
use Rattle.sa_operands.specs.declared.operand.Rest.TheVariants as rest
use Rattle.sa_operands.specs.declared.operand.Operand.{Operand}
use Rattle.sa_operands.specs.declared.operand.Operand.TheVariants as a
use Rattle.sa_operands.specs.declared.operand.Root.{Root}
use Rattle.sa_operands.specs.declared.operand.Root.TheVariants as root
use Rattle.sa_operands.specs.declared.operand.Sort.{Sort}
use Rattle.sa_operands.specs.declared.operand.Sort.TheVariants as sort
use Rattle.sa_operands.specs.declared.operand.Spot.{Spot}
use Rattle.sa_scopes.specs.declared.typer.Typer.{Typer}
use Rattle.sa_scopes.specs.declared.types.Element.{Element}
use Rattle.sa_scopes.specs.declared.types.Element.TheVariants as el
use Rattle.sa_scopes.specs.Constants.{working}
use Rattle.sa_scopes.specs.Values as values
use Rattle.sa_scopes.specs.Values.{literal_value, prefix_value, cast_value, miscast_value, operator_value, settled_and, and_value, settled_or, or_value, settled_choice, choice_value, value_of, constant}
use Rattle.sa_operands.specs.Operands.{stand_in, some_number, sort_of, is_object, known_value, expr_or, num_or, literal_number, literal, is_comparison, by_itself, with_threshold, beside, no_object, no_number, prefixed, cast_to, miscast, cast, join_of, joined_value, left_of, some_left, mixed, link, links_of, ands_of, ors_of, with_link, with_and, with_or, joined, linked, chain, chained, choice_in, choice}
use Rattle.sa_scopes.specs.Typing.{Typed, Typing, Gives, and_then, pure, refused}
use Rattle.sa_operands.proofs.RowLaws.{GoodExpr, AllLinks, after_links, all_constant, links_append, after_append, constant_append, SomeOperands, operands_constant, some_first, some_append, operands_constant_append, number_typed, prefix_typed, cast_typed, chain_typed, and_typed, or_typed, choice_typed, type_number, type_prefix, type_cast, type_chain, type_and, type_or, type_choice, constant_number, constant_prefix, constant_cast, constant_chain, constant_and, constant_or, constant_choice}
use Rattle.sa_scopes.proofs.WalkLaws.{Ends, Later, Well, Leads, Any, gives, refuses, refusal, bind, next, from, so, either, unless}

-- ---- promises
-- a number with that type, of which that is known
pub record IsGood (p : Program) (x : Expr) (num : Num) (w : Value) : Type 0 where
  pub typed : GoodExpr p x
  pub is : type_of x ≡ num
  pub constant : values.is_constant w ≡ true → is_constant x ≡ true

-- a place with such an object
pub record LeadsTo (p : Program) (l : Layout) (fixed : Bool) (x : Access) : Type 0 where
  pub place : IsPlace p 0 l x
  pub constant : fixed ≡ true → is_fixed_read (e.Read x I32) ≡ true

abbrev pub struct_in : Program → ℕ → Layout
struct_in p k = struct_layout (reverse p.structs) k

abbrev pub GoodOperand : Program → Operand → Type 0
GoodOperand p (a.Number x num w) = IsGood p x num w
GoodOperand p (a.Struct x k fixed q) = LeadsTo p (struct_in p k) fixed x
GoodOperand p (a.Array q) = Unit {0}
GoodOperand p a.Unknown = ⊥

-- what stands behind the first operand of a chain with that type, and the type of the whole
abbrev pub IsRest : Program → Num → Rest → Num → Type 0
IsRest p left (rest.Links ls) num = AllLinks p left ls × (after_links left ls ≡ num)
IsRest p left (rest.And xs) num = SomeOperands p xs × (num ≡ I32)
IsRest p left (rest.Or xs) num = SomeOperands p xs × (num ≡ I32)

abbrev pub rest_constant : Rest → Bool
rest_constant (rest.Links ls) = all_constant ls
rest_constant (rest.And xs) = operands_constant xs
rest_constant (rest.Or xs) = operands_constant xs

-- a chain so far, with such operands behind the first one
pub record IsChainOf (p : Program) (x : Expr) (r : Rest) (num : Num) (w : Value) : Type 0 where
  pub first : GoodExpr p x
  pub rest : IsRest p (type_of x) r num
  pub first_constant : values.is_constant w ≡ true → is_constant x ≡ true
  pub rest_constant : values.is_constant w ≡ true → rest_constant r ≡ true

abbrev pub IsChain : Program → Left → Num → Type 0
IsChain p l num = IsChainOf p l.first l.rest num l.value

abbrev pub IsOfSort : Program → Left → Sort → Type 0
IsOfSort p l (sort.Number num) = IsChain p l num
IsOfSort p l sort.Object = Unit {0}
IsOfSort p l sort.Unknown = ⊥

abbrev pub GoodLeft : Program → Left → Type 0
GoodLeft p l = IsOfSort p l l.sort

-- ---- what stands in
zero_fits : (num : Num) → is_of num (pos 0) ≡ true
zero_fits I8 = refl
zero_fits U8 = refl
zero_fits I16 = refl
zero_fits U16 = refl
zero_fits I32 = refl
zero_fits U32 = refl
zero_fits I64 = refl
zero_fits U64 = refl

pub zero_is_of : (num : Num) → IsTrue (is_of num (pos 0))
zero_is_of num = zero_fits num

module _ (p : Program) where
  pub stand_in_good : (w : Value) → IsGood p stand_in I32 w
  stand_in_good w = record { typed = number_typed p 0 I32 refl; is = type_number 0 I32; constant = λ h. constant_number 0 I32 }

  pub one_good : IsGood p (e.Number 1 I32) I32 Varies
  one_good = record { typed = number_typed p 1 I32 refl; is = type_number 1 I32; constant = λ h. constant_number 1 I32 }

  literal_typed : (num : Num) (v : ℕ) → GoodExpr p (e.Number (literal_number num v) num)
  literal_typed num v =
      elim (is_of num (pos v)) as (λ b. is_of num (pos v) ≡ b → GoodExpr p (e.Number (if b then v else 0) num)) [
        | true ↦ λ h. number_typed p v num h
        | false ↦ λ h. number_typed p 0 num (zero_fits num)
      ] refl

  pub literal_good : (v : ℕ) (unsigned : Bool) (longs : ℕ) (decimal : Bool) → GoodOperand p (literal v unsigned longs decimal)
  unfolding literal
  literal_good v unsigned longs decimal =
      let num = literal_type v unsigned longs decimal in
      record { typed = literal_typed num v; is = type_number (literal_number num v) num; constant = λ h. constant_number (literal_number num v) num }

-- ---- conversions
convert_promoted : (num : Num) → converts num (promoted num) ≡ true
unfolding converts
convert_promoted I8 = refl
convert_promoted U8 = refl
convert_promoted I16 = refl
convert_promoted U16 = refl
convert_promoted I32 = refl
convert_promoted U32 = refl
convert_promoted I64 = refl
convert_promoted U64 = refl

convert_left : (x y : Num) → converts x (common x y) ≡ true
unfolding converts
convert_left I8 I8 = refl
convert_left U8 I8 = refl
convert_left I16 I8 = refl
convert_left U16 I8 = refl
convert_left I32 I8 = refl
convert_left U32 I8 = refl
convert_left I64 I8 = refl
convert_left U64 I8 = refl
convert_left x y = refl

common_swap : (x y : Num) → common x y ≡ common y x
common_swap I8 I8 = refl
common_swap U8 I8 = refl
common_swap I16 I8 = refl
common_swap U16 I8 = refl
common_swap I32 I8 = refl
common_swap U32 I8 = refl
common_swap I64 I8 = refl
common_swap U64 I8 = refl
common_swap x y = refl

convert_right : (x y : Num) → converts y (common x y) ≡ true
convert_right x y = ap (converts y) (common_swap x y) ∙ convert_left y x

both_convert : (x y : Num) → (converts x (common x y) ≡ true) × (converts y (common x y) ≡ true)
both_convert x y = (convert_left x y, convert_right x y)

-- an operator works in a type to which its operands convert
pub works : (o : Operator) (x y : Num) → IsLink o x (working o x y) y
works op.Plus x y = record { first = convert_left x y; second = convert_right x y }
works op.Minus x y = record { first = convert_left x y; second = convert_right x y }
works op.Times x y = record { first = convert_left x y; second = convert_right x y }
works op.Divide x y = record { first = convert_left x y; second = convert_right x y }
works op.Remainder x y = record { first = convert_left x y; second = convert_right x y }
works op.ShiftLeft x y = record { first = convert_promoted x; second = refl }
works op.ShiftRight x y = record { first = convert_promoted x; second = refl }
works op.BitAnd x y = record { first = convert_left x y; second = convert_right x y }
works op.BitXor x y = record { first = convert_left x y; second = convert_right x y }
works op.BitOr x y = record { first = convert_left x y; second = convert_right x y }
works op.Equal x y = record { first = convert_left x y; second = convert_right x y }
works op.NotEqual x y = record { first = convert_left x y; second = convert_right x y }
works op.Less x y = record { first = convert_left x y; second = convert_right x y }
works op.LessEqual x y = record { first = convert_left x y; second = convert_right x y }
works op.Greater x y = record { first = convert_left x y; second = convert_right x y }
works op.GreaterEqual x y = record { first = convert_left x y; second = convert_right x y }

-- ---- what is known of values
known_prefix : (o : Prefix) (w : Value) → values.is_constant (prefix_value o w) ≡ true → values.is_constant w ≡ true
known_prefix o Varies h = h
known_prefix o Unknown h = refl
known_prefix o (Errs n) h = refl
known_prefix o (Is c) h = refl

known_cast : (num : Num) (w : Value) → values.is_constant (cast_value num w) ≡ true → values.is_constant w ≡ true
known_cast num Varies h = h
known_cast num Unknown h = refl
known_cast num (Errs n) h = refl
known_cast num (Is c) h = refl

known_left : (o : Operator) (w z : Value) → values.is_constant (operator_value o w z) ≡ true → values.is_constant w ≡ true
known_left o Varies z h = h
known_left o Unknown z h = refl
known_left o (Errs n) z h = refl
known_left o (Is c) z h = refl

known_right : (o : Operator) (w z : Value) → values.is_constant (operator_value o w z) ≡ true → values.is_constant z ≡ true
known_right o Varies Varies h = h
known_right o Unknown Varies h = h
known_right o (Errs n) Varies h = h
known_right o (Is c) Varies h = h
known_right o w Unknown h = refl
known_right o w (Errs n) h = refl
known_right o w (Is c) h = refl

if_constant : (b : Bool) (w : Value) → values.is_constant (if b then w else Varies) ≡ true → b ≡ true
if_constant true w h = refl
if_constant false w h = cc

both_left : (b c : Bool) → (b && c) ≡ true → b ≡ true
both_left true c h = refl
both_left false c h = cc

both_right : (b c : Bool) → (b && c) ≡ true → c ≡ true
both_right true c h = h
both_right false c h = cc

joined_left : (j : Join) (w z : Value) → values.is_constant (joined_value j w z) ≡ true → values.is_constant w ≡ true
joined_left join.And w z h = both_left (values.is_constant w) (values.is_constant z) (if_constant (values.is_constant w && values.is_constant z) (settled_and w z) h)
joined_left join.Or w z h = both_left (values.is_constant w) (values.is_constant z) (if_constant (values.is_constant w && values.is_constant z) (settled_or w z) h)
joined_left (join.Link o) w z h = known_left o w z h

joined_right : (j : Join) (w z : Value) → values.is_constant (joined_value j w z) ≡ true → values.is_constant z ≡ true
joined_right join.And w z h = both_right (values.is_constant w) (values.is_constant z) (if_constant (values.is_constant w && values.is_constant z) (settled_and w z) h)
joined_right join.Or w z h = both_right (values.is_constant w) (values.is_constant z) (if_constant (values.is_constant w && values.is_constant z) (settled_or w z) h)
joined_right (join.Link o) w z h = known_right o w z h

pub all_three : (b c d : Bool) → (b && c && d) ≡ true → (b ≡ true) × ((c ≡ true) × (d ≡ true))
all_three true true true h = (refl, (refl, refl))
all_three true true false h = cc
all_three true false d h = cc
all_three false c d h = cc

-- all three parts of a choice that is constant are
chosen_constant : (w y z : Value) → values.is_constant (choice_value w y z) ≡ true → (values.is_constant w ≡ true) × ((values.is_constant y ≡ true) × (values.is_constant z ≡ true))
chosen_constant w y z h =
    all_three (values.is_constant w) (values.is_constant y) (values.is_constant z) (if_constant (values.is_constant w && values.is_constant y && values.is_constant z) (settled_choice w y z) h)

-- ---- prefixes, casts and chains
module _ (p : Program) where
  -- the literal beside a comparison changes nothing that is promised
  threshold_leads : {X : Type 0} (o : Option ℕ) (s : Typer) → Leads p X s Any (with_threshold o s)
  threshold_leads None s = gives (λ w x e. tt)
  threshold_leads (Some v) s = record {
    later = record { back = λ e. record { clear = e.clear; structs = e.structs; vars = e.vars; inputs = e.inputs }; more = omega arith };
    good = λ w x e. (record { names = w.names; tags = w.tags; defs = w.defs; vars = w.vars }, tt);
  }

  pub beside_leads : {X : Type 0} (o : from.Operator) (x : tree.Expr) (s : Typer) → Leads p X s Any (beside o x s)
  unfolding beside
  beside_leads {X = X} o x s =
      elim (is_comparison o) as (λ b. Leads p X s Any ((if b then with_threshold (by_itself true x) else pure tt) s)) [
        | true ↦ threshold_leads (by_itself true x) s
        | false ↦ gives (λ w x e. tt)
      ]

  -- what is no number is refused, or its refusal came before
  no_number_leads : {X : Type 0} (q : Pos) (z : Sort) (s : Typer) → Leads p X s (λ y t. GoodOperand p y) (no_number q z s)
  no_number_leads q z s = next (unless (is_object z) 5 q) (λ a u. gives (λ w x e. stand_in_good p Varies))

  prefix_good : (o : Prefix) (q : Pos) (x : Expr) (num : Num) (w : Value) → IsGood p x num w → IsGood p (e.Prefix o q (promoted num) x) (prefix_type o (promoted num)) (prefix_value o w)
  prefix_good o q x num w h = record {
    typed = prefix_typed p o q (promoted num) x h.typed (ap (λ (n : Num). converts n (promoted num)) h.is ∙ convert_promoted num) (ap promoted (sym h.is));
    is = type_prefix o q (promoted num) x;
    constant = λ k. constant_prefix o q (promoted num) x ∙ h.constant (known_prefix o w k);
  }

  pub prefixed_leads : (o : Prefix) (q : Pos) (x : Operand) (s : Typer) → Leads p (GoodOperand p x) s (λ y t. GoodOperand p y) (prefixed o q x s)
  prefixed_leads o q (a.Number x num w) s = gives (λ k h e. prefix_good o q x num w h)
  prefixed_leads o q (a.Struct x k fixed r) s = no_number_leads q sort.Object s
  prefixed_leads o q (a.Array r) s = no_number_leads q sort.Object s
  prefixed_leads o q a.Unknown s = no_number_leads q sort.Unknown s

  cast_good : (q : Pos) (num : Num) (x : Expr) (from : Num) (w : Value) → IsGood p x from w → IsGood p (e.Cast q num x) num (cast_value num w)
  cast_good q num x from w h = record {
    typed = cast_typed p q num x h.typed;
    is = type_cast q num x;
    constant = λ k. constant_cast q num x ∙ h.constant (known_cast num w k);
  }

  cast_to_leads : (q : Pos) (num : Num) (x : Operand) (s : Typer) → Leads p (GoodOperand p x) s (λ y t. GoodOperand p y) (cast_to q num x s)
  cast_to_leads q num (a.Number x from w) s = gives (λ k h e. cast_good q num x from w h)
  cast_to_leads q num (a.Struct x k fixed r) s = no_number_leads q sort.Object s
  cast_to_leads q num (a.Array r) s = no_number_leads q sort.Object s
  cast_to_leads q num a.Unknown s = no_number_leads q sort.Unknown s

  miscast_leads : {X : Type 0} (q : Pos) (x : Operand) (s : Typer) → Leads p X s (λ y t. GoodOperand p y) (miscast q x s)
  miscast_leads q (a.Number x from w) s = gives (λ k h e. stand_in_good p (miscast_value w))
  miscast_leads q (a.Struct x k fixed r) s = no_number_leads q sort.Object s
  miscast_leads q (a.Array r) s = no_number_leads q sort.Object s
  miscast_leads q a.Unknown s = no_number_leads q sort.Unknown s

  pub cast_leads : (q : Pos) (t : Element) (x : Operand) (s : Typer) → Leads p (GoodOperand p x) s (λ y t. GoodOperand p y) (cast q t x s)
  unfolding cast
  cast_leads q (el.Scalar num) x s = cast_to_leads q num x s
  cast_leads q (el.Struct k) x s = next (refusal 5 q) (λ a u. miscast_leads q x u)
  cast_leads q el.Void x s = miscast_leads q x s
  cast_leads q el.Unknown x s = miscast_leads q x s

  -- ---- chains
  number_left : (x : Expr) (num : Num) (w : Value) → IsGood p x num w → IsChain p (left_of (a.Number x num w)) num
  unfolding AllLinks after_links all_constant
  number_left x num w h = record { first = h.typed; rest = (tt, h.is); first_constant = h.constant; rest_constant = λ k. refl }

  mixed_good : (w : Value) → GoodLeft p (mixed w)
  mixed_good w = number_left stand_in I32 w (stand_in_good p w)

  some_left_good : GoodLeft p some_left
  some_left_good = mixed_good Varies

  pub left_good : (x : Operand) → GoodOperand p x → GoodLeft p (left_of x)
  left_good (a.Number x num w) h = number_left x num w h
  left_good (a.Struct x k fixed q) h = tt
  left_good (a.Array q) h = tt
  left_good a.Unknown h = h

  -- another operand that is a number, behind what stands so far
  link_good : (o : Operator) (q : Pos) (l : Left) (r : Rest) (before : Num) (x : Expr) (num : Num) (w : Value) → IsChainOf p l.first r before l.value → IsGood p x num w →
      GoodLeft p (with_link o q l before x num (operator_value o l.value w) (links_of r))
  link_good o q l (rest.Links ls) before x num w c h = record {
    first = c.first;
    rest = (
      links_append p (type_of l.first) ls (link o q (working o before num) x) c.rest.0 h.typed
          (subst (λ (n : Num). IsLink o n (working o before num) (type_of x)) (sym c.rest.1) (subst (λ (n : Num). IsLink o before (working o before num) n) (sym h.is) (works o before num))),
      after_append (type_of l.first) ls (link o q (working o before num) x),
    );
    first_constant = λ k. c.first_constant (known_left o l.value w k);
    rest_constant = λ k. constant_append ls (link o q (working o before num) x) (c.rest_constant (known_left o l.value w k)) (h.constant (known_right o l.value w k));
  }
  link_good o q l (rest.And xs) before x num w c h = mixed_good (operator_value o l.value w)
  link_good o q l (rest.Or xs) before x num w c h = mixed_good (operator_value o l.value w)

  one_constant : (x : Expr) → is_constant x ≡ true → operands_constant (x ∷ []) ≡ true
  unfolding operands_constant
  one_constant x h = rw h refl

  and_good : (l : Left) (r : Rest) (before : Num) (x : Expr) (num : Num) (w : Value) → IsChainOf p l.first r before l.value → IsGood p x num w → GoodLeft p (with_and l x (and_value l.value w) (ands_of r))
  and_good l (rest.Links []) before x num w c h = record {
    first = c.first;
    rest = (some_first p x h.typed, refl);
    first_constant = λ k. c.first_constant (joined_left join.And l.value w k);
    rest_constant = λ k. one_constant x (h.constant (joined_right join.And l.value w k));
  }
  and_good l (rest.Links (y ∷ ls)) before x num w c h = mixed_good (and_value l.value w)
  and_good l (rest.And xs) before x num w c h = record {
    first = c.first;
    rest = (some_append p xs x c.rest.0 h.typed, refl);
    first_constant = λ k. c.first_constant (joined_left join.And l.value w k);
    rest_constant = λ k. operands_constant_append xs x (c.rest_constant (joined_left join.And l.value w k)) (h.constant (joined_right join.And l.value w k));
  }
  and_good l (rest.Or xs) before x num w c h = mixed_good (and_value l.value w)

  or_good : (l : Left) (r : Rest) (before : Num) (x : Expr) (num : Num) (w : Value) → IsChainOf p l.first r before l.value → IsGood p x num w → GoodLeft p (with_or l x (or_value l.value w) (ors_of r))
  or_good l (rest.Links []) before x num w c h = record {
    first = c.first;
    rest = (some_first p x h.typed, refl);
    first_constant = λ k. c.first_constant (joined_left join.Or l.value w k);
    rest_constant = λ k. one_constant x (h.constant (joined_right join.Or l.value w k));
  }
  or_good l (rest.Links (y ∷ ls)) before x num w c h = mixed_good (or_value l.value w)
  or_good l (rest.Or xs) before x num w c h = record {
    first = c.first;
    rest = (some_append p xs x c.rest.0 h.typed, refl);
    first_constant = λ k. c.first_constant (joined_left join.Or l.value w k);
    rest_constant = λ k. operands_constant_append xs x (c.rest_constant (joined_left join.Or l.value w k)) (h.constant (joined_right join.Or l.value w k));
  }
  or_good l (rest.And xs) before x num w c h = mixed_good (or_value l.value w)

  joined_good : (j : Join) (q : Pos) (l : Left) (before : Num) (x : Expr) (num : Num) (w : Value) → IsChain p l before → IsGood p x num w → GoodLeft p (joined j q l before x num w)
  joined_good join.And q l before x num w c h = and_good l l.rest before x num w c h
  joined_good join.Or q l before x num w c h = or_good l l.rest before x num w c h
  joined_good (join.Link o) q l before x num w c h = link_good o q l l.rest before x num w c h

  some_left_leads : {X : Type 0} (s : Typer) → Leads p X s (λ y t. GoodLeft p y) (Gives some_left s)
  some_left_leads s = gives (λ w x e. some_left_good)

  linked_number : (o : from.Operator) (q : Pos) (l : Left) (x : Expr) (num : Num) (w : Value) (z : Sort) (s : Typer) → Leads p (IsOfSort p l z × IsGood p x num w) s (λ y t. GoodLeft p y)
      ((elim z as (λ _. Typing Left) [
        | sort.Number before ↦ pure (joined (join_of o) q l before x num w)
        | sort.Object ↦ (λ s. Gives some_left (refused 5 q s))
        | sort.Unknown ↦ pure some_left
      ]) s)
  linked_number o q l x num w (sort.Number before) s = gives (λ k h e. joined_good (join_of o) q l before x num w h.0 h.1)
  linked_number o q l x num w sort.Object s = refuses 5 q
  linked_number o q l x num w sort.Unknown s = some_left_leads s

  pub linked_leads : (o : from.Operator) (q : Pos) (l : Left) (x : Operand) (s : Typer) → Leads p (GoodLeft p l × GoodOperand p x) s (λ y t. GoodLeft p y) (linked o q l x s)
  unfolding linked
  linked_leads o q l (a.Number x num w) s = linked_number o q l x num w l.sort s
  linked_leads o q l (a.Struct x k fixed r) s = refuses 5 q
  linked_leads o q l (a.Array r) s = refuses 5 q
  linked_leads o q l a.Unknown s = next (unless (is_object l.sort) 5 q) (λ a u. some_left_leads u)

  chain_good : (first : Expr) (r : Rest) (num : Num) (w : Value) → IsChainOf p first r num w → IsGood p (chain first r) num w
  chain_good x (rest.Links ls) num w c = record {
    typed = chain_typed p x ls c.first c.rest.0;
    is = type_chain x ls ∙ c.rest.1;
    constant = λ k. constant_chain x ls (c.first_constant k) (c.rest_constant k);
  }
  chain_good x (rest.And xs) num w c = record {
    typed = and_typed p x xs c.first c.rest.0;
    is = type_and x xs ∙ sym c.rest.1;
    constant = λ k. constant_and x xs (c.first_constant k) (c.rest_constant k);
  }
  chain_good x (rest.Or xs) num w c = record {
    typed = or_typed p x xs c.first c.rest.0;
    is = type_or x xs ∙ sym c.rest.1;
    constant = λ k. constant_or x xs (c.first_constant k) (c.rest_constant k);
  }

  chain_of : (l : Left) (z : Sort) → IsOfSort p l z → GoodOperand p (elim z as (λ _. Operand) [
    | sort.Number num ↦ a.Number (chain l.first l.rest) num l.value
    | sort.Object ↦ some_number
    | sort.Unknown ↦ a.Unknown
  ])
  chain_of l (sort.Number num) h = chain_good l.first l.rest num l.value h
  chain_of l sort.Object h = stand_in_good p Varies
  chain_of l sort.Unknown h = h

  pub chained_good : (l : Left) → GoodLeft p l → GoodOperand p (chained l)
  chained_good l h = chain_of l l.sort h

  -- ---- choices
  -- what is no structure or array is a number
  pub part_good : (i : Operand) → GoodOperand p i → is_object (sort_of i) ≡ false → IsGood p (expr_or i) (num_or i) (known_value i)
  part_good (a.Number x num w) h o = h
  part_good (a.Struct x k fixed q) h o = cc
  part_good (a.Array q) h o = cc
  part_good a.Unknown h o = absurd h

  choice_good : (c x y : Operand) → IsGood p (expr_or c) (num_or c) (known_value c) → IsGood p (expr_or x) (num_or x) (known_value x) → IsGood p (expr_or y) (num_or y) (known_value y) →
      GoodOperand p (choice_in (common (num_or x) (num_or y)) c x y)
  choice_good c x y h k l =
      let num = common (num_or x) (num_or y) in
      record {
        typed = choice_typed p (expr_or c) (expr_or x) (expr_or y) num h.typed k.typed l.typed (ap (λ (n : Num). converts n num) k.is ∙ convert_left (num_or x) (num_or y))
            (ap (λ (n : Num). converts n num) l.is ∙ convert_right (num_or x) (num_or y));
        is = type_choice (expr_or c) (expr_or x) (expr_or y) num;
        constant = λ e. let all = chosen_constant (known_value c) (known_value x) (known_value y) e in constant_choice (expr_or c) (expr_or x) (expr_or y) num (h.constant all.0) (k.constant all.1.0) (l.constant all.1.1);
      }

  no_objects : (a b c : Bool) → (a || b || c) ≡ false → (a ≡ false) × ((b ≡ false) × (c ≡ false))
  no_objects false false false h = (refl, (refl, refl))
  no_objects false false true h = cc
  no_objects false true c h = cc
  no_objects true b c h = cc

  pub choice_leads : (q : Pos) (c x y : Operand) (s : Typer) → Leads p (GoodOperand p c × (GoodOperand p x × GoodOperand p y)) s (λ i t. GoodOperand p i) (choice q c x y s)
  unfolding choice
  choice_leads q c x y s =
      next (unless (is_object (sort_of c) || is_object (sort_of x) || is_object (sort_of y)) 5 q) (λ a t.
      gives (λ w h e.
      let none = no_objects (is_object (sort_of c)) (is_object (sort_of x)) (is_object (sort_of y)) h.1 in
      choice_good c x y (part_good c h.0.0 none.0) (part_good x h.0.1.0 none.1.0) (part_good y h.0.1.1 none.1.1)))

  -- ---- values that have to be known
  pub no_object_leads : {X : Type 0} (x : Operand) (s : Typer) → Leads p X s Any (no_object x s)
  no_object_leads (a.Number x num v) s = gives (λ w h e. tt)
  no_object_leads (a.Struct x k fixed q) s = refuses 5 q
  no_object_leads (a.Array q) s = refuses 5 q
  no_object_leads a.Unknown s = gives (λ w h e. tt)

  pub constant_leads : {X : Type 0} (q : Pos) (w : Value) (s : Typer) → Leads p X s Any (constant q w s)
  constant_leads q Varies s = refuses 18 q
  constant_leads q (Errs num) s = refuses 18 q
  constant_leads q Unknown s = gives (λ w x e. tt)
  constant_leads q (Is c) s = gives (λ w x e. tt)
