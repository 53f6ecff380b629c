-- Each form of an expression and lists of links, as code sees them; and numbers of typed constant expressions are of their types.
use Rattle.std.proofs.Common.{◌≡◌, ℕ, ◌+◌, ◌<◌, ◌≤◌, ℤ, pos, ◌≤ℤ◌, Bool, true, false, ◌&&◌, not, List, ◌∷◌, length, drop, get_or, refl, sym, ap, subst, ◌∙◌, arith}
use Rattle.std.proofs.lemmas.Int.{ints}
use Rattle.std.proofs.lemmas.List.{drop_more, drop_all}
use Rattle.std.specs.Prelude.{if◌then◌else◌, ◌||◌, IsTrue, Result, Ok, Err, IfOk}
use Rattle.std.specs.Int.RustNames.{int_le}
use Rattle.sa_base.specs.Numbers.{num_lo, num_hi}
use Rattle.sa_base.specs.declared.alarm.Kind.{Kind}
use Rattle.sa_base.specs.declared.num.Num.{Num}
use Rattle.sa_base.specs.declared.num.Num.TheVariants.{I32}
use Rattle.sa_base.specs.declared.pos.Pos.{Pos}
use Rattle.sa_numbers.proofs.Order.{le_from}
use Rattle.sa_typed.specs.Arithmetic.{is_signed, IsOf, IsOperand, IsRight, wrapped, as_num, operate, prefixed, converted, result_type, prefix_type}
use Rattle.sa_typed.specs.Constants.{is_constant, are_constant as row_constant, all_are_constant, constant_value, constant_links, constant_ands, constant_ors, then_ok, and_ok, or_ok, chosen_ok}
use Rattle.sa_typed.specs.Evaluation.{is_zero}
use Rattle.sa_typed.specs.Links.{type_after, AreTypedAfter, IsTypedPart, AreTypedParts, AreTypedOperands, HasType, HaveTypes, all_constant, are_constant, next_value, value_after, AreAfter, ands_after, ors_after, settles_and, settles_or, truth}
use Rattle.sa_typed.specs.TypedExpressions.{IsTypedExpression, AreTypedExpressions, AreSomeTyped, AreTypedLinks as AreTypedRest, AreTypedSteps as AreTypedWays}
use Rattle.sa_typed.specs.WellTyped.{type_of, links_type, converts, right_converts, IsLink, IsTypedExpr, AreTypedLinks, AreTypedSteps}
use Rattle.sa_typed.specs.declared.expr.Access.{Access}
use Rattle.sa_typed.specs.declared.expr.Expr.{Expr, Number, Read', Input, Prefix', Cast', Chain', And', Or', Choice', end_of-Expr, more_of-Expr, Row_of-Expr, items-the_row-Expr, items_hidden-the_row-Expr-3, Row_of-Link, end_of-Link, more_of-Link, items-the_row-Link, items_hidden-the_row-Link-2, Row_of-Step, end_of-Step, more_of-Step}
use Rattle.sa_typed.specs.declared.expr.Step.{Step, At', Field}
use Rattle.sa_typed.specs.declared.expr.Expr.TheVariants as v
use Rattle.sa_typed.specs.declared.expr.Link.{Link, out-Link}
use Rattle.sa_typed.specs.declared.expr.Operator.{Operator}
use Rattle.sa_typed.specs.declared.expr.Operator.TheVariants as o
use Rattle.sa_typed.specs.declared.expr.Prefix.{Prefix}
use Rattle.sa_typed.specs.declared.program.Program.{Program}
use Rattle.sa_typed.proofs.ArithmeticLaws.{num_facts, of_small, is_of_from, wrapped_of, in_type_of, operate_of, prefixed_of}

-- ---- operands
or_cases : (a b : Bool) → (a || b) ≡ true → a ≡ false → b ≡ true
or_cases true b h e = cc
or_cases false b h e = h

and_left : (a b : Bool) → (a && b) ≡ true → a ≡ true
and_left true b h = refl
and_left false b h = cc

and_right : (a b : Bool) → (a && b) ≡ true → b ≡ true
and_right true b h = h
and_right false b h = cc

signed_holds : (from to : Num) → converts from to ≡ true → is_signed to ≡ true → (num_lo to ≤ℤ num_lo from) × (num_hi from ≤ℤ num_hi to)
unfolding converts
signed_holds from to h s =
    let e : not (is_signed to) ≡ false = rw s refl in
    let k = or_cases (not (is_signed to)) _ h e in
    (le_from _ _ (and_left (int_le (num_lo to) (num_lo from)) _ k), le_from _ _ (and_right (int_le (num_lo to) (num_lo from)) _ k))

pub number_suits : (from to : Num) (z : ℤ) → IsTrue (converts from to) → IsOf from z → IsOperand to z
unfolding as_num
number_suits from to z h k = record { small = of_small from z k; converts = by_sign }
  where
    by_sign : IsOf to (as_num to z)
    by_sign =
        elim (is_signed to) as (λ b. is_signed to ≡ b → IsOf to (if b then z else wrapped to z)) [
          | true ↦ λ e. let w = signed_holds from to h e in let a = k.low in let b = k.high in record { low = omega (arith, ints, w.0); high = omega (arith, ints, w.1) }
          | false ↦ λ e. wrapped_of to z e
        ] refl

right_suits : (op : Operator) (from to : Num) (z : ℤ) → IsTrue (right_converts op from to) → IsOf from z → IsRight op to z
right_suits o.Plus from to z h k = number_suits from to z h k
right_suits o.Minus from to z h k = number_suits from to z h k
right_suits o.Times from to z h k = number_suits from to z h k
right_suits o.Divide from to z h k = number_suits from to z h k
right_suits o.Remainder from to z h k = number_suits from to z h k
right_suits o.ShiftLeft from to z h k = of_small from z k
right_suits o.ShiftRight from to z h k = of_small from z k
right_suits o.BitAnd from to z h k = number_suits from to z h k
right_suits o.BitXor from to z h k = number_suits from to z h k
right_suits o.BitOr from to z h k = number_suits from to z h k
right_suits o.Equal from to z h k = number_suits from to z h k
right_suits o.NotEqual from to z h k = number_suits from to z h k
right_suits o.Less from to z h k = number_suits from to z h k
right_suits o.LessEqual from to z h k = number_suits from to z h k
right_suits o.Greater from to z h k = number_suits from to z h k
right_suits o.GreaterEqual from to z h k = number_suits from to z h k

-- ---- numbers are of their types
abbrev GivesOf : Num → Result ℤ Kind → Type 0
GivesOf num r = IfOk r (λ z. IsOf num z)

zero_of : (num : Num) → IsOf num (pos 0)
zero_of num = let f = num_facts num in record { low = f.not_above; high = (let a = f.not_below in omega (arith, ints, a)) }

prefix_of : (op : Prefix) (num from : Num) (r : Result ℤ Kind) → IsTrue (converts from num) → GivesOf from r → GivesOf (prefix_type op num) (then_ok r (prefixed op num))
prefix_of op num from (Ok x) c h = prefixed_of op num x (number_suits from num x c h)
prefix_of op num from (Err kind) c h = tt

cast_of : (num from : Num) (r : Result ℤ Kind) → GivesOf from r → GivesOf num (then_ok r (converted num))
cast_of num from (Ok x) h = in_type_of Kind.Conversion num x
cast_of num from (Err kind) h = tt

link_of : (op : Operator) (left work right : Num) (r s : Result ℤ Kind) → IsLink op left work right → GivesOf left r → GivesOf right s →
    GivesOf (result_type op work) (then_ok r (λ x. then_ok s (operate op work x)))
link_of op left work right (Ok x) (Ok y) l h k = operate_of op work x y (number_suits left work x l.first h) (right_suits op right work y l.second k)
link_of op left work right (Ok x) (Err kind) l h k = tt
link_of op left work right (Err kind) s l h k = tt

and_of : (r next : Result ℤ Kind) → GivesOf I32 next → GivesOf I32 (and_ok r next)
and_of (Ok x) next h =
    elim (is_zero x) as (λ b. GivesOf I32 (if b then Ok (pos 0) else next)) [ true ↦ zero_of I32 | false ↦ h ]
and_of (Err kind) next h = tt

one_of : IsOf I32 (pos 1)
one_of = is_of_from I32 (pos 1) refl

or_of : (r next : Result ℤ Kind) → GivesOf I32 next → GivesOf I32 (or_ok r next)
or_of (Ok x) next h =
    elim (is_zero x) as (λ b. GivesOf I32 (if b then next else Ok (pos 1))) [ true ↦ h | false ↦ one_of ]
or_of (Err kind) next h = tt

as_num_of : (num from : Num) (r : Result ℤ Kind) → IsTrue (converts from num) → GivesOf from r → GivesOf num (then_ok r (λ z. Ok (as_num num z)))
as_num_of num from (Ok z) c h = (number_suits from num z c h).converts
as_num_of num from (Err kind) c h = tt

choice_of : (num left right : Num) (r s t : Result ℤ Kind) → IsTrue (converts left num) → IsTrue (converts right num) → GivesOf left s → GivesOf right t → GivesOf num (chosen_ok num r s t)
choice_of num left right (Ok x) s t c d h k =
    elim (is_zero x) as (λ b. GivesOf num (then_ok (if b then t else s) (λ z. Ok (as_num num z)))) [ true ↦ as_num_of num right t d k | false ↦ as_num_of num left s c h ]
choice_of num left right (Err kind) s t c d h k = tt

mutual
  unfolding constant_value IsTypedExpression type_of links_type

  constant_of : (p : Program) (e : Expr) → IsTypedExpression p e → GivesOf (type_of e) (constant_value e)
  constant_of p (Number n num) t = is_of_from num (pos n) t
  constant_of p (Read' v n steps num) t = zero_of num
  constant_of p (Input k num) t = zero_of num
  constant_of p (Prefix' op q num n (more_of-Expr a end_of-Expr)) t = prefix_of op num (type_of a) (constant_value a) t.1 (constant_of p a t.0)
  constant_of p (Cast' q num n (more_of-Expr a end_of-Expr)) t = cast_of num (type_of a) (constant_value a) (constant_of p a t)
  constant_of p (Chain' n (more_of-Expr a end_of-Expr) m ls) t = links_of_type p ls (type_of a) (constant_value a) t.1 (constant_of p a t.0)
  constant_of p (And' n (more_of-Expr a end_of-Expr) m rest) t = ands_of_type rest (constant_value a)
  constant_of p (Or' n (more_of-Expr a end_of-Expr) m rest) t = ors_of_type rest (constant_value a)
  constant_of p (Choice' n (more_of-Expr a end_of-Expr) m (more_of-Expr b end_of-Expr) l (more_of-Expr c end_of-Expr) num) t =
      choice_of num (type_of b) (type_of c) (constant_value a) (constant_value b) (constant_value c) t.1.0.1 t.1.1.1 (constant_of p b t.1.0.0) (constant_of p c t.1.1.0)

  ands_of_type : {n : _} (row : Row_of-Expr n) (r : Result ℤ Kind) → GivesOf I32 (constant_ands row r)
  ands_of_type end_of-Expr r = and_of r (Ok (pos 1)) one_of
  ands_of_type (more_of-Expr b rest) r = and_of r (constant_ands rest (constant_value b)) (ands_of_type rest (constant_value b))

  ors_of_type : {n : _} (row : Row_of-Expr n) (r : Result ℤ Kind) → GivesOf I32 (constant_ors row r)
  ors_of_type end_of-Expr r = or_of r (Ok (pos 0)) (zero_of I32)
  ors_of_type (more_of-Expr b rest) r = or_of r (constant_ors rest (constant_value b)) (ors_of_type rest (constant_value b))

  links_of_type : {n : _} (p : Program) (row : Row_of-Link n) (left : Num) (r : Result ℤ Kind) → AreTypedRest p left row → GivesOf left r → GivesOf (links_type left row) (constant_links row r)
  links_of_type p end_of-Link left r t h = h
  links_of_type p (more_of-Link op q work b rest) left r t h =
      links_of_type p rest (result_type op work) (then_ok r (λ x. then_ok (constant_value b) (operate op work x))) t.1.1
      (link_of op left work (type_of b) r (constant_value b) t.1.0 h (constant_of p b t.0))

-- ---- what is typed without `&&`, `||` and `?:` is typed
mutual
  unfolding IsTypedExpr IsTypedExpression

  pub typed_still : (p : Program) (e : Expr) → IsTypedExpr p e → IsTypedExpression p e
  typed_still p (Number n num) t = t
  typed_still p (Read' v n steps num) t = (steps_still p steps t.0, t.1)
  typed_still p (Input k num) t = t
  typed_still p (Prefix' op q num n (more_of-Expr a end_of-Expr)) t = (typed_still p a t.0, t.1)
  typed_still p (Cast' q num n (more_of-Expr a end_of-Expr)) t = typed_still p a t
  typed_still p (Chain' n (more_of-Expr a end_of-Expr) m ls) t = (typed_still p a t.0, links_still p ls (type_of a) t.1)
  typed_still p (And' _ _ _ _) t = elim t [ ]
  typed_still p (Or' _ _ _ _) t = elim t [ ]
  typed_still p (Choice' _ _ _ _ _ _ _) t = elim t [ ]

  links_still : {n : _} (p : Program) (row : Row_of-Link n) (left : Num) → AreTypedLinks p left row → AreTypedRest p left row
  links_still p end_of-Link left t = tt
  links_still p (more_of-Link op q work b rest) left t = (typed_still p b t.0, (t.1.0, links_still p rest (result_type op work) t.1.1))

  pub steps_still : {n : _} (p : Program) (row : Row_of-Step n) → AreTypedSteps p row → AreTypedWays p row
  steps_still p end_of-Step t = tt
  steps_still p (more_of-Step (At' q m k (more_of-Expr a end_of-Expr)) rest) t = (typed_still p a t.0, steps_still p rest t.1)
  steps_still p (more_of-Step (Field x) rest) t = (tt, steps_still p rest t.1)

-- ---- rows as lists
abbrev links_of : Expr → (n : _) × Row_of-Link n
links_of (Chain' n a m ls) = (_, ls)
links_of _ = (_, end_of-Link)

abbrev operands_of : Expr → (n : _) × Row_of-Expr n
operands_of (And' n a m rest) = (_, rest)
operands_of (Or' n a m rest) = (_, rest)
operands_of _ = (_, end_of-Expr)

operands_row : (n : _) (r : Row_of-Expr n) → all_are_constant r ≡ are_constant (items-the_row-Expr n r)
unfolding is_constant are_constant
operands_row n end_of-Expr = refl
operands_row n (more_of-Expr b rest) = ap (λ (x : Bool). is_constant b && x) (operands_row _ rest)

constant_row : (n : _) (r : Row_of-Link n) → row_constant r ≡ all_constant (items-the_row-Link n r)
unfolding is_constant all_constant
constant_row n end_of-Link = refl
constant_row n (more_of-Link op q num b rest) = ap (λ (x : Bool). is_constant b && x) (constant_row _ rest)

value_row : (n : _) (r : Row_of-Link n) (x : Result ℤ Kind) → constant_links r x ≡ value_after (items-the_row-Link n r) x
unfolding constant_value value_after
value_row n end_of-Link x = refl
value_row n (more_of-Link op q num b rest) x = value_row _ rest (then_ok x (λ x. then_ok (constant_value b) (operate op num x)))

ands_row : (n : _) (r : Row_of-Expr n) (x : Result ℤ Kind) → constant_ands r x ≡ ands_after (items-the_row-Expr n r) x
unfolding constant_value ands_after
ands_row n end_of-Expr x = refl
ands_row n (more_of-Expr b rest) x = ap (λ (y : Result ℤ Kind). and_ok x y) (ands_row _ rest (constant_value b))

ors_row : (n : _) (r : Row_of-Expr n) (x : Result ℤ Kind) → constant_ors r x ≡ ors_after (items-the_row-Expr n r) x
unfolding constant_value ors_after
ors_row n end_of-Expr x = refl
ors_row n (more_of-Expr b rest) x = ap (λ (y : Result ℤ Kind). or_ok x y) (ors_row _ rest (constant_value b))

parts_row : (p : Program) (n : _) (r : Row_of-Link n) (left : Num) → AreTypedRest p left r → AreTypedParts p left (items-the_row-Link n r)
unfolding IsTypedExpression AreTypedParts
parts_row p n end_of-Link left t = tt
parts_row p n (more_of-Link op q num b rest) left t = (record { operand = t.0; link = t.1.0 }, parts_row p _ rest (result_type op num) t.1.1)

some_typed : (p : Program) (n : _) (r : Row_of-Expr n) → AreSomeTyped p r → AreTypedExpressions p r
unfolding IsTypedExpression
some_typed p n end_of-Expr t = elim t [ ]
some_typed p n (more_of-Expr b rest) t = t

typed_operands_row : (p : Program) (n : _) (r : Row_of-Expr n) → AreTypedExpressions p r → AreTypedOperands p (items-the_row-Expr n r)
unfolding IsTypedExpression AreTypedOperands
typed_operands_row p n end_of-Expr t = tt
typed_operands_row p n (more_of-Expr b rest) t = (t.0, typed_operands_row p _ rest t.1)

pub typed_row : (p : Program) (n : _) (r : Row_of-Link n) (left : Num) → AreTypedLinks p left r → AreTypedAfter p left (items-the_row-Link n r)
unfolding IsTypedExpr AreTypedAfter
typed_row p n end_of-Link left t = tt
typed_row p n (more_of-Link op q num b rest) left t = (record { operand = t.0; link = t.1.0 }, typed_row p _ rest (result_type op num) t.1.1)

-- ---- whether an expression is constant, by its form
pub constant_number : (n : ℕ) (num : Num) → is_constant (v.Number n num) ≡ true
unfolding is_constant
constant_number n num = refl

pub constant_read : (x : Access) (num : Num) → is_constant (v.Read x num) ≡ false
unfolding is_constant Rattle.sa_typed.specs.declared.expr.Expr.TheBlock.hidden-the_row-Step-0 denote.Hole.Carrier.hidden
constant_read x num = refl

pub constant_input : (k : ℕ) (num : Num) → is_constant (v.Input k num) ≡ false
unfolding is_constant
constant_input k num = refl

pub constant_prefix : (op : Prefix) (q : Pos) (num : Num) (a : Expr) → is_constant (v.Prefix op q num a) ≡ is_constant a
unfolding is_constant Rattle.sa_typed.specs.declared.expr.Expr.TheBlock.hidden-the_row-Expr-1 denote.Hole.Carrier.hidden
constant_prefix op q num a = refl

pub constant_cast : (q : Pos) (num : Num) (a : Expr) → is_constant (v.Cast q num a) ≡ is_constant a
unfolding is_constant Rattle.sa_typed.specs.declared.expr.Expr.TheBlock.hidden-the_row-Expr-1 denote.Hole.Carrier.hidden
constant_cast q num a = refl

pub constant_chain : (a : Expr) (ls : List Link) → is_constant (v.Chain a ls) ≡ (is_constant a && all_constant ls)
unfolding is_constant Rattle.sa_typed.specs.declared.expr.Expr.TheBlock.hidden-the_row-Expr-1 denote.Hole.Carrier.hidden
constant_chain a ls =
    let row = links_of (v.Chain a ls) in
    ap (λ (x : Bool). is_constant a && x) (constant_row row.0 row.1 ∙ ap all_constant (items_hidden-the_row-Link-2 ls))

pub constant_and : (a : Expr) (es : List Expr) → is_constant (v.And a es) ≡ (is_constant a && are_constant es)
unfolding is_constant Rattle.sa_typed.specs.declared.expr.Expr.TheBlock.hidden-the_row-Expr-1 denote.Hole.Carrier.hidden
constant_and a es =
    let row = operands_of (v.And a es) in
    ap (λ (x : Bool). is_constant a && x) (operands_row row.0 row.1 ∙ ap are_constant (items_hidden-the_row-Expr-3 es))

pub constant_or : (a : Expr) (es : List Expr) → is_constant (v.Or a es) ≡ (is_constant a && are_constant es)
unfolding is_constant Rattle.sa_typed.specs.declared.expr.Expr.TheBlock.hidden-the_row-Expr-1 denote.Hole.Carrier.hidden
constant_or a es =
    let row = operands_of (v.Or a es) in
    ap (λ (x : Bool). is_constant a && x) (operands_row row.0 row.1 ∙ ap are_constant (items_hidden-the_row-Expr-3 es))

pub constant_choice : (a b c : Expr) (num : Num) → is_constant (v.Choice a b c num) ≡ (is_constant a && (is_constant b && is_constant c))
unfolding is_constant Rattle.sa_typed.specs.declared.expr.Expr.TheBlock.hidden-the_row-Expr-1 denote.Hole.Carrier.hidden
constant_choice a b c num = refl

-- ---- the value of a constant expression, by its form
pub value_number : (n : ℕ) (num : Num) → constant_value (v.Number n num) ≡ Ok (pos n)
unfolding constant_value
value_number n num = refl

pub value_read : (x : Access) (num : Num) → constant_value (v.Read x num) ≡ Ok (pos 0)
unfolding constant_value Rattle.sa_typed.specs.declared.expr.Expr.TheBlock.hidden-the_row-Step-0 denote.Hole.Carrier.hidden
value_read x num = refl

pub value_input : (k : ℕ) (num : Num) → constant_value (v.Input k num) ≡ Ok (pos 0)
unfolding constant_value
value_input k num = refl

pub value_prefix : (op : Prefix) (q : Pos) (num : Num) (a : Expr) → constant_value (v.Prefix op q num a) ≡ then_ok (constant_value a) (prefixed op num)
unfolding constant_value Rattle.sa_typed.specs.declared.expr.Expr.TheBlock.hidden-the_row-Expr-1 denote.Hole.Carrier.hidden
value_prefix op q num a = refl

pub value_cast : (q : Pos) (num : Num) (a : Expr) → constant_value (v.Cast q num a) ≡ then_ok (constant_value a) (converted num)
unfolding constant_value Rattle.sa_typed.specs.declared.expr.Expr.TheBlock.hidden-the_row-Expr-1 denote.Hole.Carrier.hidden
value_cast q num a = refl

pub value_chain : (a : Expr) (ls : List Link) → constant_value (v.Chain a ls) ≡ value_after ls (constant_value a)
unfolding constant_value Rattle.sa_typed.specs.declared.expr.Expr.TheBlock.hidden-the_row-Expr-1 denote.Hole.Carrier.hidden
value_chain a ls =
    let row = links_of (v.Chain a ls) in
    value_row row.0 row.1 (constant_value a) ∙ ap (λ (xs : List Link). value_after xs (constant_value a)) (items_hidden-the_row-Link-2 ls)

pub value_and : (a : Expr) (es : List Expr) → constant_value (v.And a es) ≡ ands_after es (constant_value a)
unfolding constant_value Rattle.sa_typed.specs.declared.expr.Expr.TheBlock.hidden-the_row-Expr-1 denote.Hole.Carrier.hidden
value_and a es =
    let row = operands_of (v.And a es) in
    ands_row row.0 row.1 (constant_value a) ∙ ap (λ (xs : List Expr). ands_after xs (constant_value a)) (items_hidden-the_row-Expr-3 es)

pub value_or : (a : Expr) (es : List Expr) → constant_value (v.Or a es) ≡ ors_after es (constant_value a)
unfolding constant_value Rattle.sa_typed.specs.declared.expr.Expr.TheBlock.hidden-the_row-Expr-1 denote.Hole.Carrier.hidden
value_or a es =
    let row = operands_of (v.Or a es) in
    ors_row row.0 row.1 (constant_value a) ∙ ap (λ (xs : List Expr). ors_after xs (constant_value a)) (items_hidden-the_row-Expr-3 es)

pub value_choice : (a b c : Expr) (num : Num) → constant_value (v.Choice a b c num) ≡ chosen_ok num (constant_value a) (constant_value b) (constant_value c)
unfolding constant_value Rattle.sa_typed.specs.declared.expr.Expr.TheBlock.hidden-the_row-Expr-1 denote.Hole.Carrier.hidden
value_choice a b c num = refl

-- ---- what typing promises of the parts of a form
module _ (p : Program) where
  prefix_parts : (op : Prefix) (q : Pos) (num : Num) (a : Expr) → IsTypedExpression p (v.Prefix op q num a) → IsTypedExpression p a × IsTrue (converts (type_of a) num)
  unfolding IsTypedExpression Rattle.sa_typed.specs.declared.expr.Expr.TheBlock.hidden-the_row-Expr-1 denote.Hole.Carrier.hidden
  prefix_parts op q num a t = t

  cast_part : (q : Pos) (num : Num) (a : Expr) → IsTypedExpression p (v.Cast q num a) → IsTypedExpression p a
  unfolding IsTypedExpression Rattle.sa_typed.specs.declared.expr.Expr.TheBlock.hidden-the_row-Expr-1 denote.Hole.Carrier.hidden
  cast_part q num a t = t

  chain_parts : (a : Expr) (ls : List Link) → IsTypedExpression p (v.Chain a ls) → IsTypedExpression p a × AreTypedParts p (type_of a) ls
  unfolding IsTypedExpression Rattle.sa_typed.specs.declared.expr.Expr.TheBlock.hidden-the_row-Expr-1 denote.Hole.Carrier.hidden
  chain_parts a ls t =
      let row = links_of (v.Chain a ls) in
      (t.0, subst (λ (xs : List Link). AreTypedParts p (type_of a) xs) (items_hidden-the_row-Link-2 ls) (parts_row p row.0 row.1 (type_of a) t.1))

  and_parts : (a : Expr) (es : List Expr) → IsTypedExpression p (v.And a es) → IsTypedExpression p a × AreTypedOperands p es
  unfolding IsTypedExpression Rattle.sa_typed.specs.declared.expr.Expr.TheBlock.hidden-the_row-Expr-1 denote.Hole.Carrier.hidden
  and_parts a es t =
      let row = operands_of (v.And a es) in
      (t.0, subst (λ (xs : List Expr). AreTypedOperands p xs) (items_hidden-the_row-Expr-3 es) (typed_operands_row p row.0 row.1 (some_typed p row.0 row.1 t.1)))

  or_parts : (a : Expr) (es : List Expr) → IsTypedExpression p (v.Or a es) → IsTypedExpression p a × AreTypedOperands p es
  unfolding IsTypedExpression Rattle.sa_typed.specs.declared.expr.Expr.TheBlock.hidden-the_row-Expr-1 denote.Hole.Carrier.hidden
  or_parts a es t =
      let row = operands_of (v.Or a es) in
      (t.0, subst (λ (xs : List Expr). AreTypedOperands p xs) (items_hidden-the_row-Expr-3 es) (typed_operands_row p row.0 row.1 (some_typed p row.0 row.1 t.1)))

  choice_parts : (a b c : Expr) (num : Num) → IsTypedExpression p (v.Choice a b c num) →
      IsTypedExpression p a × ((IsTypedExpression p b × IsTrue (converts (type_of b) num)) × (IsTypedExpression p c × IsTrue (converts (type_of c) num)))
  unfolding IsTypedExpression Rattle.sa_typed.specs.declared.expr.Expr.TheBlock.hidden-the_row-Expr-1 denote.Hole.Carrier.hidden
  choice_parts a b c num t = t

  pub prefix_typed : (op : Prefix) (q : Pos) (num : Num) (a : Expr) → IsTypedExpr p (v.Prefix op q num a) → IsTypedExpr p a × IsTrue (converts (type_of a) num)
  unfolding IsTypedExpr Rattle.sa_typed.specs.declared.expr.Expr.TheBlock.hidden-the_row-Expr-1 denote.Hole.Carrier.hidden
  prefix_typed op q num a t = t

  pub cast_typed : (q : Pos) (num : Num) (a : Expr) → IsTypedExpr p (v.Cast q num a) → IsTypedExpr p a
  unfolding IsTypedExpr Rattle.sa_typed.specs.declared.expr.Expr.TheBlock.hidden-the_row-Expr-1 denote.Hole.Carrier.hidden
  cast_typed q num a t = t

  pub chain_typed : (a : Expr) (ls : List Link) → IsTypedExpr p (v.Chain a ls) → IsTypedExpr p a × AreTypedAfter p (type_of a) ls
  unfolding IsTypedExpr Rattle.sa_typed.specs.declared.expr.Expr.TheBlock.hidden-the_row-Expr-1 denote.Hole.Carrier.hidden
  chain_typed a ls t =
      let row = links_of (v.Chain a ls) in
      (t.0, subst (λ (xs : List Link). AreTypedAfter p (type_of a) xs) (items_hidden-the_row-Link-2 ls) (typed_row p row.0 row.1 (type_of a) t.1))

-- ---- lists, one step on and at the end
next : {A : Type 0} (xs : List A) (i : ℕ) (x : A) → i < length xs → x ≡ get_or xs i x → drop i xs ≡ x ∷ drop (i + 1) xs
next xs i x h e = drop_more xs i x h ∙ ap (λ (y : _). y ∷ drop (i + 1) xs) (sym e)

module _ (ls : List Link) (i : ℕ) (l : Link) (here : i < length ls) (is : l ≡ get_or ls i l) where
  from : all_constant ls ≡ all_constant (drop i ls) → all_constant ls ≡ (is_constant (out-Link l).operand && all_constant (drop (i + 1) ls))
  unfolding all_constant
  from e = e ∙ ap all_constant (next ls i l here is)

  pub constant_more : all_constant ls ≡ all_constant (drop i ls) → is_constant (out-Link l).operand ≡ true → all_constant ls ≡ all_constant (drop (i + 1) ls)
  constant_more e t = from e ∙ ap (λ (x : Bool). x && all_constant (drop (i + 1) ls)) t

  pub constant_stop : all_constant ls ≡ all_constant (drop i ls) → is_constant (out-Link l).operand ≡ false → all_constant ls ≡ false
  constant_stop e t = from e ∙ ap (λ (x : Bool). x && all_constant (drop (i + 1) ls)) t

pub constant_end : (ls : List Link) (i : ℕ) → length ls ≤ i → all_constant ls ≡ all_constant (drop i ls) → all_constant ls ≡ true
unfolding all_constant
constant_end ls i h e = e ∙ ap all_constant (drop_all i ls h)

pub ruleset of_constants = (constant_number, constant_read, constant_input, constant_prefix, constant_cast, constant_chain, constant_and, constant_or, constant_choice)

-- the same of operands without operators between
module _ (es : List Expr) (i : ℕ) (e : Expr) (here : i < length es) (is : e ≡ get_or es i e) where
  operands_from : are_constant es ≡ are_constant (drop i es) → are_constant es ≡ (is_constant e && are_constant (drop (i + 1) es))
  unfolding are_constant
  operands_from h = h ∙ ap are_constant (next es i e here is)

  pub operand_more : are_constant es ≡ are_constant (drop i es) → is_constant e ≡ true → are_constant es ≡ are_constant (drop (i + 1) es)
  operand_more h t = operands_from h ∙ ap (λ (x : Bool). x && are_constant (drop (i + 1) es)) t

  pub operand_stop : are_constant es ≡ are_constant (drop i es) → is_constant e ≡ false → are_constant es ≡ false
  operand_stop h t = operands_from h ∙ ap (λ (x : Bool). x && are_constant (drop (i + 1) es)) t

pub operand_end : (es : List Expr) (i : ℕ) → length es ≤ i → are_constant es ≡ are_constant (drop i es) → are_constant es ≡ true
unfolding are_constant
operand_end es i h e = e ∙ ap are_constant (drop_all i es h)

pub ruleset of_are_constant = (operand_more, operand_stop, operand_end)

pub ruleset of_all_constant = (constant_more, constant_stop, constant_end)

-- ---- what the calls of operators need
left_fits : (num left : Num) (r : Result ℤ Kind) → IsTrue (converts left num) → GivesOf left r → IfOk r (λ x. IsOperand num x)
left_fits num left (Ok z) c h = number_suits left num z c h
left_fits num left (Err kind) c h = tt

right_fits : (op : Operator) (num right : Num) (r : Result ℤ Kind) → IsTrue (right_converts op right num) → GivesOf right r → IfOk r (λ y. IsRight op num y)
right_fits op num right (Ok z) c h = right_suits op right num z c h
right_fits op num right (Err kind) c h = tt

pub prefix_has : (e : Expr) (op : Prefix) (q : Pos) (num : Num) (a : Expr) → e ≡ v.Prefix op q num a → HasType e → HasType a
prefix_has e op q num a is h = record { program = h.program; typed = (prefix_parts h.program op q num a (subst (IsTypedExpression h.program) is h.typed)).0 }

pub prefix_operand : (e : Expr) (op : Prefix) (q : Pos) (num : Num) (a : Expr) → e ≡ v.Prefix op q num a → HasType e → IfOk (constant_value a) (λ x. IsOperand num x)
prefix_operand e op q num a is h =
    let t = prefix_parts h.program op q num a (subst (IsTypedExpression h.program) is h.typed) in
    left_fits num (type_of a) (constant_value a) t.1 (constant_of h.program a t.0)

pub cast_has : (e : Expr) (q : Pos) (num : Num) (a : Expr) → e ≡ v.Cast q num a → HasType e → HasType a
cast_has e q num a is h = record { program = h.program; typed = cast_part h.program q num a (subst (IsTypedExpression h.program) is h.typed) }

pub chain_has : (e : Expr) (a : Expr) (ls : List Link) → e ≡ v.Chain a ls → HasType e → HasType a
chain_has e a ls is h = record { program = h.program; typed = (chain_parts h.program a ls (subst (IsTypedExpression h.program) is h.typed)).0 }

pub chain_after : (e : Expr) (a : Expr) (ls : List Link) → e ≡ v.Chain a ls → HasType e → AreAfter (constant_value a) ls
chain_after e a ls is h =
    let t = chain_parts h.program a ls (subst (IsTypedExpression h.program) is h.typed) in
    record { program = h.program; left = type_of a; of_type = constant_of h.program a t.0; links = t.1 }

pub and_has : (e a : Expr) (es : List Expr) → e ≡ v.And a es → HasType e → HasType a
and_has e a es is h = record { program = h.program; typed = (and_parts h.program a es (subst (IsTypedExpression h.program) is h.typed)).0 }

pub and_rest : (e a : Expr) (es : List Expr) → e ≡ v.And a es → HasType e → HaveTypes es
and_rest e a es is h = record { program = h.program; typed = (and_parts h.program a es (subst (IsTypedExpression h.program) is h.typed)).1 }

pub or_has : (e a : Expr) (es : List Expr) → e ≡ v.Or a es → HasType e → HasType a
or_has e a es is h = record { program = h.program; typed = (or_parts h.program a es (subst (IsTypedExpression h.program) is h.typed)).0 }

pub or_rest : (e a : Expr) (es : List Expr) → e ≡ v.Or a es → HasType e → HaveTypes es
or_rest e a es is h = record { program = h.program; typed = (or_parts h.program a es (subst (IsTypedExpression h.program) is h.typed)).1 }

module _ (e a b c : Expr) (num : Num) (is : e ≡ v.Choice a b c num) (h : HasType e) where
  choice_of_parts : IsTypedExpression h.program a × ((IsTypedExpression h.program b × IsTrue (converts (type_of b) num)) × (IsTypedExpression h.program c × IsTrue (converts (type_of c) num)))
  choice_of_parts = choice_parts h.program a b c num (subst (IsTypedExpression h.program) is h.typed)

  pub choice_test : HasType a
  choice_test = record { program = h.program; typed = choice_of_parts.0 }

  pub choice_first : HasType b
  choice_first = record { program = h.program; typed = choice_of_parts.1.0.0 }

  pub choice_second : HasType c
  choice_second = record { program = h.program; typed = choice_of_parts.1.1.0 }

pub ruleset of_values = (value_number, value_read, value_input, value_prefix, value_cast, value_chain, value_and, value_or, value_choice, prefix_has, prefix_operand, cast_has, chain_has, chain_after, and_has, and_rest, or_has, or_rest, choice_test, choice_first, choice_second)

-- ---- operands of `&&` and `||` after a value
pub and_settled : (r next : Result ℤ Kind) → settles_and r ≡ true → and_ok r next ≡ truth r
and_settled (Ok x) next h = rw h refl
and_settled (Err kind) next h = refl

pub and_goes_on : (r next : Result ℤ Kind) → settles_and r ≡ false → and_ok r next ≡ next
and_goes_on (Ok x) next h = rw h refl
and_goes_on (Err kind) next h = cc

not_true : (b : Bool) → not b ≡ true → b ≡ false
not_true true h = cc
not_true false h = refl

not_false : (b : Bool) → not b ≡ false → b ≡ true
not_false true h = refl
not_false false h = cc

pub or_settled : (r next : Result ℤ Kind) → settles_or r ≡ true → or_ok r next ≡ truth r
or_settled (Ok x) next h = let e = not_true (is_zero x) h in rw e refl
or_settled (Err kind) next h = refl

pub or_goes_on : (r next : Result ℤ Kind) → settles_or r ≡ false → or_ok r next ≡ next
or_goes_on (Ok x) next h = let e = not_false (is_zero x) h in rw e refl
or_goes_on (Err kind) next h = cc

or_truth : (r : Result ℤ Kind) → or_ok r (Ok (pos 0)) ≡ truth r
or_truth (Ok x) = refl
or_truth (Err kind) = refl

module _ (whole r : Result ℤ Kind) (es : List Expr) (i : ℕ) where
  pub ands_end : length es ≤ i → whole ≡ ands_after (drop i es) r → truth r ≡ whole
  unfolding ands_after
  ands_end h e = sym (e ∙ ap (λ (xs : List Expr). ands_after xs r) (drop_all i es h))

  pub ors_end : length es ≤ i → whole ≡ ors_after (drop i es) r → truth r ≡ whole
  unfolding ors_after
  ors_end h e = sym (e ∙ ap (λ (xs : List Expr). ors_after xs r) (drop_all i es h) ∙ or_truth r)

  module _ (a : Expr) (here : i < length es) (is : a ≡ get_or es i a) where
    pub ands_stop : whole ≡ ands_after (drop i es) r → settles_and r ≡ true → truth r ≡ whole
    unfolding ands_after
    ands_stop e h = sym (e ∙ ap (λ (xs : List Expr). ands_after xs r) (next es i a here is) ∙ and_settled r (ands_after (drop (i + 1) es) (constant_value a)) h)

    pub ands_more : whole ≡ ands_after (drop i es) r → settles_and r ≡ false → whole ≡ ands_after (drop (i + 1) es) (constant_value a)
    unfolding ands_after
    ands_more e h = e ∙ ap (λ (xs : List Expr). ands_after xs r) (next es i a here is) ∙ and_goes_on r (ands_after (drop (i + 1) es) (constant_value a)) h

    pub ors_stop : whole ≡ ors_after (drop i es) r → settles_or r ≡ true → truth r ≡ whole
    unfolding ors_after
    ors_stop e h = sym (e ∙ ap (λ (xs : List Expr). ors_after xs r) (next es i a here is) ∙ or_settled r (ors_after (drop (i + 1) es) (constant_value a)) h)

    pub ors_more : whole ≡ ors_after (drop i es) r → settles_or r ≡ false → whole ≡ ors_after (drop (i + 1) es) (constant_value a)
    unfolding ors_after
    ors_more e h = e ∙ ap (λ (xs : List Expr). ors_after xs r) (next es i a here is) ∙ or_goes_on r (ors_after (drop (i + 1) es) (constant_value a)) h

module _ (es : List Expr) (i : ℕ) (a : Expr) (here : i < length es) (is : a ≡ get_or es i a) where
  pub operand_has : HaveTypes (drop i es) → HasType a
  unfolding AreTypedOperands
  operand_has h = record { program = h.program; typed = (subst (AreTypedOperands h.program) (next es i a here is) h.typed).0 }

  pub operands_more : HaveTypes (drop i es) → HaveTypes (drop (i + 1) es)
  unfolding AreTypedOperands
  operands_more h = record { program = h.program; typed = (subst (AreTypedOperands h.program) (next es i a here is) h.typed).1 }

pub ruleset of_ands = (ands_end, ands_stop, ands_more, operand_has, operands_more)

pub ruleset of_ors = (ors_end, ors_stop, ors_more, operand_has, operands_more)

-- ---- links after a value
module _ (r : Result ℤ Kind) (ls : List Link) (i : ℕ) (l : Link) (here : i < length ls) (is : l ≡ get_or ls i l) (after : AreAfter r (drop i ls)) where
  first : IsTypedPart after.program after.left l × AreTypedParts after.program (type_after l) (drop (i + 1) ls)
  unfolding AreTypedParts
  first = subst (λ (xs : List Link). AreTypedParts after.program after.left xs) (next ls i l here is) after.links

  pub link_has : HasType (out-Link l).operand
  link_has = record { program = after.program; typed = first.0.operand }

  pub link_left : IfOk r (λ x. IsOperand (out-Link l).num x)
  link_left = left_fits (out-Link l).num after.left r first.0.link.first after.of_type

  pub link_right : IfOk (constant_value (out-Link l).operand) (λ y. IsRight (out-Link l).op (out-Link l).num y)
  link_right = right_fits (out-Link l).op (out-Link l).num (type_of (out-Link l).operand) (constant_value (out-Link l).operand) first.0.link.second (constant_of after.program (out-Link l).operand first.0.operand)

  pub after_more : AreAfter (next_value r l) (drop (i + 1) ls)
  after_more = record {
    program = after.program;
    left = type_after l;
    of_type = link_of (out-Link l).op after.left (out-Link l).num (type_of (out-Link l).operand) r (constant_value (out-Link l).operand) first.0.link after.of_type (constant_of after.program (out-Link l).operand first.0.operand);
    links = first.1;
  }

pub value_more : (whole : Result ℤ Kind) (ls : List Link) (i : ℕ) (r : Result ℤ Kind) (l : Link) → i < length ls → l ≡ get_or ls i l → whole ≡ value_after (drop i ls) r →
    whole ≡ value_after (drop (i + 1) ls) (next_value r l)
unfolding value_after
value_more whole ls i r l h is e = e ∙ ap (λ (xs : List Link). value_after xs r) (next ls i l h is)

pub value_end : (whole : Result ℤ Kind) (ls : List Link) (i : ℕ) (r : Result ℤ Kind) → length ls ≤ i → whole ≡ value_after (drop i ls) r → r ≡ whole
unfolding value_after
value_end whole ls i r h e = sym (e ∙ ap (λ (xs : List Link). value_after xs r) (drop_all i ls h))

pub ruleset of_values_after = (link_has, link_left, link_right, after_more, value_more, value_end)
