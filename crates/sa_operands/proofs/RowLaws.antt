-- Steps, links, operands and statements as lists that grow at their ends, and what typing promises of the forms that hold them.
use Rattle.std.proofs.Common.{◌≡◌, ℕ, zero, suc, ℤ, pos, Bool, true, false, ◌&&◌, List, [], ◌∷◌, ◌++◌, refl, sym, ap, subst, ◌∙◌, Option, Some, None}
use Rattle.std.specs.List.{AllByRecursion}
use Rattle.std.specs.Prelude.{IsTrue, slice_get}
use Rattle.sa_base.specs.declared.num.Num.{Num}
use Rattle.sa_base.specs.declared.num.Num.TheVariants.{I32}
use Rattle.sa_base.specs.declared.pos.Pos.{Pos}
use Rattle.sa_typed.specs.Arithmetic.{is_of, promoted, result_type, prefix_type}
use Rattle.sa_typed.specs.Constants.{is_constant, are_constant, all_are_constant, is_fixed}
use Rattle.sa_typed.specs.Layouts.{Layout, leaf, row, fields, nth_field, layout_of}
use Rattle.sa_typed.specs.WellTyped.{type_of, links_type, converts, typed_step, into, steps_layout, num_of_input, IsLink, are_fixed, is_fixed_read}
use Rattle.sa_typed.specs.TypedExpressions.{IsTypedExpression, AreTypedExpressions, AreSomeTyped, AreTypedLinks, AreTypedSteps, IsTypedStep, IsTypedPlace, IsPromoted, ArePromoted, ArePromotedLinks, ArePromotedSteps, IsPromotedStep, variables_in, variables_in_all, variables_in_links, variables_in_steps, variables_in_step, IsNamed, AreNamed, IsExpression, IsPlace, IsVariable, ChangesVariable, IsLeftSide}
use Rattle.sa_typed.specs.TypedPrograms.{IsOwn, IsTypedBeginning}
use Rattle.sa_typed.specs.declared.expr.Access.{Access, roll-Access}
use Rattle.sa_typed.specs.declared.expr.Expr.{Expr, Number, Read', Input, Prefix', Cast', Chain', And', Or', Choice', end_of-Expr, more_of-Expr, Row_of-Expr, items-the_row-Expr, items_hidden-the_row-Expr-3, Row_of-Link, end_of-Link, more_of-Link, items-the_row-Link, items_hidden-the_row-Link-2, Row_of-Step, end_of-Step, more_of-Step, items-the_row-Step, items_hidden-the_row-Step-0}
use Rattle.sa_typed.specs.declared.expr.Expr.TheVariants as v
use Rattle.sa_typed.specs.declared.expr.Link.{Link, out-Link}
use Rattle.sa_typed.specs.declared.expr.Operator.{Operator}
use Rattle.sa_typed.specs.declared.expr.Prefix.{Prefix}
use Rattle.sa_typed.specs.declared.expr.Step.{Step, At', Field}
use Rattle.sa_typed.specs.declared.expr.Step.TheVariants as step
use Rattle.sa_typed.specs.declared.program.Input as program
use Rattle.sa_typed.specs.declared.program.Program.{Program}
use Rattle.sa_typed.specs.declared.stmt.Start.{Start}
use Rattle.sa_typed.specs.declared.stmt.Start.TheVariants as begins
use Rattle.sa_typed.specs.declared.stmt.Simple.{Simple}
use Rattle.sa_typed.specs.declared.stmt.Simple.TheVariants.{Declare, Assign, Compound, Copy}
use Rattle.sa_typed.specs.declared.stmt.LoopKind.TheVariants as kind
use Rattle.sa_typed.specs.declared.stmt.Stmt.{Stmt, Row_of-Stmt, end_of-Stmt, more_of-Stmt, items-the_row-Stmt, items_hidden-the_row-Stmt-0}
use Rattle.sa_typed.specs.declared.stmt.Stmt.TheVariants as s

-- typed, with operators before operands in promoted types, and with variables that main may name
abbrev pub GoodExpr : Program → Expr → Type 0
GoodExpr p a = IsExpression p 0 a

pub record GoodStep (p : Program) (x : Step) : Type 0 where
  pub typed : IsTypedStep p x
  pub promoted : IsPromotedStep x
  pub named : AreNamed p 0 (variables_in_step x)

all_both : {A : Type 0} (P : A → Type 0) (xs ys : List A) → AllByRecursion P xs → AllByRecursion P ys → AllByRecursion P (xs ++ ys)
all_both P [] ys h k = k
all_both P (x ∷ xs) ys h k = (h.0, all_both P xs ys h.1 k)

named_both : (p : Program) (vs ws : List ℕ) → AreNamed p 0 vs → AreNamed p 0 ws → AreNamed p 0 (vs ++ ws)
named_both p vs ws h k = all_both (λ v. IsNamed 0 (slice_get p.vars v)) vs ws h k

-- ---- steps
unfoldable pub AllSteps : Program → List Step → Type 0
AllSteps p [] = Unit {0}
AllSteps p (x ∷ xs) = GoodStep p x × AllSteps p xs

unfoldable pub list_layout : Option Layout → List Step → Option Layout
list_layout o [] = o
list_layout o (x ∷ xs) = list_layout (into o x) xs

unfoldable pub all_fixed : List Step → Bool
all_fixed [] = true
all_fixed (x ∷ xs) = is_fixed x && all_fixed xs

pub steps_append : (p : Program) (xs : List Step) (x : Step) → AllSteps p xs → GoodStep p x → AllSteps p (xs ++ x ∷ [])
unfolding AllSteps
steps_append p [] x h k = (k, tt)
steps_append p (y ∷ xs) x h k = (h.0, steps_append p xs x h.1 k)

pub layout_append : (o : Option Layout) (xs : List Step) (x : Step) → list_layout o (xs ++ x ∷ []) ≡ into (list_layout o xs) x
unfolding list_layout
layout_append o [] x = refl
layout_append o (y ∷ xs) x = layout_append (into o y) xs x

both_fixed : (a b : Bool) → a ≡ true → b ≡ true → (a && b) ≡ true
both_fixed a b h k = rw (h, k) refl

fixed_first : (a b : Bool) → (a && b) ≡ true → a ≡ true
fixed_first true b h = refl
fixed_first false b h = cc

fixed_rest : (a b : Bool) → (a && b) ≡ true → b ≡ true
fixed_rest true b h = h
fixed_rest false b h = cc

pub fixed_append : (xs : List Step) (x : Step) → all_fixed xs ≡ true → is_fixed x ≡ true → all_fixed (xs ++ x ∷ []) ≡ true
unfolding all_fixed
fixed_append [] x h k = both_fixed (is_fixed x) true k refl
fixed_append (y ∷ xs) x h k = both_fixed (is_fixed y) (all_fixed (xs ++ x ∷ [])) (fixed_first (is_fixed y) (all_fixed xs) h) (fixed_append xs x (fixed_rest (is_fixed y) (all_fixed xs) h) k)

record GoodSteps (p : Program) {n : _} (r : Row_of-Step n) : Type 0 where
  typed : AreTypedSteps p r
  promoted : ArePromotedSteps r
  named : AreNamed p 0 (variables_in_steps r)

steps_row : (p : Program) (n : _) (r : Row_of-Step n) → AllSteps p (items-the_row-Step n r) → GoodSteps p r
unfolding AllSteps IsTypedExpression IsPromoted variables_in
steps_row p n end_of-Step h = record { typed = tt; promoted = tt; named = tt }
steps_row p n (more_of-Step x rest) h =
    let k = steps_row p _ rest h.1 in
    record { typed = (h.0.typed, k.typed); promoted = (h.0.promoted, k.promoted); named = named_both p (variables_in_step x) (variables_in_steps rest) h.0.named k.named }

layout_row : (n : _) (r : Row_of-Step n) (o : Option Layout) → steps_layout o r ≡ list_layout o (items-the_row-Step n r)
unfolding steps_layout list_layout
layout_row n end_of-Step o = refl
layout_row n (more_of-Step x rest) o = layout_row _ rest (into o x)

fixed_row : (n : _) (r : Row_of-Step n) → are_fixed r ≡ all_fixed (items-the_row-Step n r)
unfolding are_fixed all_fixed
fixed_row n end_of-Step = refl
fixed_row n (more_of-Step x rest) = ap (λ (b : Bool). is_fixed x && b) (fixed_row _ rest)

abbrev steps_of : Expr → (n : _) × Row_of-Step n
steps_of (Read' v n r num) = (_, r)
steps_of _ = (_, end_of-Step)

module _ (p : Program) where
  place_row : (k : ℕ) (xs : List Step) → AllSteps p xs → GoodSteps p (steps_of (v.Read (roll-Access (record { var = k; steps = xs })) I32)).1
  place_row k xs h =
      let r = steps_of (v.Read (roll-Access (record { var = k; steps = xs })) I32) in
      steps_row p r.0 r.1 (subst (AllSteps p) (sym (items_hidden-the_row-Step-0 xs)) h)

  pub access_typed : (k : ℕ) (xs : List Step) (l : Layout) → AllSteps p xs → list_layout (Some (layout_of p k)) xs ≡ Some l → IsNamed 0 (slice_get p.vars k) →
      IsPlace p 0 l (roll-Access (record { var = k; steps = xs }))
  unfolding IsTypedExpression IsPromoted variables_in
  access_typed k xs l h e m =
      let r = steps_of (v.Read (roll-Access (record { var = k; steps = xs })) I32) in
      let g = place_row k xs h in
      record {
        typed = (g.typed, layout_row r.0 r.1 (Some (layout_of p k)) ∙ ap (list_layout (Some (layout_of p k))) (items_hidden-the_row-Step-0 xs) ∙ e);
        promoted = g.promoted;
        named = (m, g.named);
      }

  pub read_typed : (k : ℕ) (xs : List Step) (num : Num) → AllSteps p xs → list_layout (Some (layout_of p k)) xs ≡ Some (leaf num) → IsNamed 0 (slice_get p.vars k) →
      GoodExpr p (v.Read (roll-Access (record { var = k; steps = xs })) num)
  unfolding IsTypedExpression IsPromoted variables_in
  read_typed k xs num h e m = let g = access_typed k xs (leaf num) h e m in record { typed = g.typed; promoted = g.promoted; named = g.named }

pub access_fixed : (k : ℕ) (xs : List Step) → all_fixed xs ≡ true → is_fixed_read (v.Read (roll-Access (record { var = k; steps = xs })) I32) ≡ true
access_fixed k xs h = let r = steps_of (v.Read (roll-Access (record { var = k; steps = xs })) I32) in fixed_row r.0 r.1 ∙ ap all_fixed (items_hidden-the_row-Step-0 xs) ∙ h

module _ (p : Program) (k : ℕ) (xs : List Step) where
  pub access_changes : IsVariable (slice_get p.vars k) → ChangesVariable p (v.Read (roll-Access (record { var = k; steps = xs })) I32)
  access_changes h = h

-- each form of a step
module _ (p : Program) where
  pub at_typed : (q : Pos) (n : ℕ) (a : Expr) → GoodExpr p a → GoodStep p (step.At q n a)
  unfolding IsTypedExpression IsPromoted variables_in Rattle.sa_typed.specs.declared.expr.Expr.TheBlock.hidden-the_row-Expr-1 denote.Hole.Carrier.hidden
  at_typed q n a h = record { typed = h.typed; promoted = h.promoted; named = h.named }

  pub field_typed : (k : ℕ) → GoodStep p (step.Field k)
  unfolding IsTypedExpression IsPromoted variables_in
  field_typed k = record { typed = tt; promoted = tt; named = tt }

pub at_fixed : (q : Pos) (n : ℕ) (a : Expr) → is_fixed (step.At q n a) ≡ is_constant a
unfolding is_fixed Rattle.sa_typed.specs.declared.expr.Expr.TheBlock.hidden-the_row-Expr-1 denote.Hole.Carrier.hidden
at_fixed q n a = refl

pub field_fixed : (k : ℕ) → is_fixed (step.Field k) ≡ true
unfolding is_fixed
field_fixed k = refl

-- ---- links
unfoldable pub AllLinks : Program → Num → List Link → Type 0
AllLinks p left [] = Unit {0}
AllLinks p left (x ∷ xs) = GoodExpr p (out-Link x).operand × (IsLink (out-Link x).op left (out-Link x).num (type_of (out-Link x).operand) × AllLinks p (result_type (out-Link x).op (out-Link x).num) xs)

unfoldable pub after_links : Num → List Link → Num
after_links left [] = left
after_links left (x ∷ xs) = after_links (result_type (out-Link x).op (out-Link x).num) xs

unfoldable pub all_constant : List Link → Bool
all_constant [] = true
all_constant (x ∷ xs) = is_constant (out-Link x).operand && all_constant xs

pub links_append : (p : Program) (left : Num) (xs : List Link) (x : Link) → AllLinks p left xs → GoodExpr p (out-Link x).operand → IsLink (out-Link x).op (after_links left xs) (out-Link x).num (type_of (out-Link x).operand) →
    AllLinks p left (xs ++ x ∷ [])
unfolding AllLinks after_links
links_append p left [] x h t l = (t, (l, tt))
links_append p left (y ∷ xs) x h t l = (h.0, (h.1.0, links_append p (result_type (out-Link y).op (out-Link y).num) xs x h.1.1 t l))

pub after_append : (left : Num) (xs : List Link) (x : Link) → after_links left (xs ++ x ∷ []) ≡ result_type (out-Link x).op (out-Link x).num
unfolding after_links
after_append left [] x = refl
after_append left (y ∷ xs) x = after_append (result_type (out-Link y).op (out-Link y).num) xs x

pub constant_append : (xs : List Link) (x : Link) → all_constant xs ≡ true → is_constant (out-Link x).operand ≡ true → all_constant (xs ++ x ∷ []) ≡ true
unfolding all_constant
constant_append [] x h k = both_fixed (is_constant (out-Link x).operand) true k refl
constant_append (y ∷ xs) x h k =
    both_fixed (is_constant (out-Link y).operand) (all_constant (xs ++ x ∷ [])) (fixed_first (is_constant (out-Link y).operand) (all_constant xs) h)
    (constant_append xs x (fixed_rest (is_constant (out-Link y).operand) (all_constant xs) h) k)

record GoodLinks (p : Program) (left : Num) {n : _} (r : Row_of-Link n) : Type 0 where
  typed : AreTypedLinks p left r
  promoted : ArePromotedLinks r
  named : AreNamed p 0 (variables_in_links r)

links_row : (p : Program) (n : _) (r : Row_of-Link n) (left : Num) → AllLinks p left (items-the_row-Link n r) → GoodLinks p left r
unfolding AllLinks IsTypedExpression IsPromoted variables_in
links_row p n end_of-Link left h = record { typed = tt; promoted = tt; named = tt }
links_row p n (more_of-Link op q work b rest) left h =
    let k = links_row p _ rest (result_type op work) h.1.1 in
    record { typed = (h.0.typed, (h.1.0, k.typed)); promoted = (h.0.promoted, k.promoted); named = named_both p (variables_in b) (variables_in_links rest) h.0.named k.named }

after_row : (n : _) (r : Row_of-Link n) (left : Num) → links_type left r ≡ after_links left (items-the_row-Link n r)
unfolding links_type after_links
after_row n end_of-Link left = refl
after_row n (more_of-Link op q work b rest) left = after_row _ rest (result_type op work)

constant_row : (n : _) (r : Row_of-Link n) → are_constant r ≡ all_constant (items-the_row-Link n r)
unfolding is_constant all_constant
constant_row n end_of-Link = refl
constant_row n (more_of-Link op q num b rest) = ap (λ (x : Bool). is_constant b && x) (constant_row _ rest)

abbrev links_of : Expr → (n : _) × Row_of-Link n
links_of (Chain' n a m ls) = (_, ls)
links_of _ = (_, end_of-Link)

-- ---- operands of `&&` and `||`
unfoldable pub AllOperands : Program → List Expr → Type 0
AllOperands p [] = Unit {0}
AllOperands p (x ∷ xs) = GoodExpr p x × AllOperands p xs

-- one at least
abbrev pub SomeOperands : Program → List Expr → Type 0
SomeOperands p [] = ⊥
SomeOperands p (x ∷ xs) = GoodExpr p x × AllOperands p xs

unfoldable pub operands_constant : List Expr → Bool
operands_constant [] = true
operands_constant (x ∷ xs) = is_constant x && operands_constant xs

operands_append : (p : Program) (xs : List Expr) (x : Expr) → AllOperands p xs → GoodExpr p x → AllOperands p (xs ++ x ∷ [])
unfolding AllOperands
operands_append p [] x h k = (k, tt)
operands_append p (y ∷ xs) x h k = (h.0, operands_append p xs x h.1 k)

pub some_first : (p : Program) (x : Expr) → GoodExpr p x → SomeOperands p (x ∷ [])
unfolding AllOperands
some_first p x k = (k, tt)

pub some_append : (p : Program) (xs : List Expr) (x : Expr) → SomeOperands p xs → GoodExpr p x → SomeOperands p (xs ++ x ∷ [])
some_append p [] x h k = absurd h
some_append p (y ∷ xs) x h k = (h.0, operands_append p xs x h.1 k)

pub operands_constant_append : (xs : List Expr) (x : Expr) → operands_constant xs ≡ true → is_constant x ≡ true → operands_constant (xs ++ x ∷ []) ≡ true
unfolding operands_constant
operands_constant_append [] x h k = both_fixed (is_constant x) true k refl
operands_constant_append (y ∷ xs) x h k =
    both_fixed (is_constant y) (operands_constant (xs ++ x ∷ [])) (fixed_first (is_constant y) (operands_constant xs) h) (operands_constant_append xs x (fixed_rest (is_constant y) (operands_constant xs) h) k)

record GoodOperands (p : Program) {n : _} (r : Row_of-Expr n) : Type 0 where
  typed : AreTypedExpressions p r
  promoted : ArePromoted r
  named : AreNamed p 0 (variables_in_all r)

record GoodSome (p : Program) {n : _} (r : Row_of-Expr n) : Type 0 where
  typed : AreSomeTyped p r
  promoted : ArePromoted r
  named : AreNamed p 0 (variables_in_all r)

operands_row : (p : Program) (n : _) (r : Row_of-Expr n) → AllOperands p (items-the_row-Expr n r) → GoodOperands p r
unfolding AllOperands IsTypedExpression IsPromoted variables_in
operands_row p n end_of-Expr h = record { typed = tt; promoted = tt; named = tt }
operands_row p n (more_of-Expr x rest) h =
    let k = operands_row p _ rest h.1 in
    record { typed = (h.0.typed, k.typed); promoted = (h.0.promoted, k.promoted); named = named_both p (variables_in x) (variables_in_all rest) h.0.named k.named }

some_row : (p : Program) (n : _) (r : Row_of-Expr n) → SomeOperands p (items-the_row-Expr n r) → GoodSome p r
unfolding IsTypedExpression IsPromoted variables_in
some_row p n end_of-Expr h = absurd h
some_row p n (more_of-Expr x rest) h =
    let k = operands_row p _ rest h.1 in
    record { typed = (h.0.typed, k.typed); promoted = (h.0.promoted, k.promoted); named = named_both p (variables_in x) (variables_in_all rest) h.0.named k.named }

operands_constant_row : (n : _) (r : Row_of-Expr n) → all_are_constant r ≡ operands_constant (items-the_row-Expr n r)
unfolding is_constant operands_constant
operands_constant_row n end_of-Expr = refl
operands_constant_row n (more_of-Expr b rest) = ap (λ (x : Bool). is_constant b && x) (operands_constant_row _ rest)

abbrev operands_of : Expr → (n : _) × Row_of-Expr n
operands_of (And' n a m es) = (_, es)
operands_of (Or' n a m es) = (_, es)
operands_of _ = (_, end_of-Expr)

-- ---- each form of an expression
module _ (p : Program) where
  pub number_typed : (n : ℕ) (num : Num) → is_of num (pos n) ≡ true → GoodExpr p (v.Number n num)
  unfolding IsTypedExpression IsPromoted variables_in
  number_typed n num h = record { typed = h; promoted = tt; named = tt }

  pub input_typed : (k : ℕ) (num : Num) → num_of_input (slice_get p.inputs k) ≡ Some num → GoodExpr p (v.Input k num)
  unfolding IsTypedExpression IsPromoted variables_in
  input_typed k num h = record { typed = h; promoted = tt; named = tt }

  pub prefix_typed : (op : Prefix) (q : Pos) (num : Num) (a : Expr) → GoodExpr p a → converts (type_of a) num ≡ true → num ≡ promoted (type_of a) → GoodExpr p (v.Prefix op q num a)
  unfolding IsTypedExpression IsPromoted variables_in Rattle.sa_typed.specs.declared.expr.Expr.TheBlock.hidden-the_row-Expr-1 denote.Hole.Carrier.hidden
  prefix_typed op q num a t c e = record { typed = (t.typed, c); promoted = (e, t.promoted); named = t.named }

  pub cast_typed : (q : Pos) (num : Num) (a : Expr) → GoodExpr p a → GoodExpr p (v.Cast q num a)
  unfolding IsTypedExpression IsPromoted variables_in Rattle.sa_typed.specs.declared.expr.Expr.TheBlock.hidden-the_row-Expr-1 denote.Hole.Carrier.hidden
  cast_typed q num a t = record { typed = t.typed; promoted = t.promoted; named = t.named }

  pub chain_typed : (a : Expr) (ls : List Link) → GoodExpr p a → AllLinks p (type_of a) ls → GoodExpr p (v.Chain a ls)
  unfolding IsTypedExpression IsPromoted variables_in Rattle.sa_typed.specs.declared.expr.Expr.TheBlock.hidden-the_row-Expr-1 denote.Hole.Carrier.hidden
  chain_typed a ls t h =
      let r = links_of (v.Chain a ls) in
      let g = links_row p r.0 r.1 (type_of a) (subst (AllLinks p (type_of a)) (sym (items_hidden-the_row-Link-2 ls)) h) in
      record { typed = (t.typed, g.typed); promoted = (t.promoted, g.promoted); named = named_both p (variables_in a) (variables_in_links r.1) t.named g.named }

  pub and_typed : (a : Expr) (es : List Expr) → GoodExpr p a → SomeOperands p es → GoodExpr p (v.And a es)
  unfolding IsTypedExpression IsPromoted variables_in Rattle.sa_typed.specs.declared.expr.Expr.TheBlock.hidden-the_row-Expr-1 denote.Hole.Carrier.hidden
  and_typed a es t h =
      let r = operands_of (v.And a es) in
      let g = some_row p r.0 r.1 (subst (SomeOperands p) (sym (items_hidden-the_row-Expr-3 es)) h) in
      record { typed = (t.typed, g.typed); promoted = (t.promoted, g.promoted); named = named_both p (variables_in a) (variables_in_all r.1) t.named g.named }

  pub or_typed : (a : Expr) (es : List Expr) → GoodExpr p a → SomeOperands p es → GoodExpr p (v.Or a es)
  unfolding IsTypedExpression IsPromoted variables_in Rattle.sa_typed.specs.declared.expr.Expr.TheBlock.hidden-the_row-Expr-1 denote.Hole.Carrier.hidden
  or_typed a es t h =
      let r = operands_of (v.Or a es) in
      let g = some_row p r.0 r.1 (subst (SomeOperands p) (sym (items_hidden-the_row-Expr-3 es)) h) in
      record { typed = (t.typed, g.typed); promoted = (t.promoted, g.promoted); named = named_both p (variables_in a) (variables_in_all r.1) t.named g.named }

  pub choice_typed : (a b c : Expr) (num : Num) → GoodExpr p a → GoodExpr p b → GoodExpr p c → converts (type_of b) num ≡ true → converts (type_of c) num ≡ true → GoodExpr p (v.Choice a b c num)
  unfolding IsTypedExpression IsPromoted variables_in Rattle.sa_typed.specs.declared.expr.Expr.TheBlock.hidden-the_row-Expr-1 denote.Hole.Carrier.hidden
  choice_typed a b c num t u w f g = record {
    typed = (t.typed, ((u.typed, f), (w.typed, g)));
    promoted = (t.promoted, (u.promoted, w.promoted));
    named = named_both p (variables_in a) (variables_in b ++ variables_in c) t.named (named_both p (variables_in b) (variables_in c) u.named w.named);
  }

pub type_number : (n : ℕ) (num : Num) → type_of (v.Number n num) ≡ num
unfolding type_of
type_number n num = refl

pub type_input : (k : ℕ) (num : Num) → type_of (v.Input k num) ≡ num
unfolding type_of
type_input k num = refl

pub type_read : (x : Access) (num : Num) → type_of (v.Read x num) ≡ num
unfolding type_of
type_read x num = refl

pub type_prefix : (op : Prefix) (q : Pos) (num : Num) (a : Expr) → type_of (v.Prefix op q num a) ≡ prefix_type op num
unfolding type_of Rattle.sa_typed.specs.declared.expr.Expr.TheBlock.hidden-the_row-Expr-1 denote.Hole.Carrier.hidden
type_prefix op q num a = refl

pub type_cast : (q : Pos) (num : Num) (a : Expr) → type_of (v.Cast q num a) ≡ num
unfolding type_of Rattle.sa_typed.specs.declared.expr.Expr.TheBlock.hidden-the_row-Expr-1 denote.Hole.Carrier.hidden
type_cast q num a = refl

pub type_chain : (a : Expr) (ls : List Link) → type_of (v.Chain a ls) ≡ after_links (type_of a) ls
unfolding type_of Rattle.sa_typed.specs.declared.expr.Expr.TheBlock.hidden-the_row-Expr-1 denote.Hole.Carrier.hidden
type_chain a ls = let r = links_of (v.Chain a ls) in after_row r.0 r.1 (type_of a) ∙ ap (after_links (type_of a)) (items_hidden-the_row-Link-2 ls)

pub type_and : (a : Expr) (es : List Expr) → type_of (v.And a es) ≡ I32
unfolding type_of
type_and a es = refl

pub type_or : (a : Expr) (es : List Expr) → type_of (v.Or a es) ≡ I32
unfolding type_of
type_or a es = refl

pub type_choice : (a b c : Expr) (num : Num) → type_of (v.Choice a b c num) ≡ num
unfolding type_of
type_choice a b c num = refl

pub constant_number : (n : ℕ) (num : Num) → is_constant (v.Number n num) ≡ true
unfolding is_constant
constant_number n num = refl

pub constant_prefix : (op : Prefix) (q : Pos) (num : Num) (a : Expr) → is_constant (v.Prefix op q num a) ≡ is_constant a
unfolding is_constant Rattle.sa_typed.specs.declared.expr.Expr.TheBlock.hidden-the_row-Expr-1 denote.Hole.Carrier.hidden
constant_prefix op q num a = refl

pub constant_cast : (q : Pos) (num : Num) (a : Expr) → is_constant (v.Cast q num a) ≡ is_constant a
unfolding is_constant Rattle.sa_typed.specs.declared.expr.Expr.TheBlock.hidden-the_row-Expr-1 denote.Hole.Carrier.hidden
constant_cast q num a = refl

pub constant_chain : (a : Expr) (ls : List Link) → is_constant a ≡ true → all_constant ls ≡ true → is_constant (v.Chain a ls) ≡ true
unfolding is_constant Rattle.sa_typed.specs.declared.expr.Expr.TheBlock.hidden-the_row-Expr-1 denote.Hole.Carrier.hidden
constant_chain a ls h k =
    let r = links_of (v.Chain a ls) in
    both_fixed (is_constant a) (are_constant r.1) h (constant_row r.0 r.1 ∙ ap all_constant (items_hidden-the_row-Link-2 ls) ∙ k)

pub constant_and : (a : Expr) (es : List Expr) → is_constant a ≡ true → operands_constant es ≡ true → is_constant (v.And a es) ≡ true
unfolding is_constant Rattle.sa_typed.specs.declared.expr.Expr.TheBlock.hidden-the_row-Expr-1 denote.Hole.Carrier.hidden
constant_and a es h k =
    let r = operands_of (v.And a es) in
    both_fixed (is_constant a) (all_are_constant r.1) h (operands_constant_row r.0 r.1 ∙ ap operands_constant (items_hidden-the_row-Expr-3 es) ∙ k)

pub constant_or : (a : Expr) (es : List Expr) → is_constant a ≡ true → operands_constant es ≡ true → is_constant (v.Or a es) ≡ true
unfolding is_constant Rattle.sa_typed.specs.declared.expr.Expr.TheBlock.hidden-the_row-Expr-1 denote.Hole.Carrier.hidden
constant_or a es h k =
    let r = operands_of (v.Or a es) in
    both_fixed (is_constant a) (all_are_constant r.1) h (operands_constant_row r.0 r.1 ∙ ap operands_constant (items_hidden-the_row-Expr-3 es) ∙ k)

pub constant_choice : (a b c : Expr) (num : Num) → is_constant a ≡ true → is_constant b ≡ true → is_constant c ≡ true → is_constant (v.Choice a b c num) ≡ true
unfolding is_constant Rattle.sa_typed.specs.declared.expr.Expr.TheBlock.hidden-the_row-Expr-1 denote.Hole.Carrier.hidden
constant_choice a b c num h k l = both_fixed (is_constant a) (is_constant b && is_constant c) h (both_fixed (is_constant b) (is_constant c) k l)

-- ---- statements
-- what typing promises of a simple statement of main, but for what parameters there are
abbrev pub GoodSimple : Program → Simple → Type 0
GoodSimple p (Declare k x) = IsOwn 0 (slice_get p.vars k) × IsTypedBeginning p 0 k x
GoodSimple p (Assign x num q a) = IsLeftSide p 0 (leaf num) x × IsExpression p 0 a
GoodSimple p (Compound x num op q work a) = IsLeftSide p 0 (leaf num) x × (IsExpression p 0 a × IsLink op num work (type_of a))
GoodSimple p (Copy k x q y) = (l : Layout) × ((IsLeftSide p 0 l x × IsTrue (is_fixed_read (v.Read x I32))) × (IsPlace p 0 l y × IsTrue (is_fixed_read (v.Read y I32))))

-- simple statements and blocks of them
unfoldable mutual
  pub GoodStmt : Program → Stmt → Type 0
  GoodStmt p (Stmt.Simple x) = GoodSimple p x
  GoodStmt p (Stmt.Block' n all) = AreGood p all
  GoodStmt p _ = ⊥

  pub AreGood : {n : _} → Program → Row_of-Stmt n → Type 0
  AreGood p end_of-Stmt = Unit {0}
  AreGood p (more_of-Stmt x rest) = GoodStmt p x × AreGood p rest

unfoldable pub AllStmts : Program → List Stmt → Type 0
AllStmts p [] = Unit {0}
AllStmts p (x ∷ xs) = GoodStmt p x × AllStmts p xs

pub stmts_append : (p : Program) (xs : List Stmt) (x : Stmt) → AllStmts p xs → GoodStmt p x → AllStmts p (xs ++ x ∷ [])
unfolding AllStmts
stmts_append p [] x h k = (k, tt)
stmts_append p (y ∷ xs) x h k = (h.0, stmts_append p xs x h.1 k)

good_row : (p : Program) (n : _) (r : Row_of-Stmt n) → AllStmts p (items-the_row-Stmt n r) → AreGood p r
unfolding AllStmts GoodStmt
good_row p n end_of-Stmt h = tt
good_row p n (more_of-Stmt x rest) h = (h.0, good_row p _ rest h.1)

abbrev stmts_of : Stmt → (n : _) × Row_of-Stmt n
stmts_of (Stmt.Block' n r) = (_, r)
stmts_of _ = (_, end_of-Stmt)

module _ (p : Program) where
  pub simple_typed : (x : Simple) → GoodSimple p x → GoodStmt p (s.Simple x)
  unfolding GoodStmt
  simple_typed x h = h

  pub block_typed : (all : List Stmt) → AllStmts p all → GoodStmt p (s.Block all)
  unfolding GoodStmt
  block_typed all h = let r = stmts_of (s.Block all) in good_row p r.0 r.1 (subst (AllStmts p) (sym (items_hidden-the_row-Stmt-0 all)) h)
