-- What the walk asks of expressions and places, from what typing promises of them.
use Rattle.std.proofs.Common.{◌≡◌, ℕ, List, [], ◌∷◌, ◌++◌, Some}
use Rattle.std.specs.Prelude.{slice_get}
use Rattle.std.specs.List.{AllByRecursion}
use Rattle.sa_base.specs.declared.num.Num.{Num}
use Rattle.sa_base.specs.declared.num.Num.TheVariants.{I32}
use Rattle.sa_typed.specs.Arithmetic.{result_type}
use Rattle.sa_typed.specs.Layouts.{Layout, layout_of}
use Rattle.sa_typed.specs.WellTyped.{type_of}
use Rattle.sa_typed.specs.TypedExpressions.{IsTypedExpression, AreTypedExpressions, AreSomeTyped, AreTypedLinks, AreTypedSteps, IsTypedStep, LeadsThere, IsPromoted, ArePromoted, ArePromotedLinks, ArePromotedSteps, IsPromotedStep, variables_in, variables_in_all, variables_in_links, variables_in_steps, variables_in_step, IsNamed, AreNamed, IsExpression, IsPlace}
use Rattle.sa_typed.specs.declared.expr.Expr.{Expr, Number, Read', Input, Prefix', Cast', Chain', And', Or', Choice', end_of-Expr, more_of-Expr, Row_of-Expr, Row_of-Link, end_of-Link, more_of-Link, Row_of-Step, end_of-Step, more_of-Step}
use Rattle.sa_typed.specs.declared.expr.Expr.TheVariants as e
use Rattle.sa_typed.specs.declared.expr.Access.{Access}
use Rattle.sa_typed.specs.declared.expr.Step.{Step, At', Field}
use Rattle.sa_typed.specs.declared.program.Program.{Program}
use Rattle.sa_flat.proofs.WalkPremises.{Walks, SomeWalk, AllWalk, LinksWalk, StepsWalk, StepWalks}
use Rattle.sa_flat.proofs.SimpleLaws.{ReadWalks, AccessWalks}

pub all_left : {A : Type 0} (P : A → Type 0) (xs ys : List A) → AllByRecursion P (xs ++ ys) → AllByRecursion P xs
all_left P [] ys h = tt
all_left P (x ∷ xs) ys h = (h.0, all_left P xs ys h.1)

pub all_right : {A : Type 0} (P : A → Type 0) (xs ys : List A) → AllByRecursion P (xs ++ ys) → AllByRecursion P ys
all_right P [] ys h = h
all_right P (x ∷ xs) ys h = all_right P xs ys h.1

-- a variable that the function may name
abbrev pub named : Program → ℕ → ℕ → Type 0
named p f v = IsNamed f (slice_get p.vars v)

module _ (p : Program) (f : ℕ) where
  left_named : (xs ys : List ℕ) → AreNamed p f (xs ++ ys) → AreNamed p f xs
  left_named xs ys h = all_left (λ v. IsNamed f (slice_get p.vars v)) xs ys h

  right_named : (xs ys : List ℕ) → AreNamed p f (xs ++ ys) → AreNamed p f ys
  right_named xs ys h = all_right (λ v. IsNamed f (slice_get p.vars v)) xs ys h

  mutual
    unfolding Walks IsTypedExpression IsPromoted variables_in

    pub walks : (a : Expr) → IsTypedExpression p a → IsPromoted a → AreNamed p f (variables_in a) → Walks p (named p f) a
    walks (Number n num) t q v = t
    walks (Read' x n steps num) t q v = (v.0, (steps_walk steps t.0 q v.1, t.1))
    walks (Input k num) t q v = t
    walks (Prefix' op pos num n (more_of-Expr a end_of-Expr)) t q v = (walks a t.0 q.1 v, (t.1, q.0))
    walks (Cast' pos num n (more_of-Expr a end_of-Expr)) t q v = walks a t q v
    walks (Chain' n (more_of-Expr a end_of-Expr) m ls) t q v =
        (walks a t.0 q.0 (left_named (variables_in a) (variables_in_links ls) v), links_walk ls (type_of a) t.1 q.1 (right_named (variables_in a) (variables_in_links ls) v))
    walks (And' n (more_of-Expr a end_of-Expr) m rest) t q v =
        (walks a t.0 q.0 (left_named (variables_in a) (variables_in_all rest) v), some_walk rest t.1 q.1 (right_named (variables_in a) (variables_in_all rest) v))
    walks (Or' n (more_of-Expr a end_of-Expr) m rest) t q v =
        (walks a t.0 q.0 (left_named (variables_in a) (variables_in_all rest) v), some_walk rest t.1 q.1 (right_named (variables_in a) (variables_in_all rest) v))
    walks (Choice' n (more_of-Expr a end_of-Expr) m (more_of-Expr b end_of-Expr) l (more_of-Expr c end_of-Expr) num) t q v =
        let w = right_named (variables_in a) (variables_in b ++ variables_in c) v in (
          walks a t.0 q.0 (left_named (variables_in a) (variables_in b ++ variables_in c) v),
          ((walks b t.1.0.0 q.1.0 (left_named (variables_in b) (variables_in c) w), t.1.0.1), (walks c t.1.1.0 q.1.1 (right_named (variables_in b) (variables_in c) w), t.1.1.1)),
        )

    some_walk : {n : _} (r : Row_of-Expr n) → AreSomeTyped p r → ArePromoted r → AreNamed p f (variables_in_all r) → SomeWalk p (named p f) r
    some_walk end_of-Expr t q v = absurd t
    some_walk (more_of-Expr a rest) t q v =
        (walks a t.0 q.0 (left_named (variables_in a) (variables_in_all rest) v), all_walk rest t.1 q.1 (right_named (variables_in a) (variables_in_all rest) v))

    all_walk : {n : _} (r : Row_of-Expr n) → AreTypedExpressions p r → ArePromoted r → AreNamed p f (variables_in_all r) → AllWalk p (named p f) r
    all_walk end_of-Expr t q v = tt
    all_walk (more_of-Expr a rest) t q v =
        (walks a t.0 q.0 (left_named (variables_in a) (variables_in_all rest) v), all_walk rest t.1 q.1 (right_named (variables_in a) (variables_in_all rest) v))

    links_walk : {n : _} (r : Row_of-Link n) (left : Num) → AreTypedLinks p left r → ArePromotedLinks r → AreNamed p f (variables_in_links r) → LinksWalk p (named p f) left r
    links_walk end_of-Link left t q v = tt
    links_walk (more_of-Link op pos work b rest) left t q v =
        (walks b t.0 q.0 (left_named (variables_in b) (variables_in_links rest) v), (t.1.0, links_walk rest (result_type op work) t.1.1 q.1 (right_named (variables_in b) (variables_in_links rest) v)))

    pub steps_walk : {n : _} (r : Row_of-Step n) → AreTypedSteps p r → ArePromotedSteps r → AreNamed p f (variables_in_steps r) → StepsWalk p (named p f) r
    steps_walk end_of-Step t q v = tt
    steps_walk (more_of-Step s rest) t q v =
        (step_walks s t.0 q.0 (left_named (variables_in_step s) (variables_in_steps rest) v), steps_walk rest t.1 q.1 (right_named (variables_in_step s) (variables_in_steps rest) v))

    step_walks : (s : Step) → IsTypedStep p s → IsPromotedStep s → AreNamed p f (variables_in_step s) → StepWalks p (named p f) s
    step_walks (At' pos m k (more_of-Expr a end_of-Expr)) t q v = walks a t q v
    step_walks (Field x) t q v = tt

  pub expression_walks : (a : Expr) → IsExpression p f a → Walks p (named p f) a
  expression_walks a h = walks a h.typed h.promoted h.named

  read_walks : (l : Layout) (a : Expr) → LeadsThere p l a → IsPromoted a → AreNamed p f (variables_in a) → ReadWalks p (named p f) l a
  unfolding IsPromoted variables_in
  read_walks l (Read' x n steps num) t q v = (v.0, (steps_walk steps t.0 q v.1, t.1))
  read_walks l _ t q v = absurd t

  pub place_walks : (l : Layout) (x : Access) → IsPlace p f l x → AccessWalks p (named p f) l x
  place_walks l x h = read_walks l (e.Read x I32) h.typed h.promoted h.named
