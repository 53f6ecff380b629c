-- Expressions without `&&`, `||` and `?:`, of which today's analysis knows every form.
use Rattle.std.proofs.Common.{◌≡◌, ℕ, List, [], ◌∷◌, ◌++◌, refl, sym, ap, subst, ◌∙◌, Option, Some, None}
use Rattle.sa_base.specs.declared.num.Num.{Num}
use Rattle.sa_base.specs.declared.num.Num.TheVariants.{I32}
use Rattle.sa_base.specs.declared.pos.Pos.{Pos}
use Rattle.sa_typed.specs.Layouts.{Layout, leaf, layout_of}
use Rattle.sa_typed.specs.Arithmetic.{result_type}
use Rattle.sa_typed.specs.TypedExpressions as every
use Rattle.sa_typed.specs.WellTyped.{type_of, IsTypedExpr, AreTypedLinks, AreTypedSteps, IsTypedStep, IsRead, IsTypedAccess, steps_layout}
use Rattle.sa_typed.specs.declared.expr.Access.{Access, roll-Access}
use Rattle.sa_typed.specs.declared.expr.Expr.{Expr, Number, Read', Input, Prefix', Cast', Chain', And', Or', Choice', end_of-Expr, more_of-Expr, Row_of-Link, end_of-Link, more_of-Link, items-the_row-Link, items_hidden-the_row-Link-2, Row_of-Step, end_of-Step, more_of-Step, items-the_row-Step, items_hidden-the_row-Step-0}
use Rattle.sa_typed.specs.declared.expr.Expr.TheVariants as v
use Rattle.sa_typed.specs.declared.expr.Link.{Link, out-Link}
use Rattle.sa_typed.specs.declared.expr.Operator.{Operator}
use Rattle.sa_typed.specs.declared.expr.Prefix.{Prefix}
use Rattle.sa_typed.specs.declared.expr.Step.{Step, At', Field}
use Rattle.sa_typed.specs.declared.expr.Step.TheVariants as step
use Rattle.sa_typed.specs.declared.program.Program.{Program}

unfoldable mutual
  pub IsStraight : Expr → Type 0
  IsStraight (Number n num) = Unit {0}
  IsStraight (Read' v n steps num) = AreStraightSteps steps
  IsStraight (Input k num) = Unit {0}
  IsStraight (Prefix' op q num n (more_of-Expr a end_of-Expr)) = IsStraight a
  IsStraight (Cast' q num n (more_of-Expr a end_of-Expr)) = IsStraight a
  IsStraight (Chain' n (more_of-Expr a end_of-Expr) m ls) = IsStraight a × AreStraightLinks ls
  IsStraight (And' n a m rest) = ⊥
  IsStraight (Or' n a m rest) = ⊥
  IsStraight (Choice' n a m b l c num) = ⊥

  pub AreStraightLinks : {n : _} → Row_of-Link n → Type 0
  AreStraightLinks end_of-Link = Unit {0}
  AreStraightLinks (more_of-Link op q work b rest) = IsStraight b × AreStraightLinks rest

  pub AreStraightSteps : {n : _} → Row_of-Step n → Type 0
  AreStraightSteps end_of-Step = Unit {0}
  AreStraightSteps (more_of-Step s rest) = IsStraightStep s × AreStraightSteps rest

  pub IsStraightStep : Step → Type 0
  IsStraightStep (At' q m k (more_of-Expr a end_of-Expr)) = IsStraight a
  IsStraightStep (Field x) = Unit {0}

-- ---- what typing promises of them, as today's analysis asks for it
module _ (p : Program) where
  mutual
    unfolding IsStraight IsTypedExpr every.IsTypedExpression

    pub straight_typed : (a : Expr) → every.IsTypedExpression p a → IsStraight a → IsTypedExpr p a
    straight_typed (Number n num) h k = h
    straight_typed (Read' v n steps num) h k = (straight_steps steps h.0 k, h.1)
    straight_typed (Input j num) h k = h
    straight_typed (Prefix' op q num n (more_of-Expr a end_of-Expr)) h k = (straight_typed a h.0 k, h.1)
    straight_typed (Cast' q num n (more_of-Expr a end_of-Expr)) h k = straight_typed a h k
    straight_typed (Chain' n (more_of-Expr a end_of-Expr) m ls) h k = (straight_typed a h.0 k.0, straight_links (type_of a) ls h.1 k.1)
    straight_typed (And' _ _ _ _) h k = absurd k
    straight_typed (Or' _ _ _ _) h k = absurd k
    straight_typed (Choice' _ _ _ _ _ _ _) h k = absurd k

    straight_links : {n : _} (left : Num) (r : Row_of-Link n) → every.AreTypedLinks p left r → AreStraightLinks r → AreTypedLinks p left r
    straight_links left end_of-Link h k = tt
    straight_links left (more_of-Link op q work b rest) h k = (straight_typed b h.0 k.0, (h.1.0, straight_links (result_type op work) rest h.1.1 k.1))

    straight_steps : {n : _} (r : Row_of-Step n) → every.AreTypedSteps p r → AreStraightSteps r → AreTypedSteps p r
    straight_steps end_of-Step h k = tt
    straight_steps (more_of-Step (At' q m j (more_of-Expr a end_of-Expr)) rest) h k = (straight_typed a h.0 k.0, straight_steps rest h.1 k.1)
    straight_steps (more_of-Step (Field x) rest) h k = (tt, straight_steps rest h.1 k.1)

  place_typed : (l : Layout) (a : Expr) → every.LeadsThere p l a → IsStraight a → IsRead p l a
  unfolding IsStraight
  place_typed l (Read' v n steps num) h k = (straight_steps steps h.0 k, h.1)
  place_typed l _ h k = absurd h

  pub straight_place : (l : Layout) (x : Access) → every.IsTypedPlace p l x → IsStraight (v.Read x I32) → IsTypedAccess p l x
  straight_place l x h k = place_typed l (v.Read x I32) h k

-- ---- lists of steps and links
unfoldable pub AllStraightSteps : List Step → Type 0
AllStraightSteps [] = Unit {0}
AllStraightSteps (x ∷ xs) = IsStraightStep x × AllStraightSteps xs

pub straight_steps_append : (xs : List Step) (x : Step) → AllStraightSteps xs → IsStraightStep x → AllStraightSteps (xs ++ x ∷ [])
unfolding AllStraightSteps
straight_steps_append [] x h k = (k, tt)
straight_steps_append (y ∷ xs) x h k = (h.0, straight_steps_append xs x h.1 k)

steps_row : (n : _) (r : Row_of-Step n) → AllStraightSteps (items-the_row-Step n r) → AreStraightSteps r
unfolding AllStraightSteps IsStraight
steps_row n end_of-Step h = tt
steps_row n (more_of-Step x rest) h = (h.0, steps_row _ rest h.1)

unfoldable pub AllStraightLinks : List Link → Type 0
AllStraightLinks [] = Unit {0}
AllStraightLinks (x ∷ xs) = IsStraight (out-Link x).operand × AllStraightLinks xs

pub straight_links_append : (xs : List Link) (x : Link) → AllStraightLinks xs → IsStraight (out-Link x).operand → AllStraightLinks (xs ++ x ∷ [])
unfolding AllStraightLinks
straight_links_append [] x h k = (k, tt)
straight_links_append (y ∷ xs) x h k = (h.0, straight_links_append xs x h.1 k)

links_row : (n : _) (r : Row_of-Link n) → AllStraightLinks (items-the_row-Link n r) → AreStraightLinks r
unfolding AllStraightLinks IsStraight
links_row n end_of-Link h = tt
links_row n (more_of-Link op q num b rest) h = (h.0, links_row _ rest h.1)

abbrev steps_of : Expr → (n : _) × Row_of-Step n
steps_of (Read' v n r num) = (_, r)
steps_of _ = (_, end_of-Step)

abbrev links_of : Expr → (n : _) × Row_of-Link n
links_of (Chain' n a m ls) = (_, ls)
links_of _ = (_, end_of-Link)

-- ---- each form
pub straight_number : (n : ℕ) (num : Num) → IsStraight (v.Number n num)
unfolding IsStraight
straight_number n num = tt

pub straight_input : (k : ℕ) (num : Num) → IsStraight (v.Input k num)
unfolding IsStraight
straight_input k num = tt

pub straight_read : (k : ℕ) (xs : List Step) (num : Num) → AllStraightSteps xs → IsStraight (v.Read (roll-Access (record { var = k; steps = xs })) num)
unfolding IsStraight
straight_read k xs num h = let r = steps_of (v.Read (roll-Access (record { var = k; steps = xs })) num) in steps_row r.0 r.1 (subst AllStraightSteps (sym (items_hidden-the_row-Step-0 xs)) h)

pub straight_prefix : (op : Prefix) (q : Pos) (num : Num) (a : Expr) → IsStraight a → IsStraight (v.Prefix op q num a)
unfolding IsStraight Rattle.sa_typed.specs.declared.expr.Expr.TheBlock.hidden-the_row-Expr-1 denote.Hole.Carrier.hidden
straight_prefix op q num a h = h

pub straight_cast : (q : Pos) (num : Num) (a : Expr) → IsStraight a → IsStraight (v.Cast q num a)
unfolding IsStraight Rattle.sa_typed.specs.declared.expr.Expr.TheBlock.hidden-the_row-Expr-1 denote.Hole.Carrier.hidden
straight_cast q num a h = h

pub straight_chain : (a : Expr) (ls : List Link) → IsStraight a → AllStraightLinks ls → IsStraight (v.Chain a ls)
unfolding IsStraight Rattle.sa_typed.specs.declared.expr.Expr.TheBlock.hidden-the_row-Expr-1 denote.Hole.Carrier.hidden
straight_chain a ls h k = let r = links_of (v.Chain a ls) in (h, links_row r.0 r.1 (subst AllStraightLinks (sym (items_hidden-the_row-Link-2 ls)) k))

pub straight_at : (q : Pos) (n : ℕ) (a : Expr) → IsStraight a → IsStraightStep (step.At q n a)
unfolding IsStraight Rattle.sa_typed.specs.declared.expr.Expr.TheBlock.hidden-the_row-Expr-1 denote.Hole.Carrier.hidden
straight_at q n a h = h

pub straight_field : (k : ℕ) → IsStraightStep (step.Field k)
unfolding IsStraight
straight_field k = tt
