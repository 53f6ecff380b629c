-- The first of the calls that lead back.
use Rattle.std.proofs.Common.{◌≡◌, ℕ, ◌≤◌, inl, true, false, List, length, refl, arith, Option, Some, None}
use Rattle.std.proofs.lemmas.Bool.Decides.{nat_tests}
use Rattle.sa_base.specs.declared.pos.Pos.{Pos}
use Rattle.sa_calls.specs.declared.graph.Call.{Call}
use Rattle.sa_calls.specs.Recursion.{is_before, is_earlier, IsFirstAmong, IsFirstBack, IsSeen}
use Rattle.sa_calls.proofs.ReachLemmas.{calls-below}

-- ---- places
pub before-self : (p : Pos) → is_before p p ≡ false
before-self p = grind (arith, nat_tests)

before-less : (p q r : Pos) → is_before p q ≡ false → is_before r q ≡ true → is_before p r ≡ false
before-less p q r h e = grind (arith, nat_tests, h, e)

pub earlier-less : (best : Option Pos) (p r : Pos) → is_earlier p best ≡ false → is_earlier r best ≡ true → is_before p r ≡ false
earlier-less None p r h e = cc
earlier-less (Some q) p r h e = before-less p q r h e

pub ruleset of_places = (before-self, earlier-less)

-- ---- the end
pub all-seen : (graph : List (List Call)) (n : ℕ) (best : Option Pos) → length graph ≤ n → IsFirstAmong graph (IsSeen n 0) best → IsFirstBack graph best
all-seen graph n None l first = λ f c back. let below = calls-below graph f back.number c back.stands in let e = first.least f back.number c (inl (omega (arith, below, l))) back.stands back.back in cc
all-seen graph n (Some q) l first =
    (first.stands q refl, λ f c back. let below = calls-below graph f back.number c back.stands in first.least f back.number c (inl (omega (arith, below, l))) back.stands back.back)
