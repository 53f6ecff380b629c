-- Flat environments are partially ordered, with joins.
use Rattle.std.proofs.Common.{◌≡◌, ◌∙◌, ℕ, List, [], ◌∷◌, arith, ℤ, Bool, true, false, ◌&&◌, sym, refl, subst, ap, ◌↔◌, IsTrue}
use Rattle.std.specs.Prelude.{nat_le, if◌then◌else◌}
use Rattle.std.proofs.lemmas.Int.{ints, clamps}
use Rattle.sa_interval.specs.Span.{Span, IsPart}
use Rattle.sa_interval.specs.Rows.{join_of, is_part}
use Rattle.sa_shared.specs.Slots.{slotwise, EachSlot}
use Rattle.sa_env.specs.SlotLaws.{part_self, part_on, both_parts, join_first, join_second, join_least}
use Rattle.sa_env.specs.Slots.{widened_span}
use Rattle.sa_env.specs.Flat.{Flat, dead, live, Limits, IsIn, IsFair, whole_clock, all_parts, is_below, IsBelow, top_of, join, widened_clock, widened_spans, spread, widened}
use Rattle.sa_env.proofs.Fairness.{widened_between, clock_between, in_self}

-- ---- slot by slot
parts_self : (xs : List Span) → EachSlot IsPart xs xs
parts_self [] = tt
parts_self (x ∷ xs) = (part_self x, parts_self xs)

parts_on : (xs ys zs : List Span) → EachSlot IsPart xs ys → EachSlot IsPart ys zs → EachSlot IsPart xs zs
parts_on [] [] zs h k = k
parts_on [] (y ∷ ys) zs h k = absurd h
parts_on (x ∷ xs) [] zs h k = absurd h
parts_on (x ∷ xs) (y ∷ ys) [] h k = absurd k
parts_on (x ∷ xs) (y ∷ ys) (z ∷ zs) h k = (part_on x y z h.0 k.0, parts_on xs ys zs h.1 k.1)

parts_both : (xs ys : List Span) → EachSlot IsPart xs ys → EachSlot IsPart ys xs → xs ≡ ys
parts_both [] [] h k = refl
parts_both [] (y ∷ ys) h k = absurd h
parts_both (x ∷ xs) [] h k = absurd h
parts_both (x ∷ xs) (y ∷ ys) h k = ap (λ (s : Span). s ∷ xs) (both_parts x y h.0 k.0) ∙ ap (λ (l : List Span). y ∷ l) (parts_both xs ys h.1 k.1)

parts_in : (tops xs : List Span) → EachSlot IsIn tops xs → EachSlot IsPart xs tops
parts_in [] [] h = tt
parts_in [] (x ∷ xs) h = absurd h
parts_in (t ∷ tops) [] h = absurd h
parts_in (t ∷ tops) (x ∷ xs) h = (h.0.part, parts_in tops xs h.1)

joins_first : (tops xs ys : List Span) → EachSlot IsIn tops xs → EachSlot IsIn tops ys → EachSlot IsPart xs (slotwise join_of xs ys)
joins_first [] [] ys h k = tt
joins_first [] (x ∷ xs) ys h k = absurd h
joins_first (t ∷ tops) [] ys h k = absurd h
joins_first (t ∷ tops) (x ∷ xs) [] h k = absurd k
joins_first (t ∷ tops) (x ∷ xs) (y ∷ ys) h k = (join_first x y, joins_first tops xs ys h.1 k.1)

joins_second : (tops xs ys : List Span) → EachSlot IsIn tops xs → EachSlot IsIn tops ys → EachSlot IsPart ys (slotwise join_of xs ys)
joins_second [] [] [] h k = tt
joins_second [] [] (y ∷ ys) h k = absurd k
joins_second [] (x ∷ xs) ys h k = absurd h
joins_second (t ∷ tops) [] ys h k = absurd h
joins_second (t ∷ tops) (x ∷ xs) [] h k = absurd k
joins_second (t ∷ tops) (x ∷ xs) (y ∷ ys) h k = (join_second x y, joins_second tops xs ys h.1 k.1)

joins_least : (xs ys zs : List Span) → EachSlot IsPart xs zs → EachSlot IsPart ys zs → EachSlot IsPart (slotwise join_of xs ys) zs
joins_least [] ys [] h k = tt
joins_least [] ys (z ∷ zs) h k = absurd h
joins_least (x ∷ xs) ys [] h k = absurd h
joins_least (x ∷ xs) [] (z ∷ zs) h k = absurd k
joins_least (x ∷ xs) (y ∷ ys) (z ∷ zs) h k = (join_least x y z h.0 k.0, joins_least xs ys zs h.1 k.1)

widened_first : (thresholds : List ℤ) (pass : ℕ) (tops xs ys : List Span) → EachSlot IsIn tops xs → EachSlot IsIn tops ys → EachSlot IsPart xs (widened_spans thresholds pass tops xs ys)
widened_first thresholds pass [] [] ys h k = tt
widened_first thresholds pass [] (x ∷ xs) ys h k = absurd h
widened_first thresholds pass (t ∷ tops) [] ys h k = absurd h
widened_first thresholds pass (t ∷ tops) (x ∷ xs) [] h k = absurd k
widened_first thresholds pass (t ∷ tops) (x ∷ xs) (y ∷ ys) h k = ((widened_between thresholds pass t x y h.0.part k.0.part).0, widened_first thresholds pass tops xs ys h.1 k.1)

widened_second : (thresholds : List ℤ) (pass : ℕ) (tops xs ys : List Span) → EachSlot IsIn tops xs → EachSlot IsIn tops ys → EachSlot IsPart ys (widened_spans thresholds pass tops xs ys)
widened_second thresholds pass [] [] [] h k = tt
widened_second thresholds pass [] [] (y ∷ ys) h k = absurd k
widened_second thresholds pass [] (x ∷ xs) ys h k = absurd h
widened_second thresholds pass (t ∷ tops) [] ys h k = absurd h
widened_second thresholds pass (t ∷ tops) (x ∷ xs) [] h k = absurd k
widened_second thresholds pass (t ∷ tops) (x ∷ xs) (y ∷ ys) h k = ((widened_between thresholds pass t x y h.0.part k.0.part).1, widened_second thresholds pass tops xs ys h.1 k.1)

-- ---- environments
pub below_self : (e : Flat) → IsBelow e e
below_self dead = tt
below_self (live t xs) = (part_self t, parts_self xs)

pub below_on : (a b c : Flat) → IsBelow a b → IsBelow b c → IsBelow a c
below_on dead b c h k = tt
below_on (live t xs) dead c h k = absurd h
below_on (live t xs) (live u ys) dead h k = absurd k
below_on (live t xs) (live u ys) (live v zs) h k = (part_on t u v h.0 k.0, parts_on xs ys zs h.1 k.1)

pub below_both : (a b : Flat) → IsBelow a b → IsBelow b a → a ≡ b
below_both dead dead h k = refl
below_both dead (live u ys) h k = absurd k
below_both (live t xs) dead h k = absurd h
below_both (live t xs) (live u ys) h k = ap (λ (s : Span). live s xs) (both_parts t u h.0 k.0) ∙ ap (λ (l : List Span). live u l) (parts_both xs ys h.1 k.1)

pub below_top : (l : Limits) (e : Flat) → IsFair l e → IsBelow e (top_of l)
below_top l dead h = tt
below_top l (live t xs) h = (h.0.part, parts_in l.tops xs h.1)

pub below_join_first : (l : Limits) (a b : Flat) → IsFair l a → IsFair l b → IsBelow a (join a b)
below_join_first l dead b h k = tt
below_join_first l (live t xs) dead h k = below_self (live t xs)
below_join_first l (live t xs) (live u ys) h k = (join_first t u, joins_first l.tops xs ys h.1 k.1)

pub below_join_second : (l : Limits) (a b : Flat) → IsFair l a → IsFair l b → IsBelow b (join a b)
below_join_second l dead b h k = below_self b
below_join_second l (live t xs) dead h k = tt
below_join_second l (live t xs) (live u ys) h k = (join_second t u, joins_second l.tops xs ys h.1 k.1)

pub join_below : (a b c : Flat) → IsBelow a c → IsBelow b c → IsBelow (join a b) c
join_below dead b c h k = k
join_below (live t xs) dead c h k = h
join_below (live t xs) (live u ys) dead h k = absurd h
join_below (live t xs) (live u ys) (live v zs) h k = (join_least t u v h.0 k.0, joins_least xs ys zs h.1 k.1)

spread_first : (l : Limits) (thresholds : List ℤ) (pass : ℕ) (a b : Flat) → IsFair l a → IsFair l b → IsBelow a (spread l thresholds pass a b)
spread_first l thresholds pass dead b h k = tt
spread_first l thresholds pass (live t xs) dead h k = below_self (live t xs)
spread_first l thresholds pass (live t xs) (live u ys) h k = ((clock_between (whole_clock l) t u h.0.part k.0.part).0, widened_first thresholds pass l.tops xs ys h.1 k.1)

spread_second : (l : Limits) (thresholds : List ℤ) (pass : ℕ) (a b : Flat) → IsFair l a → IsFair l b → IsBelow b (spread l thresholds pass a b)
spread_second l thresholds pass dead b h k = below_self b
spread_second l thresholds pass (live t xs) dead h k = tt
spread_second l thresholds pass (live t xs) (live u ys) h k = ((clock_between (whole_clock l) t u h.0.part k.0.part).1, widened_second thresholds pass l.tops xs ys h.1 k.1)

-- what holds of each form of a widening
by_pass : (P : Flat → Type 0) (l : Limits) (thresholds : List ℤ) (pass : ℕ) (a b : Flat) → P (join a b) → P (spread l thresholds pass a b) → P (top_of l) → P (widened l thresholds pass a b)
unfolding widened
by_pass P l thresholds pass a b p q r =
    elim (nat_le pass 3) as (λ o. P (if o then join a b else (if nat_le pass 30 then spread l thresholds pass a b else top_of l)))
    [ true ↦ p | false ↦ elim (nat_le pass 30) as (λ o. P (if o then spread l thresholds pass a b else top_of l)) [ true ↦ q | false ↦ r ] ]

pub below_widened_first : (l : Limits) (thresholds : List ℤ) (pass : ℕ) (a b : Flat) → IsFair l a → IsFair l b → IsBelow a (widened l thresholds pass a b)
below_widened_first l thresholds pass a b h k =
    by_pass (λ (e : Flat). IsBelow a e) l thresholds pass a b (below_join_first l a b h k) (spread_first l thresholds pass a b h k) (below_top l a h)

pub below_widened_second : (l : Limits) (thresholds : List ℤ) (pass : ℕ) (a b : Flat) → IsFair l a → IsFair l b → IsBelow b (widened l thresholds pass a b)
below_widened_second l thresholds pass a b h k =
    by_pass (λ (e : Flat). IsBelow b e) l thresholds pass a b (below_join_second l a b h k) (spread_second l thresholds pass a b h k) (below_top l b k)

-- ---- the test
pub part_test : (a b : Span) → (is_part a b ≡ true → IsPart a b) × (IsPart a b → is_part a b ≡ true)
part_test a b = ((λ h. record { above = grind (arith, ints); below = grind (arith, ints) }), (λ p. let u = p.above in let v = p.below in grind (arith, ints)))

both_true : (p q : Bool) → (p && q) ≡ true → (p ≡ true) × (q ≡ true)
both_true true q h = (refl, h)
both_true false q h = absurd cc

true_both : (p q : Bool) → p ≡ true → q ≡ true → (p && q) ≡ true
true_both p q h k = rw h k

pub parts_test : (xs ys : List Span) → (all_parts xs ys ≡ true → EachSlot IsPart xs ys) × (EachSlot IsPart xs ys → all_parts xs ys ≡ true)
parts_test [] [] = ((λ h. tt), (λ h. refl))
parts_test [] (y ∷ ys) = ((λ h. absurd cc), (λ h. absurd h))
parts_test (x ∷ xs) [] = ((λ h. absurd cc), (λ h. absurd h))
parts_test (x ∷ xs) (y ∷ ys) = (
  (λ h. let b = both_true (is_part x y) (all_parts xs ys) h in ((part_test x y).0 b.0, (parts_test xs ys).0 b.1)),
  (λ h. true_both (is_part x y) (all_parts xs ys) ((part_test x y).1 h.0) ((parts_test xs ys).1 h.1)),
)

pub below_test : (a b : Flat) → (is_below a b ≡ true → IsBelow a b) × (IsBelow a b → is_below a b ≡ true)
below_test dead b = ((λ h. tt), (λ h. refl))
below_test (live t xs) dead = ((λ h. absurd cc), (λ h. absurd h))
below_test (live t xs) (live u ys) = (
  (λ h. let b = both_true (is_part t u) (all_parts xs ys) h in ((part_test t u).0 b.0, (parts_test xs ys).0 b.1)),
  (λ h. true_both (is_part t u) (all_parts xs ys) ((part_test t u).1 h.0) ((parts_test xs ys).1 h.1)),
)
