-- What is fair: tops, and what each operation makes of fair environments.
use Rattle.std.proofs.Common.{◌≡◌, ◌∙◌, ℕ, zero, suc, ◌+◌, ◌-◌, ◌<◌, ◌≤◌, List, [], ◌∷◌, length, get_or, set, arith, ℤ, pos, ◌≤ℤ◌, Bool, true, false, sym, refl, subst, ap}
use Rattle.std.specs.Prelude.{Option, None, Some, nat_le, if◌then◌else◌}
use Rattle.std.specs.List.{All}
use Rattle.std.specs.Int.{int_max, int_min}
use Rattle.std.specs.Int.RustNames.{int_le}
use Rattle.std.proofs.lemmas.Int.{ints, clamps}
use Rattle.sa_interval.specs.Span.{Span, IsPart}
use Rattle.sa_interval.specs.Rows.{join_of, meet_of, sum_of, single}
use Rattle.sa_interval.specs.Widening.{widening_of}
use Rattle.sa_interval.proofs.Stops.{widening_between}
use Rattle.sa_shared.specs.Slots.{slotwise, EachSlot}
use Rattle.sa_env.specs.Slots.{fallen, risen, spread_to, widened_span}
use Rattle.sa_env.specs.Flat.{Flat, dead, live, Limits, IsRange, AreLimits, IsIn, IsFair, whole_clock, top_of, join, assigned, at_clock, ticked, with_clock, clock_of, widened_clock, widened_spans, spread, widened}

pub in_self : (s : Span) → s.lo ≤ℤ s.hi → IsIn s s
in_self s h = record { ordered = h; part = record { above = omega (arith, ints); below = omega (arith, ints) } }

each_in_self : (xs : List Span) → All IsRange xs → EachSlot IsIn xs xs
each_in_self [] h = tt
each_in_self (x ∷ xs) h = (in_self x (h 0 x (omega arith)).ordered, each_in_self xs (λ k d l. h (suc k) d (omega arith)))

pub top_fair : (l : Limits) → AreLimits l → IsFair l (top_of l)
top_fair l h = (in_self (whole_clock l) (omega (arith, ints)), each_in_self l.tops h.tops)

-- ---- assignments
pub set_in : (tops xs : List Span) (c : ℕ) (v : Span) → EachSlot IsIn tops xs → IsIn (get_or tops c v) v → EachSlot IsIn tops (set xs c v)
set_in [] [] c v h p = tt
set_in [] (x ∷ xs) c v h p = absurd h
set_in (t ∷ tops) [] c v h p = absurd h
set_in (t ∷ tops) (x ∷ xs) zero v h p = (p, h.1)
set_in (t ∷ tops) (x ∷ xs) (suc c) v h p = (h.0, set_in tops xs c v h.1 p)

pub assigned_fair : (l : Limits) (c : ℕ) (v : Span) (e : Flat) → IsIn (get_or l.tops c v) v → IsFair l e → IsFair l (assigned c v e)
assigned_fair l c v dead p h = tt
assigned_fair l c v (live t xs) p h = (h.0, set_in l.tops xs c v h.1 p)

-- ---- the join
pub join_in : (top a b : Span) → IsIn top a → IsIn top b → IsIn top (join_of a b)
join_in top a b h k = record {
  ordered = omega (arith, ints, clamps, h.ordered, k.ordered);
  part = record { above = omega (arith, ints, clamps, h.part.above, k.part.above); below = omega (arith, ints, clamps, h.part.below, k.part.below) };
}

pub joins_in : (tops xs ys : List Span) → EachSlot IsIn tops xs → EachSlot IsIn tops ys → EachSlot IsIn tops (slotwise join_of xs ys)
joins_in [] [] ys h k = tt
joins_in [] (x ∷ xs) ys h k = absurd h
joins_in (t ∷ tops) [] ys h k = absurd h
joins_in (t ∷ tops) (x ∷ xs) [] h k = absurd k
joins_in (t ∷ tops) (x ∷ xs) (y ∷ ys) h k = (join_in t x y h.0 k.0, joins_in tops xs ys h.1 k.1)

pub join_fair : (l : Limits) (a b : Flat) → IsFair l a → IsFair l b → IsFair l (join a b)
join_fair l dead b h k = k
join_fair l (live t xs) dead h k = h
join_fair l (live t xs) (live u ys) h k = (join_in (whole_clock l) t u h.0 k.0, joins_in l.tops xs ys h.1 k.1)

-- ---- the clock
at_fair : (l : Limits) (o : Option Span) (xs : List Span) → ((t : Span) → o ≡ Some t → IsIn (whole_clock l) t) → EachSlot IsIn l.tops xs → IsFair l (at_clock o xs)
at_fair l None xs f h = tt
at_fair l (Some t) xs f h = (f t refl, h)

some_is : (s t : Span) → Some s ≡ Some t → s ≡ t
some_is s t e = cc

meet_in : (a b t : Span) → meet_of a b ≡ Some t → IsIn b t
meet_in a b t e = go (int_le (int_max a.lo b.lo) (int_min a.hi b.hi)) refl e
  where
    met : Span
    met = record { lo = int_max a.lo b.lo; hi = int_min a.hi b.hi }

    go : (q : Bool) → int_le (int_max a.lo b.lo) (int_min a.hi b.hi) ≡ q → (if q then Some met else None) ≡ Some t → IsIn b t
    go true g e = subst (λ (s : Span). IsIn b s) (some_is met t e) (record {
      ordered = grind (arith, ints);
      part = record { above = omega (arith, ints, clamps); below = omega (arith, ints, clamps) };
    })
    go false g e = absurd (cc)

pub ticked_fair : (l : Limits) (e : Flat) → IsFair l e → IsFair l (ticked l e)
ticked_fair l dead h = tt
ticked_fair l (live t xs) h = at_fair l (meet_of (sum_of t (single (pos 1))) (whole_clock l)) xs (λ s e. meet_in (sum_of t (single (pos 1))) (whole_clock l) s e) h.1

pub with_clock_fair : (l : Limits) (e of : Flat) → IsFair l e → IsFair l of → IsFair l (with_clock e of)
with_clock_fair l dead dead h k = tt
with_clock_fair l dead (live u ys) h k = tt
with_clock_fair l (live t xs) dead h k = tt
with_clock_fair l (live t xs) (live u ys) h k = (k.0, h.1)

-- ---- widening
fallen_holds : (least old new : ℤ) → least ≤ℤ old → least ≤ℤ new → (least ≤ℤ fallen least old new) × (fallen least old new ≤ℤ old) × (fallen least old new ≤ℤ new)
fallen_holds least old new p q = (grind (arith, ints), grind (arith, ints), grind (arith, ints))

risen_holds : (most old new : ℤ) → old ≤ℤ most → new ≤ℤ most → (risen most old new ≤ℤ most) × (old ≤ℤ risen most old new) × (new ≤ℤ risen most old new)
risen_holds most old new p q = (grind (arith, ints), grind (arith, ints), grind (arith, ints))

pub spread_between : (top old new : Span) → IsPart old top → IsPart new top → IsPart old (spread_to top old new) × IsPart new (spread_to top old new) × IsPart (spread_to top old new) top
spread_between top old new p q =
    let l = fallen_holds top.lo old.lo new.lo p.above q.above in
    let h = risen_holds top.hi old.hi new.hi p.below q.below in
    (record { above = l.1; below = h.1 }, record { above = l.2; below = h.2 }, record { above = l.0; below = h.0 })

pub widened_between : (thresholds : List ℤ) (pass : ℕ) (top old new : Span) → IsPart old top → IsPart new top →
    IsPart old (widened_span thresholds pass top old new) × IsPart new (widened_span thresholds pass top old new) × IsPart (widened_span thresholds pass top old new) top
unfolding widened_span
widened_between thresholds pass top old new p q =
    elim (nat_le pass 20) as (λ b. IsPart old (if b then widening_of thresholds old new top else spread_to top old new)
    × IsPart new (if b then widening_of thresholds old new top else spread_to top old new)
    × IsPart (if b then widening_of thresholds old new top else spread_to top old new) top) [
      | true ↦ (let b = widening_between thresholds old new top p q in (b.holds_old, b.holds_new, b.inside))
      | false ↦ spread_between top old new p q
    ]

pub clock_between : (whole old new : Span) → IsPart old whole → IsPart new whole → IsPart old (widened_clock whole old new) × IsPart new (widened_clock whole old new) × IsPart (widened_clock whole old new) whole
clock_between whole old new p q =
    let h = risen_holds whole.hi old.hi new.hi p.below q.below in (
      record { above = omega (arith, ints, clamps); below = h.1 },
      record { above = omega (arith, ints, clamps); below = h.2 },
      record { above = omega (arith, ints, clamps, p.above, q.above); below = h.0 },
    )

-- what lies between a span and its range is a span in the range
between_in : (top old r : Span) → IsIn top old → IsPart old r → IsPart r top → IsIn top r
between_in top old r h p q = record { ordered = omega (arith, ints, h.ordered, p.above, p.below); part = q }

pub widened_in : (thresholds : List ℤ) (pass : ℕ) (tops xs ys : List Span) → EachSlot IsIn tops xs → EachSlot IsIn tops ys → EachSlot IsIn tops (widened_spans thresholds pass tops xs ys)
widened_in thresholds pass [] [] ys h k = tt
widened_in thresholds pass [] (x ∷ xs) ys h k = absurd h
widened_in thresholds pass (t ∷ tops) [] ys h k = absurd h
widened_in thresholds pass (t ∷ tops) (x ∷ xs) [] h k = absurd k
widened_in thresholds pass (t ∷ tops) (x ∷ xs) (y ∷ ys) h k =
    let b = widened_between thresholds pass t x y h.0.part k.0.part in
    (between_in t x (widened_span thresholds pass t x y) h.0 b.0 b.2, widened_in thresholds pass tops xs ys h.1 k.1)

pub spread_fair : (l : Limits) (thresholds : List ℤ) (pass : ℕ) (a b : Flat) → IsFair l a → IsFair l b → IsFair l (spread l thresholds pass a b)
spread_fair l thresholds pass dead b h k = k
spread_fair l thresholds pass (live t xs) dead h k = h
spread_fair l thresholds pass (live t xs) (live u ys) h k =
    let b = clock_between (whole_clock l) t u h.0.part k.0.part in
    (between_in (whole_clock l) t (widened_clock (whole_clock l) t u) h.0 b.0 b.2, widened_in thresholds pass l.tops xs ys h.1 k.1)

pub widened_fair : (l : Limits) → AreLimits l → (thresholds : List ℤ) (pass : ℕ) (a b : Flat) → IsFair l a → IsFair l b → IsFair l (widened l thresholds pass a b)
unfolding widened
widened_fair l m thresholds pass a b h k =
    elim (nat_le pass 3) as (λ q. IsFair l (if q then join a b else (if nat_le pass 30 then spread l thresholds pass a b else top_of l))) [
      | true ↦ join_fair l a b h k
      | false ↦ elim (nat_le pass 30) as (λ q. IsFair l (if q then spread l thresholds pass a b else top_of l)) [
        | true ↦ spread_fair l thresholds pass a b h k
        | false ↦ top_fair l m
      ]
    ]
