-- Widening: a walk over two lists leaves what the definition says of their intervals.
use Rattle.std.proofs.Common.{◌≡◌, ◌∙◌, ℕ, zero, suc, ◌+◌, ◌<◌, ◌≤◌, List, [], ◌∷◌, length, drop, get_or, arith, add-one, ℤ, ◌≤ℤ◌, Bool, true, false, sym, refl, subst, ap}
use Rattle.std.specs.Prelude.{nat_le, if◌then◌else◌, Option, None, Some, unwrap_or, slice_get}
use Rattle.std.proofs.lemmas.List.{drop_more}
use Rattle.std.proofs.lemmas.Int.{ints}
use Rattle.sa_interval.specs.Span.{Span, IsPart}
use Rattle.sa_interval.specs.Rows.{is_part}
use Rattle.sa_interval.specs.Widening.{widening_of, lowered, raised}
use Rattle.sa_shared.specs.Slots.{EachSlot}
use Rattle.sa_shared.specs.Walks.{combined, AtEachSlot}
use Rattle.sa_env.specs.declared.slot.SlotValue.{SlotValue}
use Rattle.sa_env.specs.declared.slot.SlotValue.TheVariants.{Cell}
use Rattle.sa_env.specs.SlotLaws.{same_ends}
use Rattle.sa_env.specs.Slots.{span_of, spans_of, fallen, risen, spread_to, widened_span, slot_spread}
use Rattle.sa_env.specs.Walks.{AreUnder, spread_at}
use Rattle.std.proofs.lemmas.Bool.Decides.{nat_tests}
use Rattle.sa_env.specs.Flat.{Flat, Limits, IsIn, widened_spans, join, spread, top_of, widened}
use Rattle.sa_env.proofs.Order.{part_test}

-- what is inside moves no bound
low_stays : (thresholds : List ℤ) (old new end : ℤ) → old ≤ℤ new → lowered thresholds old new end ≡ old
low_stays thresholds old new end h = grind (arith, ints)

high_stays : (thresholds : List ℤ) (old new end : ℤ) → new ≤ℤ old → raised thresholds old new end ≡ old
high_stays thresholds old new end h = grind (arith, ints)

stays : (thresholds : List ℤ) (pass : ℕ) (top old new : Span) → IsPart new old → widened_span thresholds pass top old new ≡ old
unfolding widened_span
stays thresholds pass top old new p =
    elim (nat_le pass 20) as (λ b. (if b then widening_of thresholds old new top else spread_to top old new) ≡ old) [
      | true ↦ same_ends (widening_of thresholds old new top) old (low_stays thresholds old.lo new.lo top.lo p.above) (high_stays thresholds old.hi new.hi top.hi p.below)
      | false ↦ same_ends (spread_to top old new) old (low_kept top.lo old.lo new.lo p.above) (high_kept top.hi old.hi new.hi p.below)
    ]
  where
    low_kept : (least old new : ℤ) → old ≤ℤ new → fallen least old new ≡ old
    low_kept least old new h = grind (arith, ints)

    high_kept : (most old new : ℤ) → new ≤ℤ old → risen most old new ≡ old
    high_kept most old new h = grind (arith, ints)

one : (thresholds : List ℤ) (pass : ℕ) (top old new : Span) → span_of (unwrap_or (slot_spread thresholds pass (Cell top) (Cell old) (Cell new)) (Cell old)) ≡ widened_span thresholds pass top old new
one thresholds pass top old new = go (is_part new old) refl
  where
    go : (q : Bool) → is_part new old ≡ q → span_of (unwrap_or (if q then None else Some (Cell (widened_span thresholds pass top old new))) (Cell old)) ≡ widened_span thresholds pass top old new
    go true e = sym (stays thresholds pass top old new ((part_test new old).0 e))
    go false e = refl

first_none : (thresholds : List ℤ) (pass : ℕ) (tops ys : List Span) → widened_spans thresholds pass tops [] ys ≡ []
first_none thresholds pass [] ys = refl
first_none thresholds pass (t ∷ tops) ys = refl

second_none : (thresholds : List ℤ) (pass : ℕ) (tops xs : List Span) → widened_spans thresholds pass tops xs [] ≡ []
second_none thresholds pass [] xs = refl
second_none thresholds pass (t ∷ tops) [] = refl
second_none thresholds pass (t ∷ tops) (x ∷ xs) = refl

spans_from : (tops : List Span) (thresholds : List ℤ) (pass k : ℕ) (xs ys : List SlotValue) → k + length xs ≤ length tops →
    spans_of (combined (spread_at tops thresholds pass) k xs ys) ≡ widened_spans thresholds pass (drop k tops) (spans_of xs) (spans_of ys)
unfolding combined
spans_from tops thresholds pass k [] ys h = sym (first_none thresholds pass (drop k tops) (spans_of ys))
spans_from tops thresholds pass k (x ∷ xs) [] h = sym (second_none thresholds pass (drop k tops) (spans_of (x ∷ xs)))
spans_from tops thresholds pass k (Cell a ∷ xs) (Cell b ∷ ys) h =
    let rest : List Span = widened_spans thresholds pass (drop (suc k) tops) (spans_of xs) (spans_of ys) in
    let top : Span = get_or tops k a in
    let d : drop k tops ≡ top ∷ drop (suc k) tops = drop_more tops k a (omega arith) ∙ ap (λ (n : ℕ). top ∷ drop n tops) (add-one k) in
    ap (λ (s : Span). s ∷ spans_of (combined (spread_at tops thresholds pass) (suc k) xs ys)) (one thresholds pass top a b)
    ∙ ap (λ (l : List Span). widened_span thresholds pass top a b ∷ l) (spans_from tops thresholds pass (suc k) xs ys (omega arith))
    ∙ sym (ap (λ (l : List Span). widened_spans thresholds pass l (a ∷ spans_of xs) (b ∷ spans_of ys)) d)

pub spans_spread : (tops : List Span) (thresholds : List ℤ) (pass : ℕ) (xs ys : List SlotValue) → length xs ≡ length tops →
    spans_of (combined (spread_at tops thresholds pass) 0 xs ys) ≡ widened_spans thresholds pass tops (spans_of xs) (spans_of ys)
spans_spread tops thresholds pass xs ys h = spans_from tops thresholds pass 0 xs ys (omega (arith, h))

-- ---- the two lists lie under the tops
pub in_at : (tops : List Span) (xs : List SlotValue) (k : ℕ) (x : SlotValue) (d : Span) → EachSlot IsIn tops (spans_of xs) → slice_get xs k ≡ Some x → (k < length tops) × IsIn (get_or tops k d) (span_of x)
in_at tops [] k x d h e = absurd cc
in_at [] (y ∷ xs) k x d h e = absurd h
in_at (t ∷ tops) (y ∷ xs) zero x d h e = (omega arith, subst (λ (z : SlotValue). IsIn t (span_of z)) (some_is y x e) h.0)
  where
    some_is : (y x : SlotValue) → Some y ≡ Some x → y ≡ x
    some_is y x e = cc
in_at (t ∷ tops) (y ∷ xs) (suc k) x d h e = let r = in_at tops xs k x d h.1 e in (omega (arith, r.0), r.1)

pub are_under : (tops : List Span) (xs ys : List SlotValue) → EachSlot IsIn tops (spans_of xs) → EachSlot IsIn tops (spans_of ys) → AtEachSlot (AreUnder tops) xs ys
are_under tops xs ys h g k x y e f =
    let a = in_at tops xs k x (span_of x) h e in
    let b = in_at tops ys k y (span_of x) g f in
    record { inside = a.0; old = a.1.part; new = b.1.part }

-- ---- by the pass
pub early : (l : Limits) (thresholds : List ℤ) (pass : ℕ) (a b : Flat) → pass ≤ 3 → join a b ≡ widened l thresholds pass a b
unfolding widened
early l thresholds pass a b h = let e : nat_le pass 3 ≡ true = grind (arith, nat_tests) in rw e refl

pub between : (l : Limits) (thresholds : List ℤ) (pass : ℕ) (a b : Flat) → 3 < pass → pass ≤ 30 → spread l thresholds pass a b ≡ widened l thresholds pass a b
unfolding widened
between l thresholds pass a b h k =
    let e : nat_le pass 3 ≡ false = grind (arith, nat_tests) in
    let f : nat_le pass 30 ≡ true = grind (arith, nat_tests) in
    rw (e, f) refl

pub late : (l : Limits) (thresholds : List ℤ) (pass : ℕ) (a b : Flat) → 30 < pass → top_of l ≡ widened l thresholds pass a b
unfolding widened
late l thresholds pass a b h =
    let e : nat_le pass 3 ≡ false = grind (arith, nat_tests) in
    let f : nat_le pass 30 ≡ false = grind (arith, nat_tests) in
    rw (e, f) refl
