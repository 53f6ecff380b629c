-- Weak assignments: a walk over a range of slots leaves what the definition says of their intervals.
use Rattle.std.proofs.Common.{◌≡◌, ◌∙◌, ℕ, zero, suc, ◌+◌, ◌<◌, ◌≤◌, List, [], ◌∷◌, ◌++◌, length, take, drop, map, get_or, arith, Bool, true, false, ◌&&◌, sym, refl, subst, ap}
use Rattle.std.specs.Prelude.{nat_le, nat_lt, if◌then◌else◌, Option, None, Some, unwrap_or}
use Rattle.std.proofs.lemmas.Bool.Decides.{nat_tests}
use Rattle.std.proofs.lemmas.Int.{ints, clamps}
use Rattle.sa_interval.specs.Span.{Span, IsPart}
use Rattle.sa_interval.specs.Rows.{join_of, is_part}
use Rattle.sa_shared.specs.Slots.{EachSlot}
use Rattle.sa_shared.specs.Walks.{in_range, changed}
use Rattle.sa_env.specs.declared.slot.SlotValue.{SlotValue}
use Rattle.sa_env.specs.declared.slot.SlotValue.TheVariants.{Cell}
use Rattle.sa_env.specs.SlotLaws.{join_part}
use Rattle.sa_env.specs.Slots.{span_of, spans_of, slot_weakened}
use Rattle.sa_env.specs.Flat.{Flat, dead, live, Limits, IsIn, IsFair, either, weakened, weakly_assigned}
use Rattle.sa_env.proofs.Order.{part_test}

-- the same slot by slot, where the first slot is number k
abbrev weak_from : Span → ℕ → ℕ → ℕ → List Span → List Span
weak_from v from to k [] = []
weak_from v from to k (s ∷ ss) = (if nat_le from k && nat_lt k to then join_of s v else s) ∷ weak_from v from to (suc k) ss

-- ---- the walk
one : (v s : Span) (b : Bool) → span_of (unwrap_or (if b then slot_weakened v (Cell s) else None) (Cell s)) ≡ (if b then join_of s v else s)
one v s false = refl
one v s true = two (is_part v s) refl
  where
    two : (q : Bool) → is_part v s ≡ q → span_of (unwrap_or (if q then None else Some (Cell (join_of s v))) (Cell s)) ≡ join_of s v
    two true e = sym (join_part s v ((part_test v s).0 e))
    two false e = refl

spans_changed : (v : Span) (from to k : ℕ) (xs : List SlotValue) → spans_of (changed (in_range from to (λ n x. slot_weakened v x)) k xs) ≡ weak_from v from to k (spans_of xs)
unfolding changed in_range
spans_changed v from to k [] = refl
spans_changed v from to k (Cell s ∷ xs) =
    ap (λ (t : Span). t ∷ spans_of (changed (in_range from to (λ n x. slot_weakened v x)) (suc k) xs)) (one v s (nat_le from k && nat_lt k to))
    ∙ ap (λ (l : List Span). (if nat_le from k && nat_lt k to then join_of s v else s) ∷ l) (spans_changed v from to (suc k) xs)

-- ---- its list
is_inside : (from to k : ℕ) → from ≤ k → k < to → (nat_le from k && nat_lt k to) ≡ true
is_inside from to k h l = grind (arith, nat_tests)

is_before : (from to k : ℕ) → k < from → (nat_le from k && nat_lt k to) ≡ false
is_before from to k h = grind (arith, nat_tests)

is_behind : (from to k : ℕ) → to ≤ k → (nat_le from k && nat_lt k to) ≡ false
is_behind from to k h = grind (arith, nat_tests)

pub take_none : (n : ℕ) → take {A = Span} n [] ≡ []
take_none zero = refl
take_none (suc n) = refl

pub drop_none : (n : ℕ) → drop {A = Span} n [] ≡ []
drop_none zero = refl
drop_none (suc n) = refl

behind : (v : Span) (from to k : ℕ) (xs : List Span) → to ≤ k → weak_from v from to k xs ≡ xs
behind v from to k [] h = refl
behind v from to k (s ∷ ss) h = rw (is_behind from to k h) (ap (λ (l : List Span). s ∷ l) (behind v from to (suc k) ss (omega arith)))

inside : (v : Span) (from to k : ℕ) (xs : List Span) (count : ℕ) → from ≤ k → to ≡ k + count → weak_from v from to k xs ≡ map (either v) (take count xs) ++ drop count xs
inside v from to k [] zero h e = refl
inside v from to k [] (suc n) h e = refl
inside v from to k (s ∷ ss) zero h e = behind v from to k (s ∷ ss) (omega (arith, e))
inside v from to k (s ∷ ss) (suc n) h e =
    rw (is_inside from to k h (omega (arith, e))) (ap (λ (l : List Span). join_of s v ∷ l) (inside v from to (suc k) ss n (omega arith) (omega (arith, e))))

-- `n` is the first one behind the range
pieces : (v : Span) (from to k : ℕ) (xs : List Span) (first count n : ℕ) → from ≡ k + first → to ≡ from + count → n ≡ first + count →
    weak_from v from to k xs ≡ take first xs ++ (map (either v) (take count (drop first xs)) ++ drop n xs)
pieces v from to k [] first count n e f g = rw (take_none first, drop_none first, take_none count, drop_none n) refl
pieces v from to k (s ∷ ss) zero count n e f g =
    let m : n ≡ count = omega (arith, g) in
    inside v from to k (s ∷ ss) count (omega (arith, e)) (omega (arith, e, f)) ∙ ap (λ (i : ℕ). map (either v) (take count (s ∷ ss)) ++ drop i (s ∷ ss)) (sym m)
pieces v from to k (s ∷ ss) (suc first) count zero e f g = absurd (omega (arith, g))
pieces v from to k (s ∷ ss) (suc first) count (suc n) e f g =
    rw (is_before from to k (omega (arith, e))) (ap (λ (l : List Span). s ∷ l) (pieces v from to (suc k) ss first count n (omega (arith, e)) f (omega (arith, g))))

weak_is : (v : Span) (first count : ℕ) (xs : List Span) → weak_from v first (first + count) 0 xs ≡ weakened first count v xs
weak_is v first count xs = pieces v first (first + count) 0 xs first count (first + count) (omega arith) refl refl

pub spans_weakened : (v : Span) (first count : ℕ) (xs : List SlotValue) → spans_of (changed (in_range first (first + count) (λ n x. slot_weakened v x)) 0 xs) ≡ weakened first count v (spans_of xs)
spans_weakened v first count xs = spans_changed v first (first + count) 0 xs ∙ weak_is v first count (spans_of xs)

-- ---- fairness
one_in : (t x v : Span) → IsIn t x → IsPart v t → IsIn t (join_of x v)
one_in t x v h p = record {
  ordered = omega (arith, ints, clamps, h.ordered);
  part = record { above = omega (arith, ints, clamps, h.part.above, p.above); below = omega (arith, ints, clamps, h.part.below, p.below) };
}

each_in : (v : Span) (from to k : ℕ) (tops xs : List Span) → ((j : ℕ) → from ≤ k + j → k + j < to → IsPart v (get_or tops j v)) → EachSlot IsIn tops xs → EachSlot IsIn tops (weak_from v from to k xs)
each_in v from to k [] [] p h = tt
each_in v from to k [] (x ∷ xs) p h = absurd h
each_in v from to k (t ∷ tops) [] p h = absurd h
each_in v from to k (t ∷ tops) (x ∷ xs) p h = (go (nat_le from k && nat_lt k to) refl, each_in v from to (suc k) tops xs (λ j a b. p (suc j) (omega arith) (omega arith)) h.1)
  where
    go : (b : Bool) → (nat_le from k && nat_lt k to) ≡ b → IsIn t (if b then join_of x v else x)
    go true e = one_in t x v h.0 (p 0 (grind (arith, nat_tests)) (grind (arith, nat_tests)))
    go false e = h.0

pub weakly_fair : (l : Limits) (first count : ℕ) (v : Span) (e : Flat) → ((k : ℕ) → first ≤ k → k < first + count → IsPart v (get_or l.tops k v)) → IsFair l e → IsFair l (weakly_assigned first count v e)
weakly_fair l first count v dead p h = tt
weakly_fair l first count v (live t xs) p h = (
  h.0,
  subst (λ (ys : List Span). EachSlot IsIn l.tops ys) (weak_is v first count xs)
      (each_in v first (first + count) 0 l.tops xs (λ j a b. p j (omega arith) (omega arith)) h.1),
)
