-- The least range over ticks from one to another: taken tick by tick, and span by span.
use Rattle.std.proofs.Common.{◌≡◌, ℕ, zero, suc, ◌+◌, ◌-◌, ◌<◌, ◌≤◌, ℤ, pos, ◌≤ℤ◌, true, false, List, [], ◌∷◌, arith, refl, sym, ap, ap₂, subst, ◌∙◌, drop, drop-cons, add-one}
use Rattle.std.specs.Prelude.{nat_le, nat_lt as ltb, if◌then◌else◌, length, map, get_or}
use Rattle.std.specs.List.{All, AllZip}
use Rattle.std.proofs.lemmas.List.Elements.{All-map}
use Rattle.std.proofs.lemmas.List.{get_or-map, length-map}
use Rattle.std.proofs.Math.ListN.{drop_of_length-le}
use Rattle.std.proofs.lemmas.Int.{ints, clamps}
use Rattle.std.proofs.lemmas.Bool.Decides.{nat_tests}
use Rattle.sa_base.specs.Numbers.{num_lo, num_hi}
use Rattle.sa_base.specs.declared.num.Num.{Num}
use Rattle.sa_base.specs.declared.num.Num.TheVariants.{I8, U8, I16, U16, I32, U32, I64, U64}
use Rattle.sa_typed.specs.declared.program.Input.{Input}
use Rattle.sa_typed.specs.Evaluation.{Range}
use Rattle.sa_typed.specs.Ranges.{Span, InputRanges, spans_of, range, from_span, at, RiseAbove, AreSpans, IsInside, HoldsAll, IsLeastRange, joined, over_ticks, between, spans_of_type, whole_type, IsOfType}
use Rattle.sa_typed.specs.Gathering.{with_span, gathered}

inside_itself : (r : Range) → IsInside r r
inside_itself r = record { low = omega (arith, ints); high = omega (arith, ints) }

inside_trans : (r s q : Range) → IsInside r s → IsInside s q → IsInside r q
inside_trans r s q h k = record { low = omega (arith, ints, h.low, k.low); high = omega (arith, ints, h.high, k.high) }

first_inside : (r s : Range) → IsInside r (joined r s)
first_inside r s = record { low = omega (arith, ints, clamps); high = omega (arith, ints, clamps) }

second_inside : (r s : Range) → IsInside s (joined r s)
second_inside r s = record { low = omega (arith, ints, clamps); high = omega (arith, ints, clamps) }

joined_inside : (r s q : Range) → IsInside r q → IsInside s q → IsInside (joined r s) q
joined_inside r s q h k = record { low = omega (arith, ints, clamps, h.low, k.low); high = omega (arith, ints, clamps, h.high, k.high) }

same_range : (r s : Range) → IsInside r s → IsInside s r → r ≡ s
same_range r s h k =
    let a : r.lo ≡ s.lo = omega (arith, ints, h.low, k.low) in
    let b : r.hi ≡ s.hi = omega (arith, ints, h.high, k.high) in
    let made : ℤ → ℤ → Range = λ lo hi. record { lo = lo; hi = hi } in
    ap₂ made a b

-- two ranges that are least are one
pub least_is_one : (f : ℕ → Range) (from to : ℕ) (r s : Range) → IsLeastRange f from to r → IsLeastRange f from to s → r ≡ s
least_is_one f from to r s h k = same_range r s (h.least s k.holds) (k.least r h.holds)

-- ranges that are equal at each tick have the same least one
least_of_same : (f g : ℕ → Range) (from to : ℕ) (r : Range) → ((t : ℕ) → from ≤ t → t ≤ to → f t ≡ g t) → IsLeastRange f from to r → IsLeastRange g from to r
least_of_same f g from to r same h = record {
  holds = λ t a b. subst (λ q. IsInside q r) (same t a b) (h.holds t a b);
  least = λ s all. h.least s (λ t a b. subst (λ q. IsInside q s) (sym (same t a b)) (all t a b));
}

-- ---- tick by tick

-- the first tick, or a later one
by_first : (f : ℕ → Range) (t end u : ℕ) (r : Range) → IsInside (f t) r → (suc t ≤ u → u ≤ end → IsInside (f u) r) → t ≤ u → u ≤ end → IsInside (f u) r
by_first f t end u r here later a b =
    elim (ltb t u) as (λ v. ltb t u ≡ v → IsInside (f u) r) [
      | true ↦ λ e. later (grind (arith, nat_tests)) b
      | false ↦ λ e. let same : t ≡ u = grind (arith, nat_tests) in subst (λ v. IsInside (f v) r) same here
    ] refl

over_ticks-least : (spans : List Span) (t more : ℕ) → IsLeastRange (at spans) t (t + more) (over_ticks spans t more)
unfolding over_ticks
over_ticks-least spans t zero = record {
  holds = λ u a b. let e : u ≡ t = omega arith in subst (λ v. IsInside (at spans v) (at spans t)) (sym e) (inside_itself (at spans t));
  least = λ s all. all t (omega arith) (omega arith);
}
over_ticks-least spans t (suc more) =
    let rest = over_ticks-least spans (suc t) more in
    record {
      holds = λ u a b. by_first (at spans) t (suc t + more) u (joined (at spans t) (over_ticks spans (suc t) more)) (first_inside (at spans t) (over_ticks spans (suc t) more))
          (λ c d. inside_trans (at spans u) (over_ticks spans (suc t) more) (joined (at spans t) (over_ticks spans (suc t) more)) (rest.holds u c d) (second_inside (at spans t) (over_ticks spans (suc t) more))) a (omega arith);
      least = λ s all. joined_inside (at spans t) (over_ticks spans (suc t) more) s (all t (omega arith) (omega arith)) (rest.least s (λ u a b. all u (omega arith) (omega arith)));
    }

pub between-least : (spans : List Span) (from to : ℕ) → from ≤ to → IsLeastRange (at spans) from to (between spans from to)
between-least spans from to h =
    let e : from + (to - from) ≡ to = omega arith in
    subst (λ end. IsLeastRange (at spans) from end (between spans from to)) e (over_ticks-least spans from (to - from))

-- ---- span by span

-- from the tick p on nothing changes
abbrev StaysFrom : ℕ → (ℕ → Range) → Type 0
StaysFrom p f = (t : ℕ) → p ≤ t → f t ≡ f p

-- the ranges with one more span
abbrev then_span : (ℕ → Range) → Span → ℕ → Range
then_span f s t = if nat_le s.0 t then range (s.1, s.2) else f t

-- a span that has begun by the first tick
begun : (f : ℕ → Range) (s : Span) (from to : ℕ) → from ≤ to → s.0 ≤ from → IsLeastRange (then_span f s) from to (range (s.1, s.2))
begun f s from to o h =
    let same : (t : ℕ) → from ≤ t → then_span f s t ≡ range (s.1, s.2) = λ t a. grind (arith, nat_tests) in
    record {
      holds = λ t a b. subst (λ q. IsInside q (range (s.1, s.2))) (sym (same t a)) (inside_itself (range (s.1, s.2)));
      least = λ q all. subst (λ r. IsInside r q) (same from (omega arith)) (all from (omega arith) o);
    }

-- a span that begins after the last tick
not_begun : (f : ℕ → Range) (s : Span) (from to : ℕ) (r : Range) → to < s.0 → IsLeastRange f from to r → IsLeastRange (then_span f s) from to r
not_begun f s from to r h k = least_of_same f (then_span f s) from to r (λ t a b. grind (arith, nat_tests)) k

-- what holds all ranges with one more span holds those without it, since nothing changes after the tick before the span
held_before : (f : ℕ → Range) (p : ℕ) (s : Span) (from to : ℕ) (q : Range) → StaysFrom p f → p < s.0 → from < s.0 → s.0 ≤ to →
    HoldsAll (then_span f s) from to q → HoldsAll f from to q
held_before f p s from to q stays above after within all t a b =
    elim (nat_le s.0 t) as (λ v. nat_le s.0 t ≡ v → IsInside (f t) q) [
      | true ↦ λ e.
          let last : f t ≡ f (s.0 - 1) = stays t (grind (arith, nat_tests)) ∙ sym (stays (s.0 - 1) (omega arith)) in
          let same : then_span f s (s.0 - 1) ≡ f (s.0 - 1) = grind (arith, nat_tests) in
          subst (λ x. IsInside x q) (same ∙ sym last) (all (s.0 - 1) (omega arith) (omega arith))
      | false ↦ λ e. let same : then_span f s t ≡ f t = grind (arith, nat_tests, e) in subst (λ x. IsInside x q) same (all t a b)
    ] refl

-- a span that begins between them
begins_between : (f : ℕ → Range) (p : ℕ) (s : Span) (from to : ℕ) (r : Range) → StaysFrom p f → p < s.0 → from < s.0 → s.0 ≤ to →
    IsLeastRange f from to r → IsLeastRange (then_span f s) from to (joined r (range (s.1, s.2)))
begins_between f p s from to r stays above after within k =
    let e = range (s.1, s.2) in
    record {
      holds = λ t a b. elim (nat_le s.0 t) as (λ v. IsInside (if v then e else f t) (joined r e)) [
        | true ↦ second_inside r e
        | false ↦ inside_trans (f t) r (joined r e) (k.holds t a b) (first_inside r e)
      ];
      least = λ q all. joined_inside r e q
          (k.least q (λ t a b. held_before f p s from to q stays above after within all t a b))
          (let same : then_span f s s.0 ≡ e = grind (arith, nat_tests) in subst (λ x. IsInside x q) same (all s.0 (omega arith) within));
    }

at_begun : (from to : ℕ) (r : Range) (s : Span) → s.0 ≤ from → with_span from to r s ≡ range (s.1, s.2)
unfolding with_span
at_begun from to r s h = grind (arith, nat_tests)

at_not_begun : (from to : ℕ) (r : Range) (s : Span) → from < s.0 → to < s.0 → with_span from to r s ≡ r
unfolding with_span
at_not_begun from to r s h k = grind (arith, nat_tests)

at_between : (from to : ℕ) (r : Range) (s : Span) → from < s.0 → s.0 ≤ to → with_span from to r s ≡ joined r (range (s.1, s.2))
unfolding with_span
at_between from to r s h k = grind (arith, nat_tests)

with_span-least : (f : ℕ → Range) (p : ℕ) (s : Span) (from to : ℕ) (r : Range) → from ≤ to → StaysFrom p f → p < s.0 →
    IsLeastRange f from to r → IsLeastRange (then_span f s) from to (with_span from to r s)
with_span-least f p s from to r o stays above k =
    elim (nat_le s.0 from) as (λ v. nat_le s.0 from ≡ v → IsLeastRange (then_span f s) from to (with_span from to r s)) [
      | true ↦ λ e. let h : s.0 ≤ from = grind (arith, nat_tests) in rw (at_begun from to r s h) (begun f s from to o h)
      | false ↦ λ e. let h : from < s.0 = grind (arith, nat_tests) in
          elim (nat_le s.0 to) as (λ v. nat_le s.0 to ≡ v → IsLeastRange (then_span f s) from to (with_span from to r s)) [
            | true ↦ λ e. let i : s.0 ≤ to = grind (arith, nat_tests) in rw (at_between from to r s h i) (begins_between f p s from to r stays above h i k)
            | false ↦ λ e. let i : to < s.0 = grind (arith, nat_tests) in rw (at_not_begun from to r s h i) (not_begun f s from to r i k)
          ] refl
    ] refl

gathered-least : (f : ℕ → Range) (p : ℕ) (spans : List Span) (from to : ℕ) (r : Range) → from ≤ to → StaysFrom p f → RiseAbove p spans →
    IsLeastRange f from to r → IsLeastRange (λ t. from_span (f t) spans t) from to (gathered from to r spans)
unfolding from_span gathered
gathered-least f p [] from to r o stays rise k = k
gathered-least f p (s ∷ rest) from to r o stays rise k =
    gathered-least (then_span f s) s.0 rest from to (with_span from to r s) o (λ t a. grind (arith, nat_tests)) rise.1 (with_span-least f p s from to r o stays rise.0 k)

pub spans-least : (spans : List Span) (from to : ℕ) → AreSpans spans → from ≤ to → IsLeastRange (at spans) from to (gathered from to (range (pos 0, pos 0)) spans)
unfolding from_span gathered
spans-least [] from to h o = absurd h
spans-least (s ∷ rest) from to h o =
    let none : ℕ → Range = λ _. range (pos 0, pos 0) in
    let a : s.0 ≤ from = omega (arith, h.0) in
    gathered-least (then_span none s) s.0 rest from to (with_span from to (range (pos 0, pos 0)) s) o (λ t a. grind (arith, nat_tests)) h.1
    (rw (at_begun from to (range (pos 0, pos 0)) s a) (begun none s from to o a))

-- a step of the loop
pub gathered-step : (from to : ℕ) (r : Range) (spans : List Span) (i : ℕ) (d : Span) → i < length spans →
    gathered from to (with_span from to r (get_or spans i d)) (drop (i + 1) spans) ≡ gathered from to r (drop i spans)
unfolding gathered
gathered-step from to r spans i d h = rw (drop-cons spans i d h, add-one i) refl

-- past the last span
pub gathered-end : (from to : ℕ) (r : Range) (spans : List Span) (i : ℕ) → length spans ≤ i → gathered from to r (drop i spans) ≡ r
unfolding gathered
gathered-end from to r spans i h = rw (drop_of_length-le spans h) refl

-- the spans of an input, where ranges are a list of them seen through f
pub spans_found : {A : Type 0} (f : A → List Span) (xs : List A) (r : InputRanges) (i : ℕ) (x : A) →
    map f xs ≡ r.inputs → i < length r.inputs → x ≡ get_or xs i x → f x ≡ spans_of r i
spans_found f xs r i x view h e =
    let below : i < length xs = omega (arith, length-map xs f, ap length view) in
    ap f e ∙ (sym (get_or-map f xs i x [] below) ∙ ap (λ v. get_or v i []) view)

-- the same backwards: each list is spans where all of them are
pub spans_of_map : {A : Type 0} (f : A → List Span) (xs : List A) (ys : List (List Span)) → map f xs ≡ ys → All AreSpans ys → All (λ x. AreSpans (f x)) xs
spans_of_map f xs ys view all k d h =
    let below : k < length ys = omega (arith, length-map xs f, ap length view) in
    subst AreSpans (ap (λ v. get_or v k []) (sym view) ∙ get_or-map f xs k d [] h) (all k [] below)

-- ---- the whole of each type

one_span : (s : Span) → s.0 ≡ 0 → s.1 ≤ℤ s.2 → AreSpans (s ∷ [])
one_span s e h = (e, tt, λ k d below. let here : k ≡ 0 = omega arith in rw here h)

pub ordered_type : (num : Num) → AreSpans (spans_of_type num)
ordered_type I8 = one_span _ refl (record { le = tt })
ordered_type I16 = one_span _ refl (record { le = tt })
ordered_type I32 = one_span _ refl (record { le = tt })
ordered_type I64 = one_span _ refl (record { le = tt })
ordered_type U8 = one_span _ refl (record { le = tt })
ordered_type U16 = one_span _ refl (record { le = tt })
ordered_type U32 = one_span _ refl (record { le = tt })
ordered_type U64 = one_span _ refl (record { le = tt })

pub ordered_types : (inputs : List Input) → All AreSpans (map whole_type inputs)
ordered_types inputs = All-map AreSpans whole_type inputs (λ k d below. ordered_type (get_or inputs k d).num)

ends : (num : Num) → IsOfType num (0, num_lo num, num_hi num)
ends I8 = record { low = refl; high = refl }
ends I16 = record { low = refl; high = refl }
ends I32 = record { low = refl; high = refl }
ends I64 = record { low = refl; high = refl }
ends U8 = record { low = refl; high = refl }
ends U16 = record { low = refl; high = refl }
ends U32 = record { low = refl; high = refl }
ends U64 = record { low = refl; high = refl }

whole_is_of : (num : Num) → All (IsOfType num) (spans_of_type num)
whole_is_of num = λ k d below. let here : k ≡ 0 = omega arith in rw here (ends num)

pub types_suit : (inputs : List Input) → AllZip (λ spans input. All (IsOfType input.num) spans) (map whole_type inputs) inputs
types_suit [] = tt
types_suit (x ∷ xs) = (whole_is_of x.num, types_suit xs)
