-- Quotients are least, by the divisors below zero, by those above, and by both.
use Rattle.std.proofs.Common.{◌≡◌, ℤ, pos, negsuc, ◌^◌, ◌≤ℤ◌, ◌<ℤ◌, int_div, true, false, cond, IfSome, Option, Some, None, ◌⊎◌, inl, inr, option_map, MatchOption, arith, refl}
use Rattle.std.specs.Int.{int_max, int_min}
use Rattle.std.specs.Int.RustNames.{int_le}
use Rattle.std.proofs.lemmas.Int.{ints, clamps, by_lt_z}
use Rattle.sa_interval.specs.Span.{Span, Within, IsBound, IsInterval, IsLeast, low_limit, high_limit}
use Rattle.sa_interval.specs.Rows.{Quotients, quotients_by, below_zero, above_zero, join_some, quotient_of}
use Rattle.sa_interval.proofs.Hulls.{least_hull_inside}
use Rattle.sa_interval.proofs.Least.{within_lo, within_hi}
use Rattle.sa_numbers.proofs.Order.{le_from, above_from}
use Rattle.sa_numbers.proofs.Quotients.{quotient-corners_above, quotient-corners_below, quotient-size}

-- no number is a result
abbrev Empty : (ℤ → Type 0) → Type 0
Empty R = (z : ℤ) → R z → ⊥

-- the join of what is least for two parts of the results is least for both
pub join_least : (R S T : ℤ → Type 0) → ((z : ℤ) → R z → S z ⊎ T z) → ((z : ℤ) → S z → R z) → ((z : ℤ) → T z → R z) →
    (s t : Option Span) → MatchOption s (Empty S) (IsLeast S) → MatchOption t (Empty T) (IsLeast T) → MatchOption (join_some s t) (Empty R) (IsLeast R)
join_least R S T parts first second None None p q = λ z r. elim (parts z r) [ inl h ↦ p z h | inr h ↦ q z h ]
join_least R S T parts first second None (Some t) p q = record {
  holds = λ z r. elim (parts z r) [ inl h ↦ absurd (p z h) | inr h ↦ q.holds z h ];
  least = λ u all. q.least u (λ z h. all z (second z h));
}
join_least R S T parts first second (Some s) None p q = record {
  holds = λ z r. elim (parts z r) [ inl h ↦ p.holds z h | inr h ↦ absurd (q z h) ];
  least = λ u all. p.least u (λ z h. all z (first z h));
}
join_least R S T parts first second (Some s) (Some t) p q = record {
  holds = λ z r. elim (parts z r) [
    | inl h ↦ let w = p.holds z h in record { above = omega (arith, ints, clamps, w.above); below = omega (arith, ints, clamps, w.below) }
    | inr h ↦ let w = q.holds z h in record { above = omega (arith, ints, clamps, w.above); below = omega (arith, ints, clamps, w.below) }
  ];
  least = λ u all.
      let a = p.least u (λ z h. all z (first z h)) in
      let b = q.least u (λ z h. all z (second z h)) in
      record { above = omega (arith, ints, clamps, a.above, b.above); below = omega (arith, ints, clamps, a.below, b.below) };
}

-- the quotients by the divisors below zero
abbrev Below : Span → Span → ℤ → Type 0
Below a b z = (x : ℤ) × (y : ℤ) × Within a x × Within b y × (y <ℤ pos 0) × (z ≡ int_div x y)

abbrev Above : Span → Span → ℤ → Type 0
Above a b z = (x : ℤ) × (y : ℤ) × Within a x × Within b y × (pos 0 <ℤ y) × (z ≡ int_div x y)

small : (a : Span) (x y : ℤ) → IsInterval a → Within a x → IsBound (int_div x y)
small a x y i w =
    let size = quotient-size x y (2 ^ 100) (omega (arith, ints, i.low, w.above)) (omega (arith, ints, i.high, w.below)) in
    record { low = size.0; high = size.1 }

least_below : (a d : Span) → IsInterval a → d.lo ≤ℤ d.hi → d.hi <ℤ pos 0 → IsLeast (Below a d) (quotients_by a d)
unfolding quotients_by
least_below a d i order down =
    let al = within_lo a i.ordered in
    let ah = within_hi a i.ordered in
    let dl = within_lo d order in
    let dh = within_hi d order in
    let lo_down : d.lo <ℤ pos 0 = omega (arith, ints) in
    least_hull_inside (Below a d) _ _ _ _
    (a.lo, d.lo, al, dl, lo_down, refl)
    (a.lo, d.hi, al, dh, down, refl)
    (a.hi, d.lo, ah, dl, lo_down, refl)
    (a.hi, d.hi, ah, dh, down, refl)
    (λ z (x, y, in_a, in_d, sign, is). rw is (small a x y i in_a))
    (λ z (x, y, in_a, in_d, sign, is). rw is (quotient-corners_below a.lo a.hi d.lo d.hi x y down in_a.above in_a.below in_d.above in_d.below))

least_above : (a d : Span) → IsInterval a → d.lo ≤ℤ d.hi → pos 0 <ℤ d.lo → IsLeast (Above a d) (quotients_by a d)
unfolding quotients_by
least_above a d i order up =
    let al = within_lo a i.ordered in
    let ah = within_hi a i.ordered in
    let dl = within_lo d order in
    let dh = within_hi d order in
    let hi_up : pos 0 <ℤ d.hi = omega (arith, ints) in
    least_hull_inside (Above a d) _ _ _ _
    (a.lo, d.lo, al, dl, up, refl)
    (a.lo, d.hi, al, dh, hi_up, refl)
    (a.hi, d.lo, ah, dl, up, refl)
    (a.hi, d.hi, ah, dh, hi_up, refl)
    (λ z (x, y, in_a, in_d, sign, is). rw is (small a x y i in_a))
    (λ z (x, y, in_a, in_d, sign, is). rw is (quotient-corners_above a.lo a.hi d.lo d.hi x y up in_a.above in_a.below in_d.above in_d.below))

same_results : (R S : ℤ → Type 0) (s : Span) → ((z : ℤ) → R z → S z) → ((z : ℤ) → S z → R z) → IsLeast R s → IsLeast S s
same_results R S s to from p = record { holds = λ z k. p.holds z (from z k); least = λ t all. p.least t (λ z k. all z (to z k)) }

below_part : (a b : Span) → IsInterval a → IsInterval b → MatchOption (option_map (quotients_by a) (below_zero b)) (Empty (Below a b)) (IsLeast (Below a b))
below_part a b i j =
    let low : ℤ = int_max b.lo low_limit in
    let high : ℤ = int_min b.hi (negsuc 0) in
    let divisors : Span = record { lo = low; hi = high } in
    elim (int_le low high) as (λ t. int_le low high ≡ t → MatchOption (option_map (quotients_by a) (cond t (Some divisors) None)) (Empty (Below a b)) (IsLeast (Below a b))) [
      | true ↦ λ e.
          let order = le_from low high e in
          same_results (Below a divisors) (Below a b) (quotients_by a divisors)
          (λ z (x, y, in_a, in_d, sign, is). (x, y, in_a, record { above = omega (arith, ints, clamps, in_d.above); below = omega (arith, ints, clamps, in_d.below) }, sign, is))
          (λ z (x, y, in_a, in_b, sign, is). (x, y, in_a, record { above = omega (arith, ints, clamps, in_b.above, j.low); below = omega (arith, ints, clamps, in_b.below) }, sign, is))
          (least_below a divisors i order (omega (arith, ints, clamps)))
      | false ↦ λ e z (x, y, in_a, in_b, sign, is).
          let past = above_from low high e in
          absurd (omega (arith, ints, clamps, in_b.above, in_b.below, j.low))
    ] refl

above_part : (a b : Span) → IsInterval a → IsInterval b → MatchOption (option_map (quotients_by a) (above_zero b)) (Empty (Above a b)) (IsLeast (Above a b))
above_part a b i j =
    let low : ℤ = int_max b.lo (pos 1) in
    let high : ℤ = int_min b.hi high_limit in
    let divisors : Span = record { lo = low; hi = high } in
    elim (int_le low high) as (λ t. int_le low high ≡ t → MatchOption (option_map (quotients_by a) (cond t (Some divisors) None)) (Empty (Above a b)) (IsLeast (Above a b))) [
      | true ↦ λ e.
          let order = le_from low high e in
          same_results (Above a divisors) (Above a b) (quotients_by a divisors)
          (λ z (x, y, in_a, in_d, sign, is). (x, y, in_a, record { above = omega (arith, ints, clamps, in_d.above); below = omega (arith, ints, clamps, in_d.below) }, sign, is))
          (λ z (x, y, in_a, in_b, sign, is). (x, y, in_a, record { above = omega (arith, ints, clamps, in_b.above); below = omega (arith, ints, clamps, in_b.below, j.high) }, sign, is))
          (least_above a divisors i order (omega (arith, ints, clamps)))
      | false ↦ λ e z (x, y, in_a, in_b, sign, is).
          let past = above_from low high e in
          absurd (omega (arith, ints, clamps, in_b.above, in_b.below, j.high))
    ] refl

some_part : (o : Option Span) (P : Type 0) (Q : Span → Type 0) → MatchOption o P Q → IfSome o Q
some_part None P Q h = tt
some_part (Some s) P Q h = h

pub least_quotient : (a b : Span) → IsInterval a → IsInterval b → IfSome (quotient_of a b) (λ q. IsLeast (Quotients a b) q)
least_quotient a b i j =
    some_part (quotient_of a b) (Empty (Quotients a b)) (IsLeast (Quotients a b))
    (join_least (Quotients a b) (Below a b) (Above a b)
    (λ z (x, y, in_a, in_b, nonzero, is). by_lt_z y (pos 0)
    (λ down. inl (x, y, in_a, in_b, down, is))
    (λ rest. by_lt_z (pos 0) y
    (λ up. inr (x, y, in_a, in_b, up, is))
    (λ zero. absurd (nonzero (omega (arith, ints))))))
    (λ z (x, y, in_a, in_b, sign, is). (x, y, in_a, in_b, (λ zero. omega (arith, ints)), is))
    (λ z (x, y, in_a, in_b, sign, is). (x, y, in_a, in_b, (λ zero. omega (arith, ints)), is))
    (option_map (quotients_by a) (below_zero b)) (option_map (quotients_by a) (above_zero b))
    (below_part a b i j) (above_part a b i j))
