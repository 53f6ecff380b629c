-- That what each rule gives holds of the values and clocks of its premise.
use Rattle.std.proofs.Common.{◌≡◌, ℤ, pos, negsuc, ◌+ℤ◌, ◌-ℤ◌, ◌≤ℤ◌, ◌^◌, ◌-◌, Bool, true, false, cond, Option, Some, None, ◌⊎◌, inl, inr, IfSome, IsNone, sym, subst, subst₂, refl, ap, ◌∙◌, arith, ◌&&◌}
use Rattle.std.specs.Int.{int_max, int_min}
use Rattle.std.specs.Int.RustNames.{int_le}
use Rattle.std.proofs.lemmas.Bool.{both_ways}
use Rattle.std.proofs.lemmas.Option.{none-some, same_Some}
use Rattle.sa_numbers.proofs.Order.{le_from, le_to}
use Rattle.std.proofs.lemmas.Int.{ints, clamps}
use Rattle.sa_interval.specs.Span.{Span, Within, IsPart, cut}
use Rattle.sa_interval.specs.Rows.{sum_of, difference_of, meet_of, single}
use Rattle.sa_interval.specs.Rows as row
use Rattle.sa_clocked.specs.Triples.{HoldsOf, IsSmall, IsNear, AreSmall, IsBelow, triple_of, shifted, ticked, reduced, by_plus, and_minus, and_plus, triple, join_of, escape}
use Rattle.sa_clocked.specs.declared.clocked.Clocked.{Clocked}

-- sums of small numbers are not cut
within_cut : (lo hi z : ℤ) → lo ≤ℤ z → z ≤ℤ hi → negsuc (2 ^ 100 - 1) ≤ℤ z → z ≤ℤ pos (2 ^ 100) → Within (record { lo = cut lo; hi = cut hi }) z
within_cut lo hi z l h low high = record { above = omega (arith, ints, clamps); below = omega (arith, ints, clamps) }

pub sum_holds : (a b : Span) (x y : ℤ) → IsSmall a → IsSmall b → Within a x → Within b y → Within (sum_of a b) (x +ℤ y)
sum_holds a b x y p q h k =
    let al = p.low.low in
    let ah = p.high.high in
    let bl = q.low.low in
    let bh = q.high.high in
    let xl = h.above in
    let xh = h.below in
    let yl = k.above in
    let yh = k.below in
    within_cut (a.lo +ℤ b.lo) (a.hi +ℤ b.hi) (x +ℤ y) (omega (arith, ints)) (omega (arith, ints)) (omega (arith, ints)) (omega (arith, ints))

pub difference_holds : (a b : Span) (x y : ℤ) → IsSmall a → IsSmall b → Within a x → Within b y → Within (difference_of a b) (x -ℤ y)
difference_holds a b x y p q h k =
    let al = p.low.low in
    let ah = p.high.high in
    let bl = q.low.low in
    let bh = q.high.high in
    let xl = h.above in
    let xh = h.below in
    let yl = k.above in
    let yh = k.below in
    within_cut (a.lo -ℤ b.hi) (a.hi -ℤ b.lo) (x -ℤ y) (omega (arith, ints)) (omega (arith, ints)) (omega (arith, ints)) (omega (arith, ints))

one_number : (c : ℤ) → Within (single c) c
one_number c = record { above = omega (arith, ints); below = omega (arith, ints) }

small_single : (c : ℤ) → IsNear c → IsSmall (single c)
small_single c h = record { low = h; high = h }

small_one : IsNear (pos 1)
small_one = record { low = omega (arith, ints); high = omega (arith, ints) }

within_as : (s : Span) (y z : ℤ) → y ≡ z → Within s y → Within s z
within_as s y z e h = subst (Within s) e h

pub triple_holds : (v clock : Span) (x t : ℤ) → IsSmall v → IsSmall clock → Within v x → Within clock t → HoldsOf (triple_of v clock) x t
triple_holds v clock x t p q h k = record { v = h; minus = difference_holds v clock x t p q h k; plus = sum_holds v clock x t p q h k }

pub shift_holds : (y : Clocked) (v : Span) (c x t : ℤ) → AreSmall y → IsNear c → HoldsOf y x t → Within v (x +ℤ c) → HoldsOf (shifted y v c) (x +ℤ c) t
shift_holds y v c x t p q h k = record {
  v = k;
  minus = within_as _ ((x -ℤ t) +ℤ c) ((x +ℤ c) -ℤ t) (omega (arith, ints)) (sum_holds y.minus (single c) (x -ℤ t) c p.minus (small_single c q) h.minus (one_number c));
  plus = within_as _ ((x +ℤ t) +ℤ c) ((x +ℤ c) +ℤ t) (omega (arith, ints)) (sum_holds y.plus (single c) (x +ℤ t) c p.plus (small_single c q) h.plus (one_number c));
}

pub tick_holds : (c : Clocked) (x t : ℤ) → AreSmall c → HoldsOf c x t → HoldsOf (ticked c) x (t +ℤ pos 1)
tick_holds c x t p h = record {
  v = h.v;
  minus = within_as _ ((x -ℤ t) -ℤ pos 1) (x -ℤ (t +ℤ pos 1)) (omega (arith, ints)) (difference_holds c.minus (single (pos 1)) (x -ℤ t) (pos 1) p.minus (small_single (pos 1) small_one) h.minus (one_number (pos 1)));
  plus = within_as _ ((x +ℤ t) +ℤ pos 1) (x +ℤ (t +ℤ pos 1)) (omega (arith, ints)) (sum_holds c.plus (single (pos 1)) (x +ℤ t) (pos 1) p.plus (small_single (pos 1) small_one) h.plus (one_number (pos 1)));
}

-- ---- order

join_holds_left : (a b : Span) (z : ℤ) → Within a z → Within (row.join_of a b) z
join_holds_left a b z h = let l = h.above in let u = h.below in record { above = omega (arith, ints, clamps); below = omega (arith, ints, clamps) }

join_holds_right : (a b : Span) (z : ℤ) → Within b z → Within (row.join_of a b) z
join_holds_right a b z h = let l = h.above in let u = h.below in record { above = omega (arith, ints, clamps); below = omega (arith, ints, clamps) }

pub join_holds : (a b : Clocked) (x t : ℤ) → HoldsOf a x t ⊎ HoldsOf b x t → HoldsOf (join_of a b) x t
join_holds a b x t (inl h) = record { v = join_holds_left a.v b.v x h.v; minus = join_holds_left a.minus b.minus (x -ℤ t) h.minus; plus = join_holds_left a.plus b.plus (x +ℤ t) h.plus }
join_holds a b x t (inr h) = record { v = join_holds_right a.v b.v x h.v; minus = join_holds_right a.minus b.minus (x -ℤ t) h.minus; plus = join_holds_right a.plus b.plus (x +ℤ t) h.plus }

part_holds : (a b : Span) (z : ℤ) → IsPart a b → Within a z → Within b z
part_holds a b z p h = let l = p.above in let u = p.below in let l' = h.above in let u' = h.below in record { above = omega (arith, ints); below = omega (arith, ints) }

pub below_holds : (a b : Clocked) (x t : ℤ) → IsBelow a b → HoldsOf a x t → HoldsOf b x t
below_holds a b x t p h = record { v = part_holds a.v b.v x p.v h.v; minus = part_holds a.minus b.minus (x -ℤ t) p.minus h.minus; plus = part_holds a.plus b.plus (x +ℤ t) p.plus h.plus }

pub either_holds : (a b r : Clocked) → IsBelow a r → IsBelow b r → (x t : ℤ) → HoldsOf a x t ⊎ HoldsOf b x t → HoldsOf r x t
either_holds a b r p q x t (inl h) = below_holds a r x t p h
either_holds a b r p q x t (inr h) = below_holds b r x t q h

-- ---- the reduction

-- the meet of two spans that hold a number
both : Span → Span → Span
both a b = record { lo = int_max a.lo b.lo; hi = int_min a.hi b.hi }

meet_holds : (a b : Span) (z : ℤ) → Within a z → Within b z → (m : Span) × (meet_of a b ≡ Some m) × Within m z
unfolding both
meet_holds a b z h k =
    let al = h.above in
    let au = h.below in
    let bl = k.above in
    let bu = k.below in
    let test = le_to (int_max a.lo b.lo) (int_min a.hi b.hi) (omega (arith, ints, clamps)) in
    (both a b, ap (λ t. cond t (Some (both a b)) None) test, record { above = omega (arith, ints, clamps); below = omega (arith, ints, clamps) })

meet_part : (a b m : Span) → meet_of a b ≡ Some m → IsPart m a
unfolding both
meet_part a b m e = by (int_le (int_max a.lo b.lo) (int_min a.hi b.hi)) e
  where
    part : IsPart (both a b) a
    part = record { above = omega (arith, ints, clamps); below = omega (arith, ints, clamps) }

    by : (t : Bool) → cond t (Some (both a b)) None ≡ Some m → IsPart m a
    by true e = subst (λ n. IsPart n a) (same_Some (both a b) m e) part
    by false e = absurd (none-some m e)

part_trans : (a b c : Span) → IsPart a b → IsPart b c → IsPart a c
part_trans a b c p q =
    let pl = p.above in
    let pu = p.below in
    let ql = q.above in
    let qu = q.below in
    record { above = omega (arith, ints); below = omega (arith, ints) }

small_part : (a b : Span) → IsPart a b → a.lo ≤ℤ a.hi → IsSmall b → IsSmall a
small_part a b p o h =
    let pl = p.above in
    let pu = p.below in
    let l = h.low.low in
    let u = h.high.high in
    record { low = record { low = omega (arith, ints); high = omega (arith, ints) }; high = record { low = omega (arith, ints); high = omega (arith, ints) } }

not_empty : (s : Span) (z : ℤ) → Within s z → s.lo ≤ℤ s.hi
not_empty s z h = let l = h.above in let u = h.below in omega (arith, ints)

-- a reduction keeps each value and clock of which its parts hold
pub reduction_holds : (c : Clocked) (clock : Span) (x t : ℤ) → AreSmall c → IsSmall clock → HoldsOf c x t → Within clock t → (r : Clocked) × (reduced c clock ≡ Some r) × HoldsOf r x t
unfolding reduced
reduction_holds c clock x t p q h k =
    let first = meet_holds c.v (sum_of c.minus clock) x h.v (within_as _ ((x -ℤ t) +ℤ t) x (omega (arith, ints)) (sum_holds c.minus clock (x -ℤ t) t p.minus q h.minus k)) in
    let second = meet_holds first.0 (difference_of c.plus clock) x first.2 (within_as _ ((x +ℤ t) -ℤ t) x (omega (arith, ints)) (difference_holds c.plus clock (x +ℤ t) t p.plus q h.plus k)) in
    let small = small_part second.0 c.v (part_trans second.0 first.0 c.v (meet_part first.0 _ second.0 second.1) (meet_part c.v _ first.0 first.1)) (not_empty second.0 x second.2) p.v in
    let third = meet_holds c.minus (difference_of second.0 clock) (x -ℤ t) h.minus (difference_holds second.0 clock x t small q second.2 k) in
    let fourth = meet_holds c.plus (sum_of second.0 clock) (x +ℤ t) h.plus (sum_holds second.0 clock x t small q second.2 k) in (
      record { v = second.0; minus = third.0; plus = fourth.0 },
      ap (λ o. elim o as (λ _. Option Clocked) [ None ↦ None | Some v ↦ by_plus v c clock ]) first.1
          ∙ ap (λ o. elim o as (λ _. Option Clocked) [ None ↦ None | Some w ↦ and_minus w c clock ]) second.1
          ∙ ap (λ o. elim o as (λ _. Option Clocked) [ None ↦ None | Some minus ↦ and_plus second.0 c minus clock ]) third.1
          ∙ ap (λ o. elim o as (λ _. Option Clocked) [ None ↦ None | Some plus ↦ Some (record { v = second.0; minus = third.0; plus = plus }) ]) fourth.1,
      record { v = second.2; minus = third.2; plus = fourth.2 },
    )

-- ---- the widening

low_stays : (old new top : ℤ) → top ≤ℤ old → top ≤ℤ new → (t : Bool) → int_le old new ≡ t → (cond t old top ≤ℤ old) × (cond t old top ≤ℤ new) × (top ≤ℤ cond t old top)
low_stays old new top p q true e = let l = le_from old new e in (omega (arith, ints), l, p)
low_stays old new top p q false e = (p, q, omega (arith, ints))

high_stays : (old new top : ℤ) → old ≤ℤ top → new ≤ℤ top → (t : Bool) → int_le new old ≡ t → (old ≤ℤ cond t old top) × (new ≤ℤ cond t old top) × (cond t old top ≤ℤ top)
high_stays old new top p q true e = let l = le_from new old e in (omega (arith, ints), l, p)
high_stays old new top p q false e = (p, q, omega (arith, ints))

pub escape_between : (old new top : Span) → IsPart old top → IsPart new top → IsPart old (escape old new top) × IsPart new (escape old new top) × IsPart (escape old new top) top
escape_between old new top p q =
    let low = low_stays old.lo new.lo top.lo p.above q.above (int_le old.lo new.lo) refl in
    let high = high_stays old.hi new.hi top.hi p.below q.below (int_le new.hi old.hi) refl in
    (record { above = low.0; below = high.0 }, record { above = low.1; below = high.1 }, record { above = low.2; below = high.2 })

-- ---- a reduction is below what it reduces

module _ (c : Clocked) (clock : Span) (r : Clocked) where
  fourth_below : (v minus : Span) → IsPart v c.v → IsPart minus c.minus → (o : Option Span) → meet_of c.plus (sum_of v clock) ≡ o → (elim o as (λ _. Option Clocked) [ None ↦ None | Some plus ↦ Some (record { v = v; minus = minus; plus = plus }) ]) ≡ Some r → IsBelow r c
  fourth_below v minus p q None e f = absurd (none-some r f)
  fourth_below v minus p q (Some plus) e f = subst (λ t. IsBelow t c) (same_Some _ r f) (record { v = p; minus = q; plus = meet_part c.plus (sum_of v clock) plus e })

  third_below : (v : Span) → IsPart v c.v → (o : Option Span) → meet_of c.minus (difference_of v clock) ≡ o → (elim o as (λ _. Option Clocked) [ None ↦ None | Some minus ↦ and_plus v c minus clock ]) ≡ Some r → IsBelow r c
  third_below v p None e f = absurd (none-some r f)
  third_below v p (Some minus) e f = fourth_below v minus p (meet_part c.minus (difference_of v clock) minus e) _ refl f

  second_below : (v : Span) → IsPart v c.v → (o : Option Span) → meet_of v (difference_of c.plus clock) ≡ o → (elim o as (λ _. Option Clocked) [ None ↦ None | Some w ↦ and_minus w c clock ]) ≡ Some r → IsBelow r c
  second_below v p None e f = absurd (none-some r f)
  second_below v p (Some w) e f = third_below w (part_trans w v c.v (meet_part v (difference_of c.plus clock) w e) p) _ refl f

  first_below : (o : Option Span) → meet_of c.v (sum_of c.minus clock) ≡ o → (elim o as (λ _. Option Clocked) [ None ↦ None | Some v ↦ by_plus v c clock ]) ≡ Some r → IsBelow r c
  first_below None e f = absurd (none-some r f)
  first_below (Some v) e f = second_below v (meet_part c.v (sum_of c.minus clock) v e) _ refl f

  pub reduction_below : reduced c clock ≡ Some r → IsBelow r c
  unfolding reduced
  reduction_below f = first_below _ refl f

-- ---- from the rule of a reduction to what it holds of

pub rule_holds : (c : Clocked) (clock : Span) (o : Option Clocked) → o ≡ reduced c clock → AreSmall c → IsSmall clock → (x t : ℤ) → HoldsOf c x t → Within clock t → IfSome o (λ r. HoldsOf r x t)
rule_holds c clock o e p q x t h k =
    let found = reduction_holds c clock x t p q h k in
    subst (λ s. IfSome s (λ r. HoldsOf r x t)) (sym (e ∙ found.1)) found.2

pub rule_never : (c : Clocked) (clock : Span) (o : Option Clocked) → o ≡ reduced c clock → AreSmall c → IsSmall clock → (x t : ℤ) → HoldsOf c x t → Within clock t → IsNone o → ⊥
rule_never c clock o e p q x t h k n =
    let found = reduction_holds c clock x t p q h k in
    both_ways true (subst IsNone (e ∙ found.1) n) refl

pub rule_below : (c : Clocked) (clock : Span) (o : Option Clocked) → o ≡ reduced c clock → IfSome o (λ r. IsBelow r c)
rule_below c clock None e = tt
rule_below c clock (Some r) e = reduction_below c clock r (sym e)

pub rule_none : (c : Clocked) (clock : Span) (o : Option Clocked) → o ≡ reduced c clock → (IsNone o → reduced c clock ≡ None) × (reduced c clock ≡ None → IsNone o)
rule_none c clock None e = (λ _. sym e, λ _. refl)
rule_none c clock (Some r) e = (λ n. absurd (both_ways true n refl), λ f. absurd (none-some r (sym f ∙ sym e)))

-- ---- the reduction, step by step

module _ (c : Clocked) (clock : Span) where
  pub first_step : (s v : Span) → s ≡ sum_of c.minus clock → meet_of c.v s ≡ Some v → reduced c clock ≡ by_plus v c clock
  unfolding reduced
  first_step s v e f = ap (λ o. elim o as (λ _. Option Clocked) [ None ↦ None | Some v ↦ by_plus v c clock ]) (ap (meet_of c.v) (sym e) ∙ f)

  pub first_none : (s : Span) → s ≡ sum_of c.minus clock → meet_of c.v s ≡ None → reduced c clock ≡ None
  unfolding reduced
  first_none s e f = ap (λ o. elim o as (λ _. Option Clocked) [ None ↦ None | Some v ↦ by_plus v c clock ]) (ap (meet_of c.v) (sym e) ∙ f)

  pub second_step : (v s w : Span) → s ≡ difference_of c.plus clock → meet_of v s ≡ Some w → by_plus v c clock ≡ and_minus w c clock
  second_step v s w e f = ap (λ o. elim o as (λ _. Option Clocked) [ None ↦ None | Some w ↦ and_minus w c clock ]) (ap (meet_of v) (sym e) ∙ f)

  pub second_none : (v s : Span) → s ≡ difference_of c.plus clock → meet_of v s ≡ None → by_plus v c clock ≡ None
  second_none v s e f = ap (λ o. elim o as (λ _. Option Clocked) [ None ↦ None | Some w ↦ and_minus w c clock ]) (ap (meet_of v) (sym e) ∙ f)

  pub third_step : (w s m : Span) → s ≡ difference_of w clock → meet_of c.minus s ≡ Some m → and_minus w c clock ≡ and_plus w c m clock
  third_step w s m e f = ap (λ o. elim o as (λ _. Option Clocked) [ None ↦ None | Some minus ↦ and_plus w c minus clock ]) (ap (meet_of c.minus) (sym e) ∙ f)

  pub third_none : (w s : Span) → s ≡ difference_of w clock → meet_of c.minus s ≡ None → and_minus w c clock ≡ None
  third_none w s e f = ap (λ o. elim o as (λ _. Option Clocked) [ None ↦ None | Some minus ↦ and_plus w c minus clock ]) (ap (meet_of c.minus) (sym e) ∙ f)

  pub fourth_step : (w m s p : Span) → s ≡ sum_of w clock → meet_of c.plus s ≡ Some p → and_plus w c m clock ≡ Some (triple w m p)
  fourth_step w m s p e f = ap (λ o. elim o as (λ _. Option Clocked) [ None ↦ None | Some plus ↦ Some (triple w m plus) ]) (ap (meet_of c.plus) (sym e) ∙ f)

  pub fourth_none : (w m s : Span) → s ≡ sum_of w clock → meet_of c.plus s ≡ None → and_plus w c m clock ≡ None
  fourth_none w m s e f = ap (λ o. elim o as (λ _. Option Clocked) [ None ↦ None | Some plus ↦ Some (triple w m plus) ]) (ap (meet_of c.plus) (sym e) ∙ f)

-- a triple of which the parts are known otherwise
pub holds_as : (v m p m' p' : Span) (x t : ℤ) → m' ≡ m → p' ≡ p → HoldsOf (triple v m p) x t → HoldsOf (triple v m' p') x t
holds_as v m p m' p' x t e f h = subst₂ (λ a b. HoldsOf (triple v a b) x t) (sym e) (sym f) h

pub joined_as : (a b : Clocked) (v m p : Span) → v ≡ row.join_of a.v b.v → m ≡ row.join_of a.minus b.minus → p ≡ row.join_of a.plus b.plus → (x t : ℤ) → HoldsOf (join_of a b) x t → HoldsOf (triple v m p) x t
joined_as a b v m p e f g x t h = record { v = subst (λ s. Within s x) (sym e) h.v; minus = subst (λ s. Within s (x -ℤ t)) (sym f) h.minus; plus = subst (λ s. Within s (x +ℤ t)) (sym g) h.plus }

pub escaped : (old new top r : Span) → r ≡ escape old new top → IsPart old top → IsPart new top → IsPart old r × IsPart new r × IsPart r top
escaped old new top r e p q =
    let b = escape_between old new top p q in
    (subst (IsPart old) (sym e) b.0, subst (IsPart new) (sym e) b.1, subst (λ s. IsPart s top) (sym e) b.2)
