-- Facts on intervals.
use Rattle.std.proofs.Common.{◌≡◌, ℕ, ℤ, pos, ◌-ℤ◌, ◌≤ℤ◌, ◌<ℤ◌, Bool, true, false, ◌&&◌, List, refl, arith, Some, None}
use Rattle.std.specs.Prelude.{if◌then◌else◌, nat_le}
use Rattle.std.specs.Int.{int_max, int_min}
use Rattle.std.specs.Int.RustNames.{int_le}
use Rattle.std.specs.Int.Signed.{le_z}
use Rattle.std.proofs.lemmas.Int.{ints, clamps}
use Rattle.sa_base.specs.declared.num.Num.{Num}
use Rattle.sa_base.specs.declared.num.Num.TheVariants.{I8, U8, I16, U16, I32, U32, I64, U64}
use Rattle.sa_interval.specs.Span.{Span, Within, IsPart}
use Rattle.sa_interval.specs.Rows.{join_of, meet_of, is_part}
use Rattle.sa_interval.specs.Widening.{widening_of}
use Rattle.sa_interval.proofs.Stops.{widening_between}
use Rattle.sa_operators.specs.Operators.{IsIn, range_of}
use Rattle.sa_flat.specs.Intervals.{widened_span, spread_to, risen, fallen, span_or_none, cut}
use Rattle.sa_flat.proofs.Lawful.{IfAlive, AliveAnd}
use Rattle.sa_flat.proofs.Goods.{if_keeps}
use Rattle.sa_flat.proofs.Operands.{and_left, and_right}

pub not_le_fact : (x y : ℤ) → int_le x y ≡ false → y <ℤ x
not_le_fact x y h = grind (arith, ints)

pub part_fact : (a b : Span) → is_part a b ≡ true → IsPart a b
part_fact a b h = grind (arith, ints)

pub part_test : (a b : Span) → IsPart a b → is_part a b ≡ true
part_test a b h = let x = h.above in let y = h.below in grind (arith, ints)

pub both_true : (a b : Bool) → a ≡ true → b ≡ true → (a && b) ≡ true
both_true true b h k = k
both_true false b h k = h

pub and_facts : (a b : Bool) → (a && b) ≡ true → (a ≡ true) × (b ≡ true)
and_facts a b h = (and_left a b h, and_right a b h)

pub part_within : (a b : Span) (z : ℤ) → IsPart a b → Within a z → Within b z
part_within a b z p h =
    let pa = p.above in
    let pb = p.below in
    let ha = h.above in
    let hb = h.below in
    record { above = omega (arith, ints); below = omega (arith, ints) }

-- a meet isn't empty and lies in both
pub record Meets (a b s : Span) : Type 0 where
  pub ordered : s.lo ≤ℤ s.hi
  pub first : IsPart s a
  pub second : IsPart s b

pub meet_meets : (a b : Span) → IfAlive (Meets a b) (meet_of a b)
meet_meets a b =
    elim (le_z (int_max a.lo b.lo) (int_min a.hi b.hi)) as (λ t. le_z (int_max a.lo b.lo) (int_min a.hi b.hi) ≡ t →
    IfAlive (Meets a b) (if t then Some (record { lo = int_max a.lo b.lo; hi = int_min a.hi b.hi }) else None)) [
      | true ↦ λ e. record {
        ordered = grind (arith, ints);
        first = record { above = omega (arith, ints, clamps); below = omega (arith, ints, clamps) };
        second = record { above = omega (arith, ints, clamps); below = omega (arith, ints, clamps) };
      }
      | false ↦ λ e. tt
    ] refl

pub join_part : (a b c : Span) → IsPart a c → IsPart b c → IsPart (join_of a b) c
join_part a b c p q =
    let al = p.above in
    let ah = p.below in
    let bl = q.above in
    let bh = q.below in
    record { above = omega (arith, ints, clamps); below = omega (arith, ints, clamps) }

pub join_ordered : (a b : Span) → a.lo ≤ℤ a.hi → (join_of a b).lo ≤ℤ (join_of a b).hi
join_ordered a b h = omega (arith, ints, clamps)

-- a span joined with itself is itself
pub join_same : (s : Span) → join_of s s ≡ s
join_same s = let a : int_min s.lo s.lo ≡ s.lo = omega (arith, ints, clamps) in let b : int_max s.hi s.hi ≡ s.hi = omega (arith, ints, clamps) in rw a (rw b refl)

-- a type's range isn't empty
pub range_in : (num : Num) → IsIn num (range_of num)
range_in num = record { ordered = ordered num; part = record { above = omega (arith, ints); below = omega (arith, ints) } }
  where
    ordered : (num : Num) → (range_of num).lo ≤ℤ (range_of num).hi
    ordered I8 = omega (arith, ints)
    ordered U8 = omega (arith, ints)
    ordered I16 = omega (arith, ints)
    ordered U16 = omega (arith, ints)
    ordered I32 = omega (arith, ints)
    ordered U32 = omega (arith, ints)
    ordered I64 = omega (arith, ints)
    ordered U64 = omega (arith, ints)

-- ---- widening
if_below : (b : Bool) (x y w : ℤ) → x ≤ℤ w → y ≤ℤ w → (if b then x else y) ≤ℤ w
if_below true x y w p q = p
if_below false x y w p q = q

if_above : (b : Bool) (x y w : ℤ) → w ≤ℤ x → w ≤ℤ y → w ≤ℤ (if b then x else y)
if_above true x y w p q = p
if_above false x y w p q = q

pub risen_below : (most old new : ℤ) → old ≤ℤ most → risen most old new ≤ℤ most
risen_below most old new h = if_below (int_le new old) old most most h (omega (arith, ints))

-- what isn't below the old one rose
pub risen_over : (most old new : ℤ) → old ≤ℤ most → old ≤ℤ risen most old new
risen_over most old new h = if_above (int_le new old) old most old (omega (arith, ints)) h

fallen_under : (least old new : ℤ) → least ≤ℤ old → fallen least old new ≤ℤ old
fallen_under least old new h = if_below (int_le old new) old least old (omega (arith, ints)) h

spread_in : (num : Num) (i j : Span) → IsIn num i → IsIn num (spread_to (range_of num) i j)
spread_in num i j h =
    let a = fallen_under (range_of num).lo i.lo j.lo h.part.above in
    let b = risen_over (range_of num).hi i.hi j.hi h.part.below in
    let o = h.ordered in
    record {
      ordered = omega (arith, ints);
      part = record { above = if_above (int_le i.lo j.lo) i.lo (range_of num).lo (range_of num).lo h.part.above (omega (arith, ints)); below = risen_below (range_of num).hi i.hi j.hi h.part.below };
    }

widening_in : (ts : List ℤ) (num : Num) (i j : Span) → IsIn num i → IsIn num j → IsIn num (widening_of ts i j (range_of num))
widening_in ts num i j h k =
    let w = widening_between ts i j (range_of num) h.part k.part in
    let a = w.holds_old.above in
    let b = w.holds_old.below in
    let o = h.ordered in
    record { ordered = omega (arith, ints); part = w.inside }

pub widened_in : (ts : List ℤ) (q : ℕ) (num : Num) (i j : Span) → IsIn num i → IsIn num j → IsIn num (widened_span ts q (range_of num) i j)
widened_in ts q num i j h k =
    if_keeps (λ (s : Span). IsIn num s) (nat_le q 20) (widening_of ts i j (range_of num)) (spread_to (range_of num) i j) (widening_in ts num i j h k) (spread_in num i j h)

-- ---- cuts
span_some : (lo hi z : ℤ) → lo ≤ℤ z → z ≤ℤ hi → AliveAnd (λ s. Within s z) (span_or_none lo hi)
span_some lo hi z a b =
    let e : int_le lo hi ≡ true = grind (arith, ints) in
    rw e (record { above = a; below = b })

pub cut_holds : (plus : Bool) (s : Span) (k z : ℤ) → Within s z → (if plus then z else pos 0 -ℤ z) ≤ℤ k → AliveAnd (λ s. Within s z) (cut plus s k)
cut_holds true s k z h le = let a = h.above in let b = h.below in span_some s.lo (int_min s.hi k) z a (omega (arith, ints, clamps))
cut_holds false s k z h le = let a = h.above in let b = h.below in span_some (int_max s.lo (pos 0 -ℤ k)) s.hi z (omega (arith, ints, clamps)) b

span_in : (num : Num) (lo hi : ℤ) (s : Span) → IsIn num s → s.lo ≤ℤ lo → hi ≤ℤ s.hi → IfAlive (λ s. IsIn num s) (span_or_none lo hi)
span_in num lo hi s h a b =
    let pa = h.part.above in
    let pb = h.part.below in
    elim (int_le lo hi) as (λ t. int_le lo hi ≡ t → IfAlive (λ s. IsIn num s) (if t then Some (record { lo = lo; hi = hi }) else None)) [
      | true ↦ λ e. record { ordered = grind (arith, ints); part = record { above = omega (arith, ints); below = omega (arith, ints) } }
      | false ↦ λ e. tt
    ] refl

pub cut_in : (num : Num) (plus : Bool) (s : Span) (k : ℤ) → IsIn num s → IfAlive (λ s. IsIn num s) (cut plus s k)
cut_in num true s k h = span_in num s.lo (int_min s.hi k) s h (omega (arith, ints)) (omega (arith, ints, clamps))
cut_in num false s k h = span_in num (int_max s.lo (pos 0 -ℤ k)) s.hi s h (omega (arith, ints, clamps)) (omega (arith, ints))
