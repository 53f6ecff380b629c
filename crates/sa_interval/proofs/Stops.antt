-- Where a bound that moves stops.
use Rattle.std.proofs.Common.{◌≡◌, ℕ, ◌-◌, ◌<◌, ◌≤◌, ℤ, ◌≤ℤ◌, ◌<ℤ◌, Bool, true, false, List, length, get_or, ◌⊎◌, inl, inr, filter, refl, arith}
use Rattle.std.specs.Prelude.{fold}
use Rattle.std.specs.Int.{int_max, int_min}
use Rattle.std.specs.Int.RustNames.{int_le, int_lt}
use Rattle.std.specs.Ordering.{int_cmp}
use Rattle.std.specs.List.Sorted.{IsStrictlySortedBy, IsPartitionedBy, IsPartitionPoint}
use Rattle.std.proofs.lemmas.Bool.{cases_lt}
use Rattle.std.proofs.lemmas.Int.{ints, clamps, by_lt_z, fold-int_max_bounds, fold-int_max_reached, fold-int_min_bounds, fold-int_min_reached}
use Rattle.std.proofs.lemmas.List.{get_or_default}
use Rattle.std.proofs.lemmas.List.Elements.{All-contains, Contains-get_or}
use Rattle.sa_interval.specs.Span.{Span, IsPart, IsInterval}
use Rattle.sa_interval.specs.Widening.{nearest_below, nearest_above, lowered, raised, widening_of, IsNearestBelow, IsNearestAbove, StopsNearest, IsBetween}
use Rattle.sa_interval.proofs.Members.{Contains-filter, Contains-from_filter}
use Rattle.sa_interval.proofs.Rising.{rising_far}
use Rattle.sa_numbers.proofs.Order.{≤ℤ_antisym, ≤ℤ_trans, le_from, le_to, above_from, above_to, lt_from, lt_to, not_lt_from}

-- where a binary search stops
pub parted_at_most : (ts : List ℤ) (z : ℤ) → IsStrictlySortedBy int_cmp ts → IsPartitionedBy (λ t. int_le t z) ts
parted_at_most ts z s i j d h l e =
    let far : get_or ts i d ≤ℤ get_or ts j d = rising_far ts s i j d h l in
    let at : get_or ts j d ≤ℤ z = le_from (get_or ts j d) z e in
    le_to (get_or ts i d) z (omega (arith, ints))

pub parted_below : (ts : List ℤ) (z : ℤ) → IsStrictlySortedBy int_cmp ts → IsPartitionedBy (λ t. int_lt t z) ts
parted_below ts z s i j d h l e =
    let far : get_or ts i d ≤ℤ get_or ts j d = rising_far ts s i j d h l in
    let at : get_or ts j d <ℤ z = lt_from (get_or ts j d) z e in
    lt_to (get_or ts i d) z (omega (arith, ints))

-- no threshold is at most z
pub none_at_most : (ts : List ℤ) (z end : ℤ) (n : ℕ) → end ≤ℤ z → n ≡ 0 → IsPartitionPoint (λ t. int_le t z ≡ true) (λ t. int_le t z ≡ false) ts n → IsNearestBelow ts z end end
none_at_most ts z end n h none point = record {
  taken = inl refl;
  inside = omega (arith, ints);
  holds = h;
  nearest = λ t k l.
      let past : z <ℤ get_or ts k.0 t = above_from (get_or ts k.0 t) z (point.1 k.0 t (omega (arith, none)) k.1) in
      let at : get_or ts k.0 t ≡ t = k.2 in
      absurd (omega (arith, ints, past, at));
}

max_is : (x y : ℤ) → (int_max x y ≡ x) ⊎ (int_max x y ≡ y)
max_is x y = by_lt_z y x (λ less. inl (grind (arith, ints))) (λ rest. inr (grind (arith, ints)))

min_is : (x y : ℤ) → (int_min x y ≡ x) ⊎ (int_min x y ≡ y)
min_is x y = by_lt_z y x (λ less. inr (grind (arith, ints))) (λ rest. inl (grind (arith, ints)))

pub last_at_most : (ts : List ℤ) (z end d : ℤ) (n : ℕ) → IsStrictlySortedBy int_cmp ts → end ≤ℤ z → 0 < n → n ≤ length ts → IsPartitionPoint (λ t. int_le t z ≡ true) (λ t. int_le t z ≡ false) ts n → IsNearestBelow ts z end (int_max (get_or ts (n - 1) d) end)
last_at_most ts z end d n s h some fits point =
    let last : ℤ = get_or ts (n - 1) d in
    let at_most : last ≤ℤ z = le_from last z (point.0 (n - 1) d (omega arith) (omega arith)) in
    record {
      taken = elim (max_is last end) [ inl e ↦ inr (rw e (Contains-get_or ts (n - 1) d (omega arith))) | inr e ↦ inl e ];
      inside = omega (arith, ints, clamps);
      holds = omega (arith, ints, clamps);
      nearest = λ t k l. elim (cases_lt k.0 n) [
        | inl before ↦
            let far : get_or ts k.0 t ≤ℤ get_or ts (n - 1) t = rising_far ts s k.0 (n - 1) t (omega (arith, before)) (omega arith) in
            let at : get_or ts k.0 t ≡ t = k.2 in
            let same : get_or ts (n - 1) t ≡ last = get_or_default ts (n - 1) t d (omega arith) in
            omega (arith, ints, clamps, far, at, same)
        | inr after ↦
            let past : z <ℤ get_or ts k.0 t = above_from (get_or ts k.0 t) z (point.1 k.0 t after k.1) in
            let at : get_or ts k.0 t ≡ t = k.2 in
            absurd (omega (arith, ints, past, at, l))
      ];
    }

-- no threshold is at least z
pub none_at_least : (ts : List ℤ) (z end : ℤ) (n : ℕ) → z ≤ℤ end → n ≡ length ts → IsPartitionPoint (λ t. int_lt t z ≡ true) (λ t. int_lt t z ≡ false) ts n → IsNearestAbove ts z end end
none_at_least ts z end n h none point = record {
  taken = inl refl;
  inside = omega (arith, ints);
  holds = h;
  nearest = λ t k l.
      let short : get_or ts k.0 t <ℤ z = lt_from (get_or ts k.0 t) z (point.0 k.0 t (omega arith) (omega (arith, none, k.1))) in
      let at : get_or ts k.0 t ≡ t = k.2 in
      absurd (omega (arith, ints, short, at, l));
}

pub first_at_least : (ts : List ℤ) (z end d : ℤ) (n : ℕ) → IsStrictlySortedBy int_cmp ts → z ≤ℤ end → n < length ts → IsPartitionPoint (λ t. int_lt t z ≡ true) (λ t. int_lt t z ≡ false) ts n → IsNearestAbove ts z end (int_min (get_or ts n d) end)
first_at_least ts z end d n s h fits point =
    let first : ℤ = get_or ts n d in
    let at_least : z ≤ℤ first = not_lt_from first z (point.1 n d (omega arith) fits) in
    record {
      taken = elim (min_is first end) [ inl e ↦ inr (rw e (Contains-get_or ts n d fits)) | inr e ↦ inl e ];
      inside = omega (arith, ints, clamps);
      holds = omega (arith, ints, clamps);
      nearest = λ t k l. elim (cases_lt k.0 n) [
        | inl before ↦
            let short : get_or ts k.0 t <ℤ z = lt_from (get_or ts k.0 t) z (point.0 k.0 t (omega arith) before) in
            let at : get_or ts k.0 t ≡ t = k.2 in
            absurd (omega (arith, ints, short, at, l))
        | inr after ↦
            let far : get_or ts n t ≤ℤ get_or ts k.0 t = rising_far ts s n k.0 t after k.1 in
            let at : get_or ts k.0 t ≡ t = k.2 in
            let same : get_or ts n t ≡ first = get_or_default ts n t d fits in
            omega (arith, ints, clamps, far, at, same)
      ];
    }

-- one number alone is the nearest
below_le : (ts : List ℤ) (z end r s : ℤ) → IsNearestBelow ts z end r → IsNearestBelow ts z end s → r ≤ℤ s
below_le ts z end r s p q =
    elim p.taken [ inl e ↦ rw e q.inside | inr k ↦ q.nearest r k p.holds ]

pub same_below : (ts : List ℤ) (z end r s : ℤ) → IsNearestBelow ts z end r → IsNearestBelow ts z end s → r ≡ s
same_below ts z end r s p q = ≤ℤ_antisym r s (below_le ts z end r s p q) (below_le ts z end s r q p)

above_le : (ts : List ℤ) (z end r s : ℤ) → IsNearestAbove ts z end r → IsNearestAbove ts z end s → s ≤ℤ r
above_le ts z end r s p q =
    elim p.taken [ inl e ↦ rw e q.inside | inr k ↦ q.nearest r k p.holds ]

pub same_above : (ts : List ℤ) (z end r s : ℤ) → IsNearestAbove ts z end r → IsNearestAbove ts z end s → r ≡ s
same_above ts z end r s p q = ≤ℤ_antisym r s (above_le ts z end s r q p) (above_le ts z end r s p q)

-- the definitions give it
pub nearest_below_is : (ts : List ℤ) (z end : ℤ) → end ≤ℤ z → IsNearestBelow ts z end (nearest_below ts z end)
unfolding nearest_below
nearest_below_is ts z end h =
    let at_most : ℤ → Bool = λ t. int_le t z in
    let kept : List ℤ = filter at_most ts in
    let r : ℤ = fold int_max end kept in
    let bounds = fold-int_max_bounds end kept r refl in
    let reached = fold-int_max_reached end kept r refl in
    record {
      taken = elim reached [ inl e ↦ inl e | inr k ↦ inr (Contains-from_filter at_most ts r k).0 ];
      inside = bounds.0;
      holds = elim reached [ inl e ↦ rw e h | inr k ↦ le_from r z (Contains-from_filter at_most ts r k).1 ];
      nearest = λ t k l. All-contains (λ x. x ≤ℤ r) kept t bounds.1 (Contains-filter at_most ts t k (le_to t z l));
    }

pub nearest_above_is : (ts : List ℤ) (z end : ℤ) → z ≤ℤ end → IsNearestAbove ts z end (nearest_above ts z end)
unfolding nearest_above
nearest_above_is ts z end h =
    let at_least : ℤ → Bool = λ t. int_le z t in
    let kept : List ℤ = filter at_least ts in
    let r : ℤ = fold int_min end kept in
    let bounds = fold-int_min_bounds end kept r refl in
    let reached = fold-int_min_reached end kept r refl in
    record {
      taken = elim reached [ inl e ↦ inl e | inr k ↦ inr (Contains-from_filter at_least ts r k).0 ];
      inside = bounds.0;
      holds = elim reached [ inl e ↦ rw e h | inr k ↦ le_from z r (Contains-from_filter at_least ts r k).1 ];
      nearest = λ t k l. All-contains (λ x. r ≤ℤ x) kept t bounds.1 (Contains-filter at_least ts t k (le_to z t l));
    }

-- a widening, bound by bound
lowered_stays : (ts : List ℤ) (old new end : ℤ) → old ≤ℤ new → lowered ts old new end ≡ old
lowered_stays ts old new end h = rw (le_to old new h) refl

lowered_falls : (ts : List ℤ) (old new end : ℤ) → new <ℤ old → lowered ts old new end ≡ nearest_below ts new end
lowered_falls ts old new end h = rw (above_to old new h) refl

raised_stays : (ts : List ℤ) (old new end : ℤ) → new ≤ℤ old → raised ts old new end ≡ old
raised_stays ts old new end h = rw (le_to new old h) refl

raised_rises : (ts : List ℤ) (old new end : ℤ) → old <ℤ new → raised ts old new end ≡ nearest_above ts new end
raised_rises ts old new end h = rw (above_to new old h) refl

pub lowered_holds : (ts : List ℤ) (old new end : ℤ) → end ≤ℤ old → end ≤ℤ new → (end ≤ℤ lowered ts old new end) × (lowered ts old new end ≤ℤ old) × (lowered ts old new end ≤ℤ new)
lowered_holds ts old new end p q =
    by_lt_z new old
    (λ falls. rw (lowered_falls ts old new end falls) (let r = nearest_below_is ts new end q in (r.inside, omega (arith, ints, r.holds), r.holds)))
    (λ stays. rw (lowered_stays ts old new end stays) (p, omega (arith, ints), stays))

pub raised_holds : (ts : List ℤ) (old new end : ℤ) → old ≤ℤ end → new ≤ℤ end → (raised ts old new end ≤ℤ end) × (old ≤ℤ raised ts old new end) × (new ≤ℤ raised ts old new end)
raised_holds ts old new end p q =
    by_lt_z old new
    (λ rises. rw (raised_rises ts old new end rises) (let r = nearest_above_is ts new end q in (r.inside, omega (arith, ints, r.holds), r.holds)))
    (λ stays. rw (raised_stays ts old new end stays) (p, omega (arith, ints), stays))

pub widening_stops : (ts : List ℤ) (old new top : Span) → IsPart old top → IsPart new top → StopsNearest ts old new top (widening_of ts old new top)
widening_stops ts old new top p q = record {
  low_stays = λ h. lowered_stays ts old.lo new.lo top.lo h;
  low_stops = λ h. rw (lowered_falls ts old.lo new.lo top.lo h) (nearest_below_is ts new.lo top.lo q.above);
  high_stays = λ h. raised_stays ts old.hi new.hi top.hi h;
  high_stops = λ h. rw (raised_rises ts old.hi new.hi top.hi h) (nearest_above_is ts new.hi top.hi q.below);
}

pub widening_between : (ts : List ℤ) (old new top : Span) → IsPart old top → IsPart new top → IsBetween old new top (widening_of ts old new top)
widening_between ts old new top p q =
    let l = lowered_holds ts old.lo new.lo top.lo p.above q.above in
    let h = raised_holds ts old.hi new.hi top.hi p.below q.below in
    record {
      holds_old = record { above = l.1; below = h.1 };
      holds_new = record { above = l.2; below = h.2 };
      inside = record { above = l.0; below = h.0 };
    }

-- between an interval and a top that is one, it is one
pub widening_is_interval : (ts : List ℤ) (old new top : Span) → IsPart old top → IsPart new top → IsInterval old → IsInterval top → IsInterval (widening_of ts old new top)
widening_is_interval ts old new top p q i t =
    let b = widening_between ts old new top p q in
    record {
      ordered = ≤ℤ_trans _ _ _ b.holds_old.above (≤ℤ_trans _ _ _ i.ordered b.holds_old.below);
      low = ≤ℤ_trans _ _ _ t.low b.inside.above;
      high = ≤ℤ_trans _ _ _ b.inside.below t.high;
    }
