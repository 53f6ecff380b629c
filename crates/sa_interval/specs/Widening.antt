-- Thresholds, and the widening that stops at them.
-- Widening is that of Cousot and Cousot 1977, thresholds are those of Blanchet and others 2003. Which thresholds there are, and that the result is met with a top, is this project's own choice.
use Rattle.std.specs.Prelude.{ℕ, ◌^◌, ◌-◌, ℤ, pos, negsuc, neg_ℤ, ◌≡◌, ◌≤ℤ◌, ◌<ℤ◌, ◌⊎◌, List, [], ◌∷◌, ◌++◌, filter, fold, if◌then◌else◌, Contains}
use Rattle.std.specs.Int.{int_max, int_min}
use Rattle.std.specs.Int.RustNames.{int_le, int_lt}
use Rattle.std.specs.List.{flat_map}
use Rattle.std.specs.List.Sorted.{IsStrictlySortedBy}
use Rattle.std.specs.Ordering.{int_cmp}
use Rattle.sa_interval.specs.Span.{Span, IsPart}

-- the ends of C's types, and the numbers next to zero; `negsuc n` is -n - 1
abbrev pub fixed_thresholds : List ℤ
fixed_thresholds =
    negsuc (2 ^ 63 - 1) ∷ negsuc (2 ^ 31 - 1) ∷ negsuc 32767 ∷ negsuc 127 ∷ negsuc 0 ∷ pos 0 ∷ pos 1
    ∷ pos 127 ∷ pos 255 ∷ pos 32767 ∷ pos 65535 ∷ pos (2 ^ 31 - 1) ∷ pos (2 ^ 32 - 1) ∷ pos (2 ^ 63 - 1) ∷ pos (2 ^ 64 - 1) ∷ []

-- a literal stands for itself and its negative
abbrev pub both_signs : ℕ → List ℤ
both_signs c = pos c ∷ neg_ℤ (pos c) ∷ []

-- z in its place in a strictly rising list, once
abbrev pub placed : ℤ → List ℤ → List ℤ
placed z [] = z ∷ []
placed z (t ∷ ts) = if int_lt z t then z ∷ t ∷ ts else (if int_lt t z then t ∷ placed z ts else t ∷ ts)

-- the numbers of a list, strictly rising
abbrev pub rising : List ℤ → List ℤ
rising [] = []
rising (z ∷ zs) = placed z (rising zs)

-- the fixed thresholds, and those of the literals that a program compares with
abbrev pub candidates : List ℕ → List ℤ
candidates literals = fixed_thresholds ++ flat_map both_signs literals

unfoldable pub thresholds_of : List ℕ → List ℤ
thresholds_of literals = rising (candidates literals)

-- the same by what it is: strictly rising, with the numbers of the list and no others
pub record IsRisingOf (zs ts : List ℤ) : Type 0 where
  pub rises : IsStrictlySortedBy int_cmp ts
  pub keeps : (z : ℤ) → Contains zs z → Contains ts z
  pub adds_none : (z : ℤ) → Contains ts z → Contains zs z

-- the greatest of `least` and the thresholds at most z
unfoldable pub nearest_below : List ℤ → ℤ → ℤ → ℤ
nearest_below thresholds z least = fold int_max least (filter (λ t. int_le t z) thresholds)

-- the least of `most` and the thresholds at least z
unfoldable pub nearest_above : List ℤ → ℤ → ℤ → ℤ
nearest_above thresholds z most = fold int_min most (filter (λ t. int_le z t) thresholds)

-- A bound that stays is the old one. A bound that moves goes to the nearest threshold, and no further than the top's bound: that is also where it goes where there is no such threshold, and what is left of a threshold outside the top.
abbrev pub lowered : List ℤ → ℤ → ℤ → ℤ → ℤ
lowered thresholds old new least = if int_le old new then old else nearest_below thresholds new least

abbrev pub raised : List ℤ → ℤ → ℤ → ℤ → ℤ
raised thresholds old new most = if int_le new old then old else nearest_above thresholds new most

-- thresholds, old, new, top
abbrev pub widening_of : List ℤ → Span → Span → Span → Span
widening_of thresholds old new top = record { lo = lowered thresholds old.lo new.lo top.lo; hi = raised thresholds old.hi new.hi top.hi }

-- The same by what it is for.

-- r is where a low bound stops that falls to z: a threshold or the end, at most z, with no threshold between
pub record IsNearestBelow (thresholds : List ℤ) (z end r : ℤ) : Type 0 where
  pub taken : (r ≡ end) ⊎ Contains thresholds r
  pub inside : end ≤ℤ r
  pub holds : r ≤ℤ z
  pub nearest : (t : ℤ) → Contains thresholds t → t ≤ℤ z → t ≤ℤ r

-- r is where a high bound stops that rises to z
pub record IsNearestAbove (thresholds : List ℤ) (z end r : ℤ) : Type 0 where
  pub taken : (r ≡ end) ⊎ Contains thresholds r
  pub inside : r ≤ℤ end
  pub holds : z ≤ℤ r
  pub nearest : (t : ℤ) → Contains thresholds t → z ≤ℤ t → r ≤ℤ t

-- each bound of the result is the old one where the new one doesn't pass it, and else the nearest stop
pub record StopsNearest (thresholds : List ℤ) (old new top r : Span) : Type 0 where
  pub low_stays : old.lo ≤ℤ new.lo → r.lo ≡ old.lo
  pub low_stops : new.lo <ℤ old.lo → IsNearestBelow thresholds new.lo top.lo r.lo
  pub high_stays : new.hi ≤ℤ old.hi → r.hi ≡ old.hi
  pub high_stops : old.hi <ℤ new.hi → IsNearestAbove thresholds new.hi top.hi r.hi

-- the result is above old and new and within the top
pub record IsBetween (old new top r : Span) : Type 0 where
  pub holds_old : IsPart old r
  pub holds_new : IsPart new r
  pub inside : IsPart r top
