-- Spans from a least result to a greatest one.
use Rattle.std.proofs.Common.{◌≡◌, Bool, true, false, ◌&&◌, refl, ℤ, ◌≤ℤ◌, arith}
use Rattle.std.proofs.lemmas.Int.{ints}
use Rattle.sa_interval.specs.Span.{Span, Within, IsInterval, IsLeast, cut}
use Rattle.sa_interval.specs.Rows.{is_single, are_single}
use Rattle.sa_numbers.proofs.Cut.{cut-monotone, cut-low, cut-high}

-- from the cut of a least result to the cut of a greatest one is the least span that holds the cut of each
pub least_between : (R : ℤ → Type 0) (l h : ℤ) → R l → R h → ((z : ℤ) → R z → (l ≤ℤ z) × (z ≤ℤ h)) → IsLeast R (record { lo = cut l; hi = cut h })
least_between R l h at_l at_h between = record {
  holds = λ z r. record { above = cut-monotone l z (between z r).0; below = cut-monotone z h (between z r).1 };
  least = λ t all. record { above = (all l at_l).above; below = (all h at_h).below };
}

pub interval_between : (l h : ℤ) → l ≤ℤ h → IsInterval (record { lo = cut l; hi = cut h })
interval_between l h ordered = record { ordered = cut-monotone l h ordered; low = cut-low l; high = cut-high h }

pub within_lo : (a : Span) → a.lo ≤ℤ a.hi → Within a a.lo
within_lo a h = record { above = omega (arith, ints); below = h }

pub within_hi : (a : Span) → a.lo ≤ℤ a.hi → Within a a.hi
within_hi a h = record { above = h; below = omega (arith, ints) }

-- the one number of a span
same_single : (a : Span) (x : ℤ) → is_single a ≡ true → Within a x → x ≡ a.lo
same_single a x e w = let same : a.lo ≡ a.hi = grind (arith, ints) in omega (arith, ints, w.above, w.below)

pub both_true : (p q : Bool) → (p && q) ≡ true → (p ≡ true) × (q ≡ true)
both_true true q e = (refl, e)
both_true false q e = cc

pub are_points : (a b : Span) (x y : ℤ) → are_single a b ≡ true → Within a x → Within b y → (x ≡ a.lo) × (y ≡ b.lo)
are_points a b x y e p q =
    let both = both_true (is_single a) (is_single b) e in
    (same_single a x both.0 p, same_single b y both.1 q)
