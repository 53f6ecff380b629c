-- The definitions computed on samples.
use Rattle.std.proofs.Common.{◌≡◌, ℤ, pos, negsuc, List, [], ◌∷◌, refl}
use Rattle.sa_interval.specs.Span.{Span}
use Rattle.sa_interval.specs.Widening.{thresholds_of, nearest_below, nearest_above, widening_of}

-- 0 and 127 are thresholds of every program, so only 1000 and -1000 are new
thresholds : List ℤ
thresholds = thresholds_of (1000 ∷ 0 ∷ 127 ∷ 1000 ∷ [])

thresholds_are : thresholds
    ≡ negsuc 9223372036854775807 ∷ negsuc 2147483647 ∷ negsuc 32767 ∷ negsuc 999 ∷ negsuc 127 ∷ negsuc 126 ∷ negsuc 0 ∷ pos 0 ∷ pos 1
    ∷ pos 127 ∷ pos 255 ∷ pos 1000 ∷ pos 32767 ∷ pos 65535 ∷ pos 2147483647 ∷ pos 4294967295 ∷ pos 9223372036854775807 ∷ pos 18446744073709551615 ∷ []
unfolding thresholds thresholds_of
thresholds_are = refl

top : Span
top = record { lo = negsuc 2147483647; hi = pos 2147483647 }

-- a counter that rises past a threshold, and one whose next threshold is above the top
counter_widens : widening_of thresholds (record { lo = pos 0; hi = pos 3 }) (record { lo = pos 0; hi = pos 4 }) top ≡ record { lo = pos 0; hi = pos 127 }
unfolding thresholds thresholds_of nearest_above nearest_below top
counter_widens = refl

both_widen : widening_of thresholds (record { lo = pos 0; hi = pos 3 }) (record { lo = negsuc 199; hi = pos 2000 }) (record { lo = negsuc 499; hi = pos 5000 }) ≡ record { lo = negsuc 499; hi = pos 5000 }
unfolding thresholds thresholds_of nearest_above nearest_below
both_widen = refl
