-- Complements lie in their row.
use Rattle.std.proofs.Common.{◌≡◌, ◌^◌, ℤ, pos, negsuc, ◌≤ℤ◌, ◌<ℤ◌, ◌-ℤ◌, if◌then◌else◌, arith}
use Rattle.std.proofs.lemmas.Int.{ints}
use Rattle.sa_interval.specs.Span.{Span, Within, IsPart, IsBound, Holds, cut}
use Rattle.sa_interval.specs.Types.{IsTypeRange}
use Rattle.sa_interval.specs.BitRows.{not_negative, Complements, complement_of}
use Rattle.sa_interval.proofs.TypeRanges.{type_small}
use Rattle.sa_numbers.proofs.Cut.{cut-inside}

-- less a number of the range of a type, from -1 or from its greatest number
pub difference_bound : (full : Span) (top x : ℤ) → IsTypeRange full → negsuc 0 ≤ℤ top → top <ℤ pos (2 ^ 64) → Within full x → IsBound (top -ℤ x)
difference_bound full top x t low high w =
    let small = type_small full t in
    record { low = omega (arith, ints, small.1, w.below); high = omega (arith, ints, small.0, w.above) }

pub complements_hold : (a full : Span) (top : ℤ) → IsTypeRange full → IsPart a full → top ≡ (if not_negative full then full.hi else negsuc 0) → negsuc 0 ≤ℤ top → top <ℤ pos (2 ^ 64) → Holds (Complements full a) (complement_of full a)
complements_hold a full top t p e low high z (x, w, is) =
    let inside : Within full x = record { above = omega (arith, ints, p.above, w.above); below = omega (arith, ints, p.below, w.below) } in
    let bound = difference_bound full top x t low high inside in
    let keeps : cut z ≡ top -ℤ x = rw (is, ← e) (cut-inside (top -ℤ x) bound.low bound.high) in
    rw (keeps, ← e) (record { above = omega (arith, ints, w.below); below = omega (arith, ints, w.above) })
