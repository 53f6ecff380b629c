-- No promise of the top calls rests on this page: it is for laws beside them, for proofs and for inner functions.
-- The cells that an access names, by where they stand: the numbers of what the steps have led to so far, which each step
-- multiplies or moves on.
use Rattle.std.specs.Prelude.{ℕ, zero, suc, ◌+◌, pos, List, [], ◌∷◌, ◌++◌, map, Bool, ◌&&◌, if◌then◌else◌, nat_le}
use Rattle.std.specs.Int.RustNames.{int_le}
use Rattle.std.specs.List.{flat_map}
use Rattle.sa_interval.specs.Span.{Span}
use Rattle.sa_typed.specs.Layouts.{Layout, row, fields, nth_field, or_nothing}
use Rattle.sa_typed.specs.Cells.{most_elements}
use Rattle.sa_reference.specs.declared.reach.Reach.{Reach}
use Rattle.sa_reference.specs.declared.reach.Reach.TheVariants.{At, Into}
use Rattle.sa_cells.specs.Sizes.{size, cells_before}

-- so many numbers from one on, each by a width greater than the one before
unfoldable pub spaced : ℕ → ℕ → ℕ → List ℕ
spaced w zero o = []
spaced w (suc n) o = o ∷ spaced w n (o + w)

-- so many cells from each of these on
unfoldable pub all_runs : ℕ → List ℕ → List ℕ
all_runs n os = flat_map (λ o. spaced 1 n o) os

abbrev pub may_index : Span → ℕ → Bool
may_index s k = int_le s.lo (pos k) && int_le (pos k) s.hi

-- where the elements stand whose indices lie in the span, of n elements with indices from k on, which have so many cells each
unfoldable pub picked : Span → ℕ → ℕ → ℕ → ℕ → List ℕ
picked s w zero k o = []
picked s w (suc n) k o = if may_index s k then o ∷ picked s w n (k + 1) (o + w) else picked s w n (k + 1) (o + w)

unfoldable pub all_picked : Span → ℕ → ℕ → List ℕ → List ℕ
all_picked s w n os = flat_map (λ o. picked s w n 0 o) os

unfoldable pub reached : List Reach → Layout → List ℕ → List ℕ
reached [] l os = all_runs (size l) os
reached (At s ∷ rs) (row n l) os = reached rs l (if nat_le n most_elements then all_picked s (size l) n os else os)
reached (Into f ∷ rs) (fields ls) os = reached rs (or_nothing (nth_field ls f)) (map (λ o. o + cells_before ls f) os)
reached (r ∷ rs) l os = []
