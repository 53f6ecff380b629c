-- What the cells of a global or a static local begin with: the initial value of the element that a cell stands for (ISO C
-- 6.7.8p10), and of one that stands for several elements the least and the greatest of theirs.
use Rattle.std.specs.Prelude.{ℕ, zero, suc, ◌+◌, ◌*◌, ℤ, pos, List, [], ◌∷◌, length, get_or, map, Option, Some, None}
use Rattle.std.specs.Int.{int_min, int_max}
use Rattle.sa_typed.specs.Layouts.{Layout, row, fields, nums, nth_field, before_field, or_nothing}
use Rattle.sa_typed.specs.Cells.{Step, one, all, of, inner_cells}
use Rattle.sa_ir.specs.declared.ir.Ends.{Ends}

abbrev pub single : ℤ → Ends
single z = record { lo = z; hi = z }

abbrev pub join_of : Ends → Ends → Ends
join_of a b = record { lo = int_min a.lo b.lo; hi = int_max a.hi b.hi }

-- nothing joins to nothing else
abbrev pub join_some : Option Ends → Option Ends → Option Ends
join_some None t = t
join_some (Some s) None = Some s
join_some (Some s) (Some t) = Some (join_of s t)

-- of so many elements after the one with number k
unfoldable pub joined_from : ℕ → (ℕ → Ends) → ℕ → Ends
joined_from k ends zero = ends k
joined_from k ends (suc more) = join_of (ends k) (joined_from (k + 1) ends more)

-- of a cell within an object, given the initial values of its variable and how many elements stand before
unfoldable pub initial_ends : List ℤ → Layout → List Step → ℕ → Ends
initial_ends zs l [] at = single (get_or zs at (pos 0))
initial_ends zs (row n l) (one k ∷ ss) at = initial_ends zs l ss (at + k * length (nums l))
initial_ends zs (row zero l) (all m ∷ ss) at = single (pos 0)
initial_ends zs (row (suc n) l) (all m ∷ ss) at = joined_from 0 (λ k. initial_ends zs l ss (at + k * length (nums l))) n
initial_ends zs (fields ls) (of f ∷ ss) at = initial_ends zs (or_nothing (nth_field ls f)) ss (at + before_field ls f)
initial_ends zs l (s ∷ ss) at = single (pos 0)

-- of each cell of a variable
unfoldable pub object_ends : List ℤ → Layout → List Ends
object_ends zs l = map (λ i. initial_ends zs l i.steps 0) (inner_cells l)
