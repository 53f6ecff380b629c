-- The closed form of a matrix.
--
-- Strong closure is Miné's (The octagon abstract domain, 2006): least totals over walks, and then
-- entry (i, j) at most the half sum of (i, bar i) and (bar j, j). Over whole numbers the entries (i, bar i), which
-- bound a variable's double, are first rounded down to even, and two opposite ones that then contradict each
-- other leave no point: R. Bagnara, P. M. Hill and E. Zaffanella, An improved tight closure algorithm for integer
-- octagonal constraints (VMCAI 2008). This project's own choice is to count walks of at most 16 arcs, as many as
-- the nodes of 8 variables, and to take the strengthening step once.
use Rattle.std.specs.Prelude.{◌≡◌, ℕ, ◌*◌, ◌<◌, ◌≤◌, ◌==◌, if◌then◌else◌, Bool, ℤ, unsigned_abs, Option, Some, None, ◌↔◌}
use Rattle.std.specs.List.{range_with_len, list_any}
use Rattle.sa_dbm.specs.declared.closing.Closing.{Closing}
use Rattle.sa_dbm.specs.declared.closing.Closing.TheVariants.{Empty, Closed}
use Rattle.sa_dbm.specs.Bounds.{Bound, plus, lesser, half, even, is_negative, AtMost, IsFlat}
use Rattle.sa_dbm.specs.Tables.{Table, nodes, bar, entry, table, top_table, IsWithin, IsBelow}
use Rattle.sa_dbm.specs.Walks.{walks}
use Rattle.sa_dbm.specs.Points.{Point, LiesIn, IsTight}

-- some node's bound is negative
abbrev pub some_negative : ℕ → (ℕ → Bound) → Bool
some_negative n f = list_any (λ i. is_negative (f i)) (range_with_len 0 n)

-- the least totals over walks of at most 16 arcs
abbrev pub shortest : Table → Table
shortest m = walks m 16

-- a walk from a node back to itself has a negative total
unfoldable pub has_negative_walk : Table → Bool
has_negative_walk c = some_negative (nodes c) (λ i. entry c i i)

-- the entries (i, bar i) rounded down to even
unfoldable pub rounded : Table → Table
rounded c = table c.vars (λ i j. if j == bar i then even (entry c i j) else entry c i j)

-- a node's bounds from above and below contradict each other
unfoldable pub has_contradiction : Table → Bool
has_contradiction r = some_negative (nodes r) (λ i. plus (entry r i (bar i)) (entry r (bar i) i))

-- each entry at most the half sum of the two entries that bound its nodes alone
unfoldable pub strengthened : Table → Table
strengthened r = table r.vars (λ i j. lesser (entry r i j) (plus (half (entry r i (bar i))) (half (entry r (bar j) j))))

-- the closed form, or none where it is empty
unfoldable pub tight_form : Table → Option Table
tight_form r = if has_contradiction r then None else Some (strengthened r)

unfoldable pub walked_form : Table → Option Table
walked_form c = if has_negative_walk c then None else tight_form (rounded c)

unfoldable pub closed_form : Table → Option Table
closed_form m = walked_form (shortest m)

-- each variable's double is bounded on both sides, by numbers of at most that size
abbrev pub IsBounded : ℕ → Table → Type 0
IsBounded limit m = (i : ℕ) → i < nodes m → (z : ℤ) × (entry m i (bar i) ≡ Some z) × (unsigned_abs z ≤ limit)

-- A table that a closure leaves as it is: no way by a third node is shorter, bounds on a variable's double are even, two
-- opposite ones don't contradict each other, and each entry is at most the half sum of the two that bound its nodes alone.
pub record IsClosed (m : Table) : Type 0 where
  pub stays : closed_form m ≡ Some m
  pub triangle : (i k j : ℕ) → i < nodes m → k < nodes m → j < nodes m → AtMost (entry m i j) (plus (entry m i k) (entry m k j))
  pub evens : (i : ℕ) → i < nodes m → even (entry m i (bar i)) ≡ entry m i (bar i)
  pub agree : (i : ℕ) → i < nodes m → IsFlat (plus (entry m i (bar i)) (entry m (bar i) i))
  pub strong : (i j : ℕ) → i < nodes m → j < nodes m → AtMost (entry m i j) (plus (half (entry m i (bar i))) (half (entry m (bar j) j)))

-- What a closure leaves is closed and below what was there. Where it finds no point it has no bounds.
abbrev pub LeavesClosed : Table → Closing → Table → Type 0
LeavesClosed m Empty after = after ≡ top_table m.vars
LeavesClosed m Closed after = IsClosed after × IsBelow after m

-- where a closure finds no point, it leaves no bounds
abbrev pub LeavesTop : Closing → ℕ → Table → Type 0
LeavesTop Empty vars after = after ≡ top_table vars
LeavesTop Closed vars after = Unit {0}

-- each bound that is left is reached by a point
abbrev pub LeavesTight : Closing → Table → Type 0
LeavesTight Empty after = Unit {0}
LeavesTight Closed after = IsTight after

-- No entry grows beyond 32 times the size that it may have had; and where each variable is bounded on both sides, none grows at all.
pub record KeepsLimits (m after : Table) : Type 0 where
  pub grows : (limit : ℕ) → IsWithin limit m → IsWithin (32 * limit) after
  pub stays : (limit : ℕ) → IsBounded limit m → IsWithin limit after

-- the answer of a closure, and what it leaves, are those of the closed form
abbrev pub ClosesTo : Table → Closing → Table → Type 0
ClosesTo m Empty after = closed_form m ≡ None
ClosesTo m Closed after = closed_form m ≡ Some after

-- a closure loses no point: the same points lie in what it leaves, and where it finds none there is none
abbrev pub KeepsPoints : Table → Closing → Table → Type 0
KeepsPoints m Empty after = (p : Point) → ¬ LiesIn p m
KeepsPoints m Closed after = (p : Point) → LiesIn p m ↔ LiesIn p after
