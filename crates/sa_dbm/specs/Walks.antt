-- Least totals over walks through a table's entries.
use Rattle.std.specs.Prelude.{◌≡◌, ℕ, zero, suc, ◌<◌, ◌≤◌, ◌==◌, if◌then◌else◌, ℤ, pos, ◌+ℤ◌, Some, None}
use Rattle.sa_dbm.specs.Bounds.{Bound, plus, lesser, least, AtMost}
use Rattle.sa_dbm.specs.Tables.{Table, nodes, entry, table}

-- A walk of k arcs from node i to node j, with the total of its arcs. There is an arc from i to h where entry
-- (i, h) is a number.
pub data Walk (m : Table) : ℕ → ℕ → ℕ → ℤ → Type 0 where
  stay : {i : ℕ} → Walk m zero i i (pos 0)
  go : {k i h j : ℕ} {x y : ℤ} → i < nodes m → h < nodes m → entry m i h ≡ Some x → Walk m k h j y → Walk m (suc k) i j (x +ℤ y)

-- b is the least total over walks from i to j of at most `most` arcs, and none where there is no such walk
pub record IsLeastTotal (m : Table) (most i j : ℕ) (b : Bound) : Type 0 where
  pub reached : (t : ℤ) → b ≡ Some t → (k : ℕ) × (k ≤ most) × Walk m k i j t
  pub least : (k : ℕ) (t : ℤ) → k ≤ most → Walk m k i j t → AtMost b (Some t)

-- the total of the walk without arcs
abbrev pub at_once : ℕ → ℕ → Bound
at_once i j = if i == j then Some (pos 0) else None

-- from the least totals over walks of at most k arcs those over at most k + 1: no arc, or an arc and then such a walk
unfoldable pub one_more : Table → Table → Table
one_more m before =
    table m.vars (λ i j. lesser (at_once i j) (least (nodes m) (λ h. plus (entry m i h) (entry before h j))))

-- the least totals over walks of at most k arcs
unfoldable pub walks : Table → ℕ → Table
walks m zero = table m.vars at_once
walks m (suc k) = one_more m (walks m k)
