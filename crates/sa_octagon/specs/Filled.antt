-- Tables that are made from their entries, place by place.
use Rattle.std.specs.Prelude.{◌≡◌, ◌≢◌, ℕ, ◌+◌, ◌*◌, ◌^◌, ◌<◌, ◌≤◌, ℤ, unsigned_abs, List, if◌then◌else◌, slice_index_or, Some, None}
use Rattle.sa_interval.specs.Span.{Span}
use Rattle.sa_dbm.specs.Bounds.{Bound, at_most, AtMost}
use Rattle.sa_dbm.specs.Tables.{Table, nodes, bar, entry, tightened, IsMatrix, IsWithin}
use Rattle.sa_octagon.specs.Packs.{reach_between}

-- entry (i, j) and its twin lowered to a bound, if there is one
abbrev pub lowered_to : Table → ℕ → ℕ → Bound → Table
lowered_to m i j None = m
lowered_to m i j (Some c) = tightened m i j c

-- the entry (i, j) of a list that has 16 places for each row
abbrev pub at_place : List Bound → ℕ → ℕ → Bound
at_place entries i j = slice_index_or entries (i * 16 + j) None

-- What a list of entries has to meet for a table of n nodes: twins are equal, and no bound is too large.
pub record AreEntries (n : ℕ) (f : ℕ → ℕ → Bound) : Type 0 where
  pub twins : (i j : ℕ) → i < n → j < n → i ≢ j → f i j ≡ f (bar j) (bar i)
  pub sizes : (i j : ℕ) (z : ℤ) → i < n → j < n → i ≢ j → f i j ≡ Some z → unsigned_abs z ≤ 2 ^ 100

-- A table to which the entries at the first k places are lowered, and that is lowered to nothing else. The entries of nodes
-- to themselves are left out.
pub record IsFilled (n : ℕ) (f : ℕ → ℕ → Bound) (k : ℕ) (m : Table) : Type 0 where
  pub size : nodes m ≡ n
  pub matrix : IsMatrix m
  pub within : IsWithin (2 ^ 100) m
  pub above : (p q : ℕ) → p < n → q < n → p ≢ q → AtMost (f p q) (entry m p q)
  pub done : (p q : ℕ) → p < n → q < n → p ≢ q → p * 16 + q < k → AtMost (entry m p q) (f p q)

-- a table without bounds, but those of nodes on themselves
abbrev pub IsEmpty : Table → Type 0
IsEmpty m = (p q : ℕ) → p < nodes m → q < nodes m → p ≢ q → entry m p q ≡ None

-- the entry of two nodes after widening: that of the spans where the new table exceeds it
unfoldable pub widened_entry : Table → Table → List Span → ℕ → ℕ → Bound
widened_entry t new spans i j = if at_most (entry new i j) (entry t i j) then entry t i j else reach_between spans i j

-- a list holds these entries at the first k places
abbrev pub HoldsEntries : ℕ → (ℕ → ℕ → Bound) → ℕ → List Bound → Type 0
HoldsEntries n f k entries = (p q : ℕ) → p < n → q < n → p ≢ q → p * 16 + q < k → at_place entries p q ≡ f p q
