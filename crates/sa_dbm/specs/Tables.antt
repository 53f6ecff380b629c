-- Tables of bounds: what contracts see of an octagon matrix.
--
-- The octagon domain and its matrices are those of A. Miné, The octagon abstract domain, Higher-Order and
-- Symbolic Computation 19 (2006): variable k has the two nodes 2k, for +x, and 2k + 1, for -x, and
-- the entry (i, j) bounds node j minus node i from above.
use Rattle.std.specs.Prelude.{◌≡◌, ℕ, ◌+◌, ◌-◌, ◌*◌, ◌/◌, ◌%◌, ◌<◌, ◌≤◌, ◌==◌, ◌&&◌, ◌||◌, if◌then◌else◌, Bool, ℤ, pos, ◌-ℤ◌, ◌+ℤ◌, neg_ℤ, unsigned_abs, List, map, length, slice_index_or, Some, None, option_map}
use Rattle.std.specs.List.{range_with_len, list_all}
use Rattle.sa_dbm.specs.Bounds.{Bound, lesser, greater, at_most, AtMost}

-- how many variables there are, and the entries of all pairs of nodes, row by row
pub record Table : Type 0 where
  pub vars : ℕ
  pub bounds : List Bound

-- how many nodes there are
abbrev pub nodes : Table → ℕ
nodes m = 2 * m.vars

-- the other node of the same variable
unfoldable pub bar : ℕ → ℕ
bar i = if i % 2 == 0 then i + 1 else i - 1

unfoldable pub entry : Table → ℕ → ℕ → Bound
entry m i j = slice_index_or m.bounds (i * nodes m + j) None

-- the table with these entries
unfoldable pub table : ℕ → (ℕ → ℕ → Bound) → Table
table vars f =
    record { vars = vars; bounds = map (λ p. f (p / (2 * vars)) (p % (2 * vars))) (range_with_len 0 (2 * vars * (2 * vars))) }

-- What each matrix keeps: 1 to 8 variables, an entry for each pair of nodes, 0 from a node to itself, and for
-- each entry (i, j) the same in its twin (bar j, bar i), which bounds the same difference of variables.
pub record IsMatrix (m : Table) : Type 0 where
  pub some : 1 ≤ m.vars
  pub few : m.vars ≤ 8
  pub whole : length m.bounds ≡ nodes m * nodes m
  pub diagonal : (i : ℕ) → i < nodes m → entry m i i ≡ Some (pos 0)
  pub twins : (i j : ℕ) → i < nodes m → j < nodes m → entry m i j ≡ entry m (bar j) (bar i)

-- no finite entry is larger than the limit in size
abbrev pub IsWithin : ℕ → Table → Type 0
IsWithin limit m = (i j : ℕ) (z : ℤ) → i < nodes m → j < nodes m → entry m i j ≡ Some z → unsigned_abs z ≤ limit

-- no bound but 0 from each node to itself: every point lies in it
unfoldable pub top_table : ℕ → Table
top_table vars = table vars (λ i j. if i == j then Some (pos 0) else None)

-- entry (i, j) and its twin lowered to c where c is lower
unfoldable pub tightened : Table → ℕ → ℕ → ℤ → Table
tightened m i j c =
    table m.vars (λ p q. if (p == i && q == j) || (p == bar j && q == bar i) then lesser (entry m p q) (Some c) else entry m p q)

-- the entry-wise greatest (the join of Miné 2006)
unfoldable pub joined : Table → Table → Table
joined m o = table m.vars (λ i j. greater (entry m i j) (entry o i j))

-- each entry is at most the other table's (the order of Miné 2006), as a test and as a fact
unfoldable pub is_below : Table → Table → Bool
is_below m o =
    list_all (λ p. at_most (entry m (p / nodes m) (p % nodes m)) (entry o (p / nodes m) (p % nodes m))) (range_with_len 0 (nodes m * nodes m))

abbrev pub IsBelow : Table → Table → Type 0
IsBelow m o = (i j : ℕ) → i < nodes m → j < nodes m → AtMost (entry m i j) (entry o i j)

-- all entries of one variable without bound, but those from its nodes to themselves (Miné 2006)
unfoldable pub forgotten : Table → ℕ → Table
forgotten m var =
    table m.vars (λ i j. if i == j then entry m i j else (if i / 2 == var || j / 2 == var then None else entry m i j))

-- how much a node rises when c is added to its variable
unfoldable pub rise : ℕ → ℤ → ℕ → ℤ
rise var c i = if i / 2 == var then (if i % 2 == 0 then c else neg_ℤ c) else pos 0

-- the exact effect of adding c to one variable: each difference moves with its nodes (Miné 2006)
unfoldable pub shifted : Table → ℕ → ℤ → Table
shifted m var c = table m.vars (λ i j. option_map (λ z. z +ℤ (rise var c j -ℤ rise var c i)) (entry m i j))
