-- Points, and in which tables they lie.
use Rattle.std.specs.Prelude.{◌≡◌, ℕ, ◌/◌, ◌%◌, ◌<◌, ◌==◌, if◌then◌else◌, ℤ, ◌+ℤ◌, ◌-ℤ◌, neg_ℤ, Some}
use Rattle.sa_dbm.specs.Bounds.{AtMost}
use Rattle.sa_dbm.specs.Tables.{Table, nodes, entry}

-- a whole number for each variable
abbrev pub Point : Type 0
Point = ℕ → ℤ

-- the value of a node: that of its variable, or its negation
unfoldable pub value : Point → ℕ → ℤ
value p i = if i % 2 == 0 then p (i / 2) else neg_ℤ (p (i / 2))

-- all bounds of the table hold of the point
abbrev pub LiesIn : Point → Table → Type 0
LiesIn p m = (i j : ℕ) → i < nodes m → j < nodes m → AtMost (Some (value p j -ℤ value p i)) (entry m i j)

-- the point with c added to one variable, and with another number for it
abbrev pub moved : Point → ℕ → ℤ → Point
moved p var c k = if k == var then p k +ℤ c else p k

abbrev pub with_value : Point → ℕ → ℤ → Point
with_value p var z k = if k == var then z else p k

-- Each bound is reached: some point of the table lies at it. So no lower bound holds of all its points (that the strong closure
-- of an octagon is its tightest form: Miné 2006; over whole numbers: Bagnara, Hill and Zaffanella 2008).
abbrev pub IsTight : Table → Type 0
IsTight m = (i j : ℕ) (z : ℤ) → i < nodes m → j < nodes m → entry m i j ≡ Some z → (p : Point) × LiesIn p m × (value p j -ℤ value p i ≡ z)
