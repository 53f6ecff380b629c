-- Packs of cells over octagon matrices: what contracts see of one, and the rules of its calls.
--
-- Packs are those of B. Blanchet and others, A static analyzer for large safety-critical software (2003). What assignments
-- and guards do to an octagon, and that a bound which isn't stable is given up, is A. Miné's, The octagon abstract
-- domain (2006). That a bound is given up for that of the cells' spans, and not for none, is this project's own choice.
use Rattle.std.specs.Prelude.{◌≡◌, ℕ, ◌+◌, ◌*◌, ◌/◌, ◌%◌, ◌^◌, ◌<◌, ◌≤◌, ◌==◌, if◌then◌else◌, not, Bool, true, false, ℤ, pos, ◌+ℤ◌, neg_ℤ, unsigned_abs, List, length, slice_index_or, Some, None}
use Rattle.sa_interval.specs.Span.{Span, low_limit, high_limit}
use Rattle.sa_dbm.specs.Bounds.{Bound, half, at_most}
use Rattle.sa_dbm.specs.Tables.{Table, bar, entry, table, tightened, forgotten, shifted}

-- The numbers of the cells, the widest span of each, and the bounds: variable k of the table is cell number k.
pub record Packed : Type 0 where
  pub cells : List ℕ
  pub spans : List Span
  pub table : Table

-- the pack with another table
abbrev pub with_table : Packed → Table → Packed
with_table p t = record { cells = p.cells; spans = p.spans; table = t }

-- the span of a place
abbrev pub span_at : List Span → ℕ → Span
span_at spans k = slice_index_or spans k (record { lo = pos 0; hi = pos 0 })

-- no bound of the span is larger than the limit in size
pub record IsSpanWithin (limit : ℕ) (s : Span) : Type 0 where
  pub lo : unsigned_abs s.lo ≤ limit
  pub hi : unsigned_abs s.hi ≤ limit

abbrev pub AreWithin : ℕ → List Span → Type 0
AreWithin limit spans = (k : ℕ) → k < length spans → IsSpanWithin limit (span_at spans k)

-- the spans are within 2^64 in size
abbrev pub AreSmall : List Span → Type 0
AreSmall spans = AreWithin (2 ^ 64) spans

-- What each pack keeps: 1 to 8 cells, and for each cell a variable of the table and a span.
pub record IsPack (p : Packed) : Type 0 where
  pub some : 1 ≤ length p.cells
  pub few : length p.cells ≤ 8
  pub vars : p.table.vars ≡ length p.cells
  pub spans : length p.spans ≡ length p.cells
  pub small : AreSmall p.spans

-- the node of a place with a sign, where `true` is plus, and the number there
abbrev pub node : Bool → ℕ → ℕ
node true x = 2 * x
node false x = 2 * x + 1

abbrev pub signed : Bool → ℤ → ℤ
signed true z = z
signed false z = neg_ℤ z

-- ---- guards and assignments

-- sx x + sy y bounded by k
abbrev pub guarded : Table → Bool → ℕ → Bool → ℕ → ℤ → Table
guarded t sx x sy y k = tightened t (node (not sy) y) (node sx x) k

-- x bounded by v, by its double
abbrev pub met : Table → ℕ → Span → Table
met t x v = tightened (tightened t (node false x) (node true x) (v.hi +ℤ v.hi)) (node true x) (node false x) (neg_ℤ (v.lo +ℤ v.lo))

-- the double of x is bounded on both sides, by numbers of at most that size
abbrev pub IsBoundedAt : ℕ → ℕ → Table → Type 0
IsBoundedAt limit x t = (s : Bool) → (z : ℤ) × (entry t (node s x) (node (not s) x) ≡ Some z) × (unsigned_abs z ≤ limit)

-- x set to any number of v
abbrev pub ranged : Table → ℕ → Span → Table
ranged t x v = met (forgotten t x) x v

-- x set to +y + c or -y + c, for another place y: x less that place is bounded by c both ways
abbrev pub set_to : Table → ℕ → Bool → ℕ → ℤ → Table
set_to t x sign y c = guarded (guarded (forgotten t x) true x (not sign) y c) false x sign y (neg_ℤ c)

abbrev pub assigned : Table → ℕ → Bool → ℕ → ℤ → Table
assigned t x sign y c = if x == y then shifted t x c else set_to t x sign y c

-- ---- what is known of places

-- a bound as the end of a span; where there is none, the limit
abbrev pub above : Bound → ℤ
above None = high_limit
above (Some z) = z

abbrev pub below : Bound → ℤ
below None = low_limit
below (Some z) = neg_ℤ z

-- the numbers of x, by the bounds of its double and of that negated
abbrev pub unary_of : Table → ℕ → Span
unary_of t x = record { lo = below (half (entry t (node true x) (node false x))); hi = above (half (entry t (node false x) (node true x))) }

-- the numbers of sx x + sy y
abbrev pub pair_of : Table → Bool → ℕ → Bool → ℕ → Span
pair_of t sx x sy y = record { lo = below (entry t (node sx x) (node (not sy) y)); hi = above (entry t (node (not sy) y) (node sx x)) }

-- ---- the top of a pack, and widening

-- the greatest number of a node
unfoldable pub reach : List Span → ℕ → ℤ
reach spans i = if i % 2 == 0 then (span_at spans (i / 2)).hi else neg_ℤ (span_at spans (i / 2)).lo

-- the bound of node j minus node i, for two nodes, that follows of the spans: the negation of a node is the other of its place
unfoldable pub reach_between : List Span → ℕ → ℕ → Bound
reach_between spans i j = Some (reach spans j +ℤ reach spans (bar i))

-- the closed table of the spans
unfoldable pub top_of : List Span → Table
top_of spans = table (length spans) (λ i j. if i == j then Some (pos 0) else reach_between spans i j)

-- each entry that the new table exceeds goes to the entry of the top
unfoldable pub widened : Table → Table → List Span → Table
widened t new spans = table t.vars (λ i j. if at_most (entry new i j) (entry t i j) then entry t i j else entry (top_of spans) i j)
