-- Environments as flat lists: an interval for the clock, and one for each cell, in the cells' order.
use Rattle.std.specs.Prelude.{ℕ, zero, suc, ◌+◌, ◌*◌, IsTrue, ℤ, pos, List, [], ◌∷◌, ◌++◌, length, Bool, true, false, ◌&&◌, if◌then◌else◌, get_or, slice_get, nat_le, Option, Some, None}
use Rattle.std.specs.Int.{int_min}
use Rattle.std.specs.Int.RustNames.{int_le}
use Rattle.sa_interval.specs.Span.{Span, Within}
use Rattle.sa_interval.specs.Rows.{single, sum_of, join_of, meet_of, is_part}
use Rattle.sa_interval.specs.Widening.{thresholds_of, widening_of}
use Rattle.sa_typed.specs.Layouts.{Layout, leaf, row, fields, nums, nth_field, before_field, or_nothing, layout_of}
use Rattle.sa_typed.specs.Evaluation.{Store}
use Rattle.sa_typed.specs.Executions.{initial_of}
use Rattle.sa_typed.specs.Cells.{Step, one, all, of, Cell, cells, names, is_local}
use Rattle.sa_typed.specs.declared.program.Place.{Place}
use Rattle.sa_typed.specs.declared.program.Home.{Home}
use Rattle.sa_typed.specs.declared.program.Home.TheVariants as home
use Rattle.sa_typed.specs.declared.program.Var.{Var}
use Rattle.sa_typed.specs.declared.program.Program.{Program}
use Rattle.sa_reference.specs.declared.flat.Flat.{Flat}
use Rattle.sa_reference.specs.Passes.{alive_then}
use Rattle.sa_operators.specs.Operators.{range_of}

-- slot by slot, as long as both lists go on
abbrev pub zip : (Span → Span → Span) → List Span → List Span → List Span
zip f [] bs = []
zip f (a ∷ as') [] = []
zip f (a ∷ as') (b ∷ bs) = f a b ∷ zip f as' bs

abbrev pub all_parts : List Span → List Span → Bool
all_parts [] [] = true
all_parts [] (b ∷ bs) = false
all_parts (a ∷ as') [] = false
all_parts (a ∷ as') (b ∷ bs) = is_part a b && all_parts as' bs

-- the list with its item c changed
abbrev pub put : {A : Type 0} → ℕ → A → List A → List A
put c a [] = []
put zero a (b ∷ bs) = a ∷ bs
put (suc c) a (b ∷ bs) = b ∷ put c a bs

-- ---- tops
unfoldable pub cell_range : Cell → Span
cell_range c = range_of c.num

unfoldable pub ranges : List Cell → List Span
ranges [] = []
ranges (c ∷ cs) = cell_range c ∷ ranges cs

abbrev pub whole_clock : ℤ → Span
whole_clock max_clock = record { lo = pos 0; hi = max_clock }

abbrev pub top_of : Program → Span → Flat
top_of p clock = record { clock = clock; cells = ranges (cells p) }

-- ---- initial values
-- the span of what a cell stands for, given the initial values of its variable and how many elements stand before: of a
-- cell for several elements the least that holds all of theirs
unfoldable pub joined_from : ℕ → (ℕ → Span) → ℕ → Span
joined_from k span zero = span k
joined_from k span (suc more) = join_of (span k) (joined_from (k + 1) span more)

unfoldable pub initial_span : List ℤ → Layout → List Step → ℕ → Span
initial_span zs l [] at = single (get_or zs at (pos 0))
initial_span zs (row n l) (one k ∷ ss) at = initial_span zs l ss (at + k * length (nums l))
initial_span zs (row zero l) (all m ∷ ss) at = single (pos 0)
initial_span zs (row (suc n) l) (all m ∷ ss) at = joined_from 0 (λ k. initial_span zs l ss (at + k * length (nums l))) n
initial_span zs (fields ls) (of f ∷ ss) at = initial_span zs (or_nothing (nth_field ls f)) ss (at + before_field ls f)
initial_span zs l (s ∷ ss) at = single (pos 0)

abbrev pub initial_values : Program → ℕ → List ℤ
initial_values p v = initial_of (slice_get p.vars v)

unfoldable pub items_span : Program → Cell → Span
items_span p c = initial_span (initial_values p c.var) (layout_of p c.var) c.steps 0

-- a local may be anything before its declaration
abbrev pub is_local_var : Option Var → Bool
is_local_var None = false
is_local_var (Some v) = is_local v.home

unfoldable pub initial_spans : Program → List Cell → List Span
initial_spans p [] = []
initial_spans p (c ∷ cs) = (if is_local_var (slice_get p.vars c.var) then cell_range c else items_span p c) ∷ initial_spans p cs

abbrev pub initial_env : Program → Flat
initial_env p = record { clock = single (pos 0); cells = initial_spans p (cells p) }

-- ---- merge, order, the wait
abbrev pub merge_of : Flat → Flat → Flat
merge_of a b = record { clock = join_of a.clock b.clock; cells = zip join_of a.cells b.cells }

abbrev pub le_of : Flat → Flat → Bool
le_of a b = is_part a.clock b.clock && all_parts a.cells b.cells

-- the clock adds 1 and is met with what it may be
abbrev pub tick_of : ℤ → Flat → Option Flat
tick_of max_clock env = alive_then (meet_of (sum_of env.clock (single (pos 1))) (whole_clock max_clock)) (λ c. Some (record env { clock = c }))

-- ---- widening
-- a bound that falls goes to the least, one that rises to the most
abbrev pub fallen : ℤ → ℤ → ℤ → ℤ
fallen least old new = if int_le old new then old else least

abbrev pub risen : ℤ → ℤ → ℤ → ℤ
risen most old new = if int_le new old then old else most

-- a rising clock goes to the last clock
abbrev pub widened_clock : ℤ → Span → Span → Span
widened_clock max_clock i j = record { lo = int_min i.lo j.lo; hi = risen max_clock i.hi j.hi }

-- each bound that moves goes to its type's
abbrev pub spread_to : Span → Span → Span → Span
spread_to top i j = record { lo = fallen top.lo i.lo j.lo; hi = risen top.hi i.hi j.hi }

-- to thresholds up to pass 20, and later to the type's range
abbrev pub widened_span : List ℤ → ℕ → Span → Span → Span → Span
widened_span ts q top i j = if nat_le q 20 then widening_of ts i j top else spread_to top i j

unfoldable pub widened_spans : List ℤ → ℕ → List Span → List Span → List Span → List Span
widened_spans ts q (t ∷ tops) (i ∷ is) (j ∷ js) = widened_span ts q t i j ∷ widened_spans ts q tops is js
widened_spans ts q _ _ _ = []

unfoldable pub widen_of : Program → ℤ → ℕ → Flat → Flat → Flat
widen_of p max_clock q i j = record {
  clock = widened_clock max_clock i.clock j.clock;
  cells = widened_spans (thresholds_of p.thresholds) q (ranges (cells p)) i.cells j.cells;
}

-- ---- meaning
-- each cell's span holds the number at each place that the cell names
unfoldable pub AllHold : List Cell → List Span → Store → Type 0
AllHold [] [] store = Unit {0}
AllHold [] (s ∷ ss) store = ⊥
AllHold (c ∷ cs) [] store = ⊥
AllHold (c ∷ cs) (s ∷ ss) store = ((a : Place) → IsTrue (names c a) → Within s (store a)) × AllHold cs ss store

-- an environment holds of a store and a clock
pub record Holds (p : Program) (env : Flat) (store : Store) (time : ℤ) : Type 0 where
  pub cells : AllHold (cells p) env.cells store
  pub clock : Within env.clock time
