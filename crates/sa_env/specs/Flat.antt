-- Environments as flat lists: dead, or an interval for the clock and one for each cell, in the order of the cells
-- (Cousot and Cousot 1977; the clock as one of the variables: Blanchet and others 2003).
use Rattle.std.specs.Prelude.{◌≡◌, ℕ, ◌+◌, ◌-◌, ◌^◌, ◌≤◌, ℤ, pos, negsuc, ◌≤ℤ◌, Bool, true, false, ◌&&◌, if◌then◌else◌, nat_le, List, [], ◌∷◌, ◌++◌, length, map, take, drop, slice_get, slice_set, Option, None, Some, ⊤}
use Rattle.std.specs.Int.{int_min}
use Rattle.std.specs.List.{fold, All}
use Rattle.sa_interval.specs.Span.{Span, IsPart}
use Rattle.sa_interval.specs.Rows.{join_of, join_some, meet_of, sum_of, single, is_part}
use Rattle.sa_shared.specs.Slots.{slotwise, EachSlot}
use Rattle.sa_env.specs.Slots.{risen, widened_span}

pub data Flat : Type 0 where
  dead : Flat
  live : Span → List Span → Flat

abbrev pub is_alive : Flat → Bool
is_alive dead = false
is_alive (live clock cells) = true

-- what the environments of one analysis have in common: the range of each cell, by its type, and the last clock
pub record Limits : Type 0 where
  pub tops : List Span
  pub max_clock : ℕ

abbrev pub whole_clock : Limits → Span
whole_clock l = record { lo = pos 0; hi = pos l.max_clock }

-- a range of a type: at least one number, none above 2^64 in size
pub record IsRange (s : Span) : Type 0 where
  pub ordered : s.lo ≤ℤ s.hi
  pub low : negsuc (2 ^ 64 - 1) ≤ℤ s.lo
  pub high : s.hi ≤ℤ pos (2 ^ 64)

pub record AreLimits (l : Limits) : Type 0 where
  pub tops : All IsRange l.tops
  pub clock : l.max_clock ≤ 2 ^ 62

-- ---- fairness
-- at least one number, all of them in the range
pub record IsIn (range s : Span) : Type 0 where
  pub ordered : s.lo ≤ℤ s.hi
  pub part : IsPart s range

-- the clock may be so, and each cell's numbers are in its range
abbrev pub IsFair : Limits → Flat → Type 0
IsFair l dead = ⊤
IsFair l (live clock cells) = IsIn (whole_clock l) clock × EachSlot IsIn l.tops cells

-- ---- order: below means that the second holds whatever the first holds; dead holds nothing
abbrev pub all_parts : List Span → List Span → Bool
all_parts [] [] = true
all_parts [] (y ∷ ys) = false
all_parts (x ∷ xs) [] = false
all_parts (x ∷ xs) (y ∷ ys) = is_part x y && all_parts xs ys

abbrev pub is_below : Flat → Flat → Bool
is_below dead b = true
is_below (live t xs) dead = false
is_below (live t xs) (live u ys) = is_part t u && all_parts xs ys

abbrev pub IsBelow : Flat → Flat → Type 0
IsBelow dead b = ⊤
IsBelow (live t xs) dead = ⊥
IsBelow (live t xs) (live u ys) = IsPart t u × EachSlot IsPart xs ys

-- every clock and every number of each cell's range
abbrev pub top_of : Limits → Flat
top_of l = live (whole_clock l) l.tops

abbrev pub join : Flat → Flat → Flat
join dead b = b
join (live t xs) dead = live t xs
join (live t xs) (live u ys) = live (join_of t u) (slotwise join_of xs ys)

-- ---- what is read
abbrev pub clock_of : Flat → Option Span
clock_of dead = None
clock_of (live clock cells) = Some clock

abbrev pub cells_of : Flat → List Span
cells_of dead = []
cells_of (live clock cells) = cells

abbrev pub cell_of : ℕ → Flat → Option Span
cell_of c e = slice_get (cells_of e) c

abbrev pub joined_to : Option Span → Span → Option Span
joined_to s t = join_some s (Some t)

-- the join of so many cells from the first on, None where there are none
abbrev pub join_between : ℕ → ℕ → Flat → Option Span
join_between first count e = fold joined_to None (take count (drop first (cells_of e)))

-- ---- changes
-- a strong assignment: the cell has the new value
abbrev pub assigned : ℕ → Span → Flat → Flat
assigned c v dead = dead
assigned c v (live clock cells) = live clock (slice_set cells c v)

-- its own numbers or the new ones
abbrev pub either : Span → Span → Span
either v s = join_of s v

-- a weak assignment: at most one of so many cells from the first on has the new value, the others keep theirs
abbrev pub weakened : ℕ → ℕ → Span → List Span → List Span
weakened first count v cells = take first cells ++ (map (either v) (take count (drop first cells)) ++ drop (first + count) cells)

abbrev pub weakly_assigned : ℕ → ℕ → Span → Flat → Flat
weakly_assigned first count v dead = dead
weakly_assigned first count v (live clock cells) = live clock (weakened first count v cells)

abbrev pub at_clock : Option Span → List Span → Flat
at_clock None cells = dead
at_clock (Some clock) cells = live clock cells

-- the wait: the clock adds 1, up to the last one
abbrev pub ticked : Limits → Flat → Flat
ticked l dead = dead
ticked l (live clock cells) = at_clock (meet_of (sum_of clock (single (pos 1))) (whole_clock l)) cells

-- the same cells at the clock of another environment
abbrev pub with_clock : Flat → Flat → Flat
with_clock dead of = dead
with_clock (live clock cells) of = at_clock (clock_of of) cells

-- ---- widening (Cousot and Cousot 1977), by this project's own schedule of passes
-- a clock that rises goes to the last one
abbrev pub widened_clock : Span → Span → Span → Span
widened_clock whole old new = record { lo = int_min old.lo new.lo; hi = risen whole.hi old.hi new.hi }

abbrev pub widened_spans : List ℤ → ℕ → List Span → List Span → List Span → List Span
widened_spans thresholds pass [] olds news = []
widened_spans thresholds pass (top ∷ tops) [] news = []
widened_spans thresholds pass (top ∷ tops) (old ∷ olds) [] = []
widened_spans thresholds pass (top ∷ tops) (old ∷ olds) (new ∷ news) =
    widened_span thresholds pass top old new ∷ widened_spans thresholds pass tops olds news

-- what passes 4 to 30 make of the iterate before them and a newer environment
abbrev pub spread : Limits → List ℤ → ℕ → Flat → Flat → Flat
spread l thresholds pass dead b = b
spread l thresholds pass (live t xs) dead = live t xs
spread l thresholds pass (live t xs) (live u ys) = live (widened_clock (whole_clock l) t u) (widened_spans thresholds pass l.tops xs ys)

-- what pass 1 to 31 makes of them
unfoldable pub widened : Limits → List ℤ → ℕ → Flat → Flat → Flat
widened l thresholds pass old new =
    if nat_le pass 3 then join old new
    else (if nat_le pass 30 then spread l thresholds pass old new else top_of l)
