-- What stands in a slot: the interval of a cell.
use Rattle.std.specs.Prelude.{ℕ, ℤ, List, map, if◌then◌else◌, nat_le, Option, None, Some}
use Rattle.std.specs.Int.RustNames.{int_le}
use Rattle.sa_interval.specs.Span.{Span, IsPart}
use Rattle.sa_interval.specs.Rows.{join_of, is_part}
use Rattle.sa_interval.specs.Widening.{widening_of}
use Rattle.sa_env.specs.declared.slot.SlotValue.{SlotValue}
use Rattle.sa_env.specs.declared.slot.SlotValue.TheVariants.{Cell}

-- the interval of a cell
abbrev pub span_of : SlotValue → Span
span_of (Cell s) = s

abbrev pub spans_of : List SlotValue → List Span
spans_of = map span_of

-- what may stand in one slot: any two cells
abbrev pub Alike : SlotValue → SlotValue → Type 0
Alike (Cell s) (Cell t) = Unit {0}

abbrev pub slot_join : SlotValue → SlotValue → SlotValue
slot_join (Cell s) (Cell t) = Cell (join_of s t)

abbrev pub SlotBelow : SlotValue → SlotValue → Type 0
SlotBelow (Cell s) (Cell t) = IsPart s t

-- ---- widening (Cousot and Cousot 1977)

-- a bound that falls goes to the least, one that rises to the most
abbrev pub fallen : ℤ → ℤ → ℤ → ℤ
fallen least old new = if int_le old new then old else least

abbrev pub risen : ℤ → ℤ → ℤ → ℤ
risen most old new = if int_le new old then old else most

-- each bound that moves goes to that of the cell's range
abbrev pub spread_to : Span → Span → Span → Span
spread_to top old new = record { lo = fallen top.lo old.lo new.lo; hi = risen top.hi old.hi new.hi }

-- to thresholds up to pass 20 (Blanchet and others 2003), and later to the range; the passes are this project's own choice
unfoldable pub widened_span : List ℤ → ℕ → Span → Span → Span → Span
widened_span thresholds pass top old new = if nat_le pass 20 then widening_of thresholds old new top else spread_to top old new

-- ---- the changes of a slot's value, None where it stays

-- the join with a new interval
abbrev pub slot_weakened : Span → SlotValue → Option SlotValue
slot_weakened v (Cell s) = if is_part v s then None else Some (Cell (join_of s v))

-- what a pass makes of an old and a new value, under the top
abbrev pub slot_spread : List ℤ → ℕ → SlotValue → SlotValue → SlotValue → Option SlotValue
slot_spread thresholds pass (Cell top) (Cell old) (Cell new) =
    if is_part new old then None else Some (Cell (widened_span thresholds pass top old new))
