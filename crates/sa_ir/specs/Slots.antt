-- The cells within an object, with the initial values of the elements that they stand for: which elements those are is kept as
-- their numbers as far as they have initial values, and whether there are others, which begin with 0 alone.
use Rattle.std.specs.Prelude.{ℕ, zero, suc, ◌+◌, ◌*◌, ℤ, pos, List, [], ◌∷◌, ◌++◌, map, length, get_or, Bool, true, false, ◌||◌, not, if◌then◌else◌, nat_lt, Option, Some, None}
use Rattle.std.specs.List.{flat_map}
use Rattle.sa_base.specs.declared.num.Num.{Num}
use Rattle.sa_ir.specs.declared.ir.Ends.{Ends}
use Rattle.sa_ir.specs.Initial.{single, join_some}
use Rattle.sa_typed.specs.Layouts.{Layout, Layouts, no_field, field, nums}
use Rattle.sa_typed.specs.Cells.{Inner, inner_cells, is_starred}
use Rattle.sa_ir.specs.Initial.{initial_ends}
use Rattle.sa_ir.specs.declared.slots.Elements.{Elements}
use Rattle.sa_ir.specs.declared.slots.Slot.{Slot}

-- the least span that holds what a function gives at each of these numbers, and 0 where there are others
unfoldable pub spread : (ℕ → Ends) → List ℕ → Bool → Option Ends
spread f [] more = if more then Some (single (pos 0)) else None
spread f (o ∷ os) more = join_some (Some (f o)) (spread f os more)

-- that of the initial values of these elements
unfoldable pub values_of : List ℤ → List ℕ → Bool → Option Ends
values_of zs [] more = if more then Some (single (pos 0)) else None
values_of zs (o ∷ os) more = join_some (Some (single (get_or zs o (pos 0)))) (values_of zs os more)

abbrev pub or_zero : Option Ends → Ends
or_zero None = single (pos 0)
or_zero (Some s) = s

abbrev pub slot : Num → Bool → Ends → Slot
slot num starred s = record { num = num; starred = starred; lo = s.lo; hi = s.hi }

-- a cell of an object that stands at each of these elements
abbrev pub slot_of : List ℤ → Layout → Elements → Inner → Slot
slot_of zs l e i = slot i.num (e.starred || is_starred i.steps) (or_zero (spread (λ o. initial_ends zs l i.steps o) e.at e.more))

unfoldable pub slots_in : List ℤ → Layout → Elements → List Slot
slots_in zs l e = map (λ i. slot_of zs l e i) (inner_cells l)

-- ---- elements further on
-- those numbers, moved on, that are below the length
unfoldable pub kept : ℕ → ℕ → List ℕ → List ℕ
kept n by [] = []
kept n by (o ∷ os) = if nat_lt (o + by) n then (o + by) ∷ kept n by os else kept n by os

unfoldable pub any_past : ℕ → ℕ → List ℕ → Bool
any_past n by [] = false
any_past n by (o ∷ os) = not (nat_lt (o + by) n) || any_past n by os

unfoldable pub moved_on : ℕ → ℕ → Elements → Elements
moved_on n by e = record { starred = e.starred; at = kept n by e.at; more = e.more || any_past n by e.at }

-- so many elements from one on, each as long, as far as they begin below the length
unfoldable pub run : ℕ → ℕ → ℕ → ℕ → List ℕ
run n w zero o = []
run n w (suc k) o = if nat_lt o n then o ∷ run n w k (o + w) else []

unfoldable pub stops : ℕ → ℕ → ℕ → ℕ → Bool
stops n w zero o = false
stops n w (suc k) o = if nat_lt o n then stops n w k (o + w) else true

unfoldable pub any_stops : ℕ → ℕ → ℕ → List ℕ → Bool
any_stops n w k [] = false
any_stops n w k (o ∷ os) = stops n w k o || any_stops n w k os

-- all elements of arrays together
unfoldable pub together : ℕ → ℕ → ℕ → Elements → Elements
together n w k e = record { starred = true; at = flat_map (λ o. run n w k o) e.at; more = e.more || any_stops n w k e.at }

-- each element of arrays by itself, those with indices from j on
unfoldable pub apart : ℕ → ℕ → ℕ → ℕ → Elements → List Elements
apart n w zero j e = []
apart n w (suc k) j e = moved_on n (j * w) e ∷ apart n w k (j + 1) e

-- fields one after the other, of which the first begins so many elements on
unfoldable pub fields_in : List ℤ → Layouts → ℕ → Elements → List Slot
fields_in zs no_field b e = []
fields_in zs (field x l ls) b e = slots_in zs l (moved_on (length zs) b e) ++ fields_in zs ls (b + length (nums l)) e
