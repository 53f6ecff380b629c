-- No promise of the top calls rests on this page: it is for laws beside them, for proofs and for inner functions.
-- Spans of cells that are set.
use Rattle.std.specs.Prelude.{ℕ, ◌+◌, List, [], ◌∷◌, ◌++◌, length, take, drop, if◌then◌else◌, nat_lt, slice_get}
use Rattle.sa_interval.specs.Span.{Span}
use Rattle.sa_typed.specs.Cells.{Cell}
use Rattle.sa_typed.specs.declared.program.Program.{Program}
use Rattle.sa_operators.specs.Operators.{IsIn}
use Rattle.sa_reference.specs.Environments.{cell_range, items_span, is_local_var}
use Rattle.sa_cells.specs.declared.slots.Slot.{Slot}

-- the list with others in place of those from a number on
unfoldable pub placed : {X : Type 0} → ℕ → List X → List X → List X
placed first new old = take first old ++ (new ++ drop (first + length new) old)

abbrev pub slot_span : Slot → Span
slot_span s = record { lo = s.lo; hi = s.hi }

-- what a cell begins with lies in its type
abbrev pub IsTypedSlot : Slot → Type 0
IsTypedSlot s = IsIn s.num (slot_span s)

-- the environment before main as far as the variables below a number
unfoldable pub begun : Program → ℕ → List Cell → List Span
begun p n [] = []
begun p n (c ∷ cs) = (if nat_lt c.var n then (if is_local_var (slice_get p.vars c.var) then cell_range c else items_span p c) else cell_range c) ∷ begun p n cs
