-- No promise of the top calls rests on this page: it is for laws beside them, for proofs and for inner functions.
-- What is fixed of variables and cells, in their order.
use Rattle.std.specs.Prelude.{ℕ, suc, ◌+◌, pos, List, [], ◌∷◌, length, take, map, Bool}
use Rattle.sa_interval.specs.Rows.{single}
use Rattle.sa_typed.specs.Cells.{Cell, cells_at, is_global, is_static, is_local, is_starred}
use Rattle.sa_typed.specs.declared.program.Home.{Home}
use Rattle.sa_typed.specs.declared.program.Home.TheVariants as home
use Rattle.sa_typed.specs.declared.program.Var.{Var}
use Rattle.sa_typed.specs.declared.program.Program.{Program}
use Rattle.sa_cells.specs.declared.ground.Stretch.{Stretch}
use Rattle.sa_cells.specs.declared.ground.Next.{Next}
use Rattle.sa_cells.specs.declared.ground.Sort.{Sort}
use Rattle.sa_cells.specs.declared.ground.Sort.TheVariants as sort
use Rattle.sa_cells.specs.declared.slots.Slot.{Slot}
use Rattle.sa_cells.specs.Sizes.{first_cell, stretch_of, capped}
use Rattle.sa_cells.specs.Slots.{slot}

-- of the variables with numbers from k on
unfoldable pub stretches : Program → ℕ → List Var → List Stretch
stretches p k [] = []
stretches p k (x ∷ xs) = stretch_of p k x ∷ stretches p (k + 1) xs

-- where the cells of the variables from number k on begin, by where these live
abbrev pub next_at : Program → ℕ → Next
next_at p k = record { globals = first_cell p k home.Global; statics = first_cell p k home.Static; locals = first_cell p k (home.Local 0) }

abbrev pub next_for : Next → Home → ℕ
next_for n home.Global = n.globals
next_for n home.Static = n.statics
next_for n (home.Local f) = n.locals

-- behind so many cells more
abbrev pub moved_next : Next → Home → ℕ → Next
moved_next n home.Global k = record n { globals = capped (n.globals + k) }
moved_next n home.Static k = record n { statics = capped (n.statics + k) }
moved_next n (home.Local f) k = record n { locals = capped (n.locals + k) }

abbrev pub sort_test : Sort → Home → Bool
sort_test sort.Global h = is_global h
sort_test sort.Static h = is_static h
sort_test sort.Local h = is_local h

-- cells without their initial values
unfoldable pub bare_slots : List Cell → List Slot
bare_slots [] = []
bare_slots (c ∷ cs) = slot c.num (is_starred c.steps) (single (pos 0)) ∷ bare_slots cs
