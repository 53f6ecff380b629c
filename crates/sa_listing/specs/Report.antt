-- No promise of the top calls rests on this page: it is for laws beside them, for proofs and for inner functions.
-- The report of what was found in a lowered program: of each loop its name and what holds whenever an execution reaches it.
use Rattle.std.specs.Prelude.{ℕ, List, [], ◌∷◌, map, zip, Option, Some, None, slice_get}
use Rattle.sa_interval.specs.Span.{Span}
use Rattle.sa_ir.specs.declared.ir.Cell.{Cell}
use Rattle.sa_ir.specs.declared.ir.LoopInfo.{LoopInfo}
use Rattle.sa_ir.specs.declared.ir.Ir.{Ir}
use Rattle.sa_flat.specs.declared.found.LoopFacts.{LoopFacts}
use Rattle.sa_flat.specs.declared.found.Found.{Found}
use Rattle.sa_listing.specs.declared.lines.Line.{Line}
use Rattle.sa_listing.specs.declared.lines.Line.TheVariants as line
use Rattle.sa_listing.specs.declared.lines.LoopReport.{LoopReport}
use Rattle.sa_listing.specs.declared.lines.Report.{Report}

-- the name of the cell with this number
abbrev pub name_of : Option Cell → List ℕ
name_of None = []
name_of (Some c) = c.name

-- the line of a cell and its numbers
abbrev pub cell_line : List Cell → ℕ × Span → Line
cell_line cs (k, s) = line.Span (name_of (slice_get cs k)) s.lo s.hi

-- a loop that isn't reached has no lines; else the clock comes first, then each shown cell
abbrev pub loop_report : List Cell → LoopInfo × Option LoopFacts → LoopReport
loop_report cs (info, None) = record { name = info.name; passes = 0; lines = [] }
loop_report cs (info, Some f) = record { name = info.name; passes = f.passes; lines = line.Clock f.clock.lo f.clock.hi ∷ map (cell_line cs) (zip info.shown f.cells) }

-- the loops in walk order, and the alarms as they were found
unfoldable pub report_of : Ir → Found → Report
report_of ir f = record { loops = map (loop_report ir.cells) (zip ir.loops f.loops); alarms = f.alarms }
