-- No promise of the top calls rests on this page: it is for laws beside them, for proofs and for inner functions.
-- What the code keeps of an analysis, as the reference states it.
use Rattle.std.specs.Prelude.{List, [], map, Option, Some, None, slice_get}
use Rattle.sa_typed.specs.declared.program.Func.{Func}
use Rattle.sa_typed.specs.declared.program.Program.{Program}
use Rattle.sa_typed.specs.declared.stmt.Stmt.{Stmt}
use Rattle.sa_reference.specs.declared.flat.Flat.{Flat}
use Rattle.sa_reference.specs.Steps.{Record, Found}
use Rattle.sa_iterate.specs.declared.passes.Analysis.{Analysis}
use Rattle.sa_iterate.specs.declared.passes.LoopFacts.{LoopFacts}

-- the record of a loop of main
unfoldable pub record_of : LoopFacts → Record Flat
record_of f = record { loop = record { path = []; place = f.place }; passes = f.passes; state = f.state }

abbrev pub found_by : Analysis → Found Flat
found_by a = record { alarms = a.alarms.items; records = map record_of a.loops.items }

-- the statements of main
abbrev pub body_in : Option Func → List Stmt
body_in None = []
body_in (Some f) = f.body

abbrev pub main_body : Program → List Stmt
main_body p = body_in (slice_get p.funcs p.entry)
