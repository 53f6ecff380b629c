-- No promise of the top calls rests on this page: it is for laws beside them, for proofs and for inner functions.
-- What the code keeps of loops: one record for all that stand at a place, and the marks and the texts of lists of statements.
use Rattle.std.specs.Prelude.{ℕ, List, [], ◌∷◌, ◌++◌, Bool, false, if◌then◌else◌, length, replicate, max, Option, Some, None}
use Rattle.sa_base.specs.declared.pos.Pos.{Pos}
use Rattle.sa_interval.specs.Span.{Span}
use Rattle.sa_typed.specs.Cells.{cells}
use Rattle.sa_typed.specs.Executions.{same_pos, main_of}
use Rattle.sa_typed.specs.declared.stmt.Stmt.{Stmt}
use Rattle.sa_typed.specs.declared.program.Program.{Program}
use Rattle.sa_reference.specs.declared.flat.Flat.{Flat}
use Rattle.sa_reference.specs.Environments.{merge_of}
use Rattle.sa_reference.specs.Steps.{Found}
use Rattle.sa_iterate.specs.declared.passes.LoopFacts.{LoopFacts}
use Rattle.sa_report.specs.Marks.{by_loop}
use Rattle.sa_report.specs.Report.{cell_lines, lines_text, stmt_text}

abbrev pub with_facts : LoopFacts → Option LoopFacts → Option LoopFacts
with_facts f None = Some f
with_facts f (Some g) = Some (record { place = f.place; passes = max f.passes g.passes; state = merge_of f.state g.state })

abbrev pub next_facts : Pos → LoopFacts → Option LoopFacts → Option LoopFacts
next_facts q f o = if same_pos f.place q then with_facts f o else o

unfoldable pub facts_at : List LoopFacts → Pos → Option LoopFacts
facts_at [] q = None
facts_at (f ∷ fs) q = next_facts q f (facts_at fs q)

-- the cells that occur in the loop whose word stands there
unfoldable pub marks_of : Program → Pos → List Bool
marks_of p q = by_loop q (cells p) (main_of p) (replicate (length (cells p)) false)

-- the lines of the cells that are shown of a loop
unfoldable pub cells_text : Program → Pos → List Span → List ℕ
cells_text p q ss = lines_text p (cell_lines p q (cells p) ss)

unfoldable pub all_text : Program → Found Flat → List Stmt → List ℕ
all_text p f [] = []
all_text p f (s ∷ ss) = stmt_text p f s ++ all_text p f ss
