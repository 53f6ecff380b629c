-- The lines of a report, and its text.
use Rattle.std.specs.Prelude.{ℕ, ℤ, List, [], ◌∷◌, ◌++◌, if◌then◌else◌, codes, Option, Some, None, length}
use Rattle.std.specs.Fmt.{decimal, signed_decimal}
use Rattle.sa_base.specs.declared.pos.Pos.{Pos}
use Rattle.sa_base.specs.declared.alarm.Alarm.{Alarm}
use Rattle.sa_base.specs.Words.{kind_word}
use Rattle.sa_interval.specs.Span.{Span}
use Rattle.sa_typed.specs.Cells.{Cell, cells}
use Rattle.sa_typed.specs.Lines.{Line, ClockIn, CellIn}
use Rattle.sa_typed.specs.Executions.{main_of}
use Rattle.sa_typed.specs.declared.stmt.Stmt.{Stmt, Row_of-Stmt, end_of-Stmt, more_of-Stmt}
use Rattle.sa_typed.specs.declared.program.Program.{Program}
use Rattle.sa_reference.specs.declared.flat.Flat.{Flat}
use Rattle.sa_reference.specs.Steps.{Record, Found}
use Rattle.sa_reference.specs.Reference.{record_at}
use Rattle.sa_reference.specs.Intervals.{intervals}
use Rattle.sa_reference.specs.Sound.{widest}
use Rattle.sa_report.specs.Alarms.{rising}
use Rattle.sa_report.specs.Names.{cell_name}
use Rattle.sa_report.specs.Shown.{is_shown}

-- ---- lines
unfoldable pub cell_lines : Program → Pos → List Cell → List Span → List Line
cell_lines p q [] ss = []
cell_lines p q (c ∷ cs) [] = []
cell_lines p q (c ∷ cs) (s ∷ ss) = if is_shown p q c then CellIn c s.lo s.hi ∷ cell_lines p q cs ss else cell_lines p q cs ss

-- the lines of the loop whose word stands there, with this stable state
abbrev pub lines_of : Program → Pos → Flat → List Line
lines_of p q env = ClockIn env.clock.lo env.clock.hi ∷ cell_lines p q (cells p) env.cells

-- ---- their text
abbrev pub line_feed : List ℕ
line_feed = 10 ∷ []

-- LINE:COL and what follows
abbrev pub place_then : Pos → List ℕ → List ℕ
place_then p rest = decimal p.line ++ (codes ":" ++ (decimal p.col ++ rest))

-- in [LO, HI]
unfoldable pub span_text : ℤ → ℤ → List ℕ
span_text lo hi = codes " in [" ++ (signed_decimal lo ++ (codes ", " ++ (signed_decimal hi ++ codes "]\n")))

unfoldable pub line_text : Program → Line → List ℕ
line_text p (ClockIn lo hi) = codes "  clock" ++ span_text lo hi
line_text p (CellIn c lo hi) = codes "  " ++ (cell_name p c ++ span_text lo hi)

unfoldable pub lines_text : Program → List Line → List ℕ
lines_text p [] = []
lines_text p (l ∷ ls) = line_text p l ++ lines_text p ls

unfoldable pub reached_text : Pos → ℕ → List ℕ
reached_text q passes = codes "loop " ++ place_then q (codes " passes " ++ (decimal passes ++ line_feed))

unfoldable pub unreached_text : Pos → List ℕ
unreached_text q = codes "loop " ++ place_then q (codes " not reached" ++ line_feed)

-- the header of a loop and its lines; of a loop that isn't reached, no line
abbrev pub loop_text : Program → Pos → Option (Record Flat) → List ℕ
loop_text p q None = unreached_text q
loop_text p q (Some r) = reached_text q r.passes ++ lines_text p (lines_of p q r.state)

-- each loop of a statement, in the order of the text
unfoldable mutual
  pub stmt_text : Program → Found Flat → Stmt → List ℕ
  stmt_text p f (Stmt.Block' n all) = stmts_text p f all
  stmt_text p f (Stmt.Loop' q kind cond n (more_of-Stmt body end_of-Stmt) step) =
      loop_text p q (record_at (intervals p (widest p)) f.records (record { path = []; place = q })) ++ stmt_text p f body
  -- typing gives no other form with loops in it yet
  stmt_text p f _ = []

  pub stmts_text : {n : _} → Program → Found Flat → Row_of-Stmt n → List ℕ
  stmts_text p f end_of-Stmt = []
  stmts_text p f (more_of-Stmt s rest) = stmt_text p f s ++ stmts_text p f rest

unfoldable pub alarm_text : Alarm → List ℕ
alarm_text a = codes "alarm " ++ place_then a.pos (codes " " ++ (kind_word a.kind ++ line_feed))

unfoldable pub alarms_text : List Alarm → List ℕ
alarms_text [] = []
alarms_text (a ∷ as') = alarm_text a ++ alarms_text as'

unfoldable pub count_text : ℕ → List ℕ
count_text n = codes "alarms " ++ (decimal n ++ line_feed)

-- the whole report
unfoldable pub report_text : Program → Found Flat → List ℕ
report_text p f = stmt_text p f (main_of p) ++ (alarms_text (rising f.alarms) ++ count_text (length (rising f.alarms)))
