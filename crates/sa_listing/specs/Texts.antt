-- No promise of the top calls rests on this page: it is for laws beside them, for proofs and for inner functions.
-- The text of a report: for each loop a header and its lines, indented by two spaces, then a line an alarm, then their number.
use Rattle.std.specs.Prelude.{ℕ, ℤ, Bool, true, false, List, [], ◌∷◌, ◌++◌, codes, flat_map, length, zero, suc}
use Rattle.std.specs.Fmt.{decimal, signed_decimal}
use Rattle.sa_base.specs.declared.alarm.Alarm.{Alarm}
use Rattle.sa_base.specs.Words.{kind_word}
use Rattle.sa_listing.specs.declared.lines.Line.{Line}
use Rattle.sa_listing.specs.declared.lines.Line.TheVariants as line
use Rattle.sa_listing.specs.declared.lines.LoopReport.{LoopReport}
use Rattle.sa_listing.specs.declared.lines.Report.{Report}

abbrev pub line_feed : List ℕ
line_feed = 10 ∷ []

-- in [LO, HI]
unfoldable pub span_text : ℤ → ℤ → List ℕ
span_text lo hi = codes " in [" ++ (signed_decimal lo ++ (codes ", " ++ (signed_decimal hi ++ codes "]")))

-- the sign of the first cell of two, and of the second
abbrev pub first_sign : Bool → List ℕ
first_sign true = []
first_sign false = codes "-"

abbrev pub second_sign : Bool → List ℕ
second_sign true = codes " + "
second_sign false = codes " - "

-- a line without its indentation
unfoldable pub line_text : Line → List ℕ
line_text (line.Clock lo hi) = codes "clock" ++ span_text lo hi
line_text (line.Span c lo hi) = c ++ span_text lo hi
line_text (line.Minus c lo hi) = c ++ (codes " - clock" ++ span_text lo hi)
line_text (line.Plus c lo hi) = c ++ (codes " + clock" ++ span_text lo hi)
line_text (line.Pair p c q d k) = first_sign p ++ (c ++ (second_sign q ++ (d ++ (codes " <= " ++ signed_decimal k))))

unfoldable pub indented : Line → List ℕ
indented l = codes "  " ++ (line_text l ++ line_feed)

abbrev pub passes_text : ℕ → List ℕ
passes_text zero = codes " not reached"
passes_text (suc n) = codes " passes " ++ decimal (suc n)

unfoldable pub header : List ℕ → ℕ → List ℕ
header name passes = codes "loop " ++ (name ++ (passes_text passes ++ line_feed))

unfoldable pub loop_text : LoopReport → List ℕ
loop_text r = header r.name r.passes ++ flat_map indented r.lines

unfoldable pub alarm_text : Alarm → List ℕ
alarm_text a = codes "alarm " ++ (decimal a.pos.line ++ (codes ":" ++ (decimal a.pos.col ++ (codes " " ++ (kind_word a.kind ++ line_feed)))))

unfoldable pub count_text : ℕ → List ℕ
count_text n = codes "alarms " ++ (decimal n ++ line_feed)

unfoldable pub report_text : Report → List ℕ
report_text r = flat_map loop_text r.loops ++ (flat_map alarm_text r.alarms ++ count_text (length r.alarms))
