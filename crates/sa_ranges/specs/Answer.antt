-- The ranges that a file tells of a program's inputs.
use Rattle.std.specs.Prelude.{ℕ, ◌≡◌, ⊤, List, map, if◌then◌else◌, Option, Some, None, unwrap_or, Result, Ok, Err}
use Rattle.std.specs.Str.{is_utf8}
use Rattle.serde_json.specs.Data.{Data, Members}
use Rattle.serde_json.specs.Find.{get_member}
use Rattle.serde_json.specs.Read.{read}
use Rattle.sa_typed.specs.Ranges.{InputRanges, Span, clock_unless_told, whole_type}
use Rattle.sa_typed.specs.declared.program.Input.{Input}
use Rattle.sa_typed.specs.declared.program.Program.{Program}
use Rattle.sa_ranges.specs.Table.{tick_of, members, last_clock, named, version_told, rows, first}
use Rattle.sa_ranges.specs.Told.{spans_told}
use Rattle.sa_ranges.specs.declared.fault.RangesFault.{RangesFault}
use Rattle.sa_ranges.specs.declared.fault.RangesFault.TheVariants.{NotJson, OutOfMemory}
use Rattle.sa_ranges.specs.declared.told.Told.{Told}
use Rattle.sa_ranges.specs.declared.told.Version.{Version}

-- the JSON value that the bytes are
unfoldable pub value_of : List ℕ → Option Data
value_of bytes = if is_utf8 bytes then read bytes else None

abbrev pub IsNoValue : List ℕ → RangesFault → Type 0
IsNoValue bytes NotJson = value_of bytes ≡ None
IsNoValue bytes OutOfMemory = ⊤
IsNoValue bytes _ = ⊥

abbrev pub from_told : Told → Span
from_told s = (unwrap_or (tick_of s.from) 0, s.lo, s.hi)

abbrev pub spans_or : Version → Input → Option Data → List Span
spans_or v i None = whole_type i
spans_or v i (Some d) = map from_told (spans_told v d)

-- an input that isn't named has its type's range
unfoldable pub spans_for : Version → Members → Input → List Span
spans_for v ms i = spans_or v i (get_member i.name ms)

abbrev pub ranges_told : List Input → Data → InputRanges
ranges_told is d = record {
  max_clock = unwrap_or (last_clock d) clock_unless_told;
  inputs = map (spans_for (version_told d) (members (named d))) is;
}

abbrev pub unless : Option RangesFault → InputRanges → Result InputRanges RangesFault
unless None r = Ok r
unless (Some f) r = Err f

abbrev pub of_data : List Input → Data → Result InputRanges RangesFault
of_data is d = unless (first (rows is d)) (ranges_told is d)

abbrev pub of_value : List Input → Option Data → Result InputRanges RangesFault
of_value is None = Err NotJson
of_value is (Some d) = of_data is d

-- what the bytes tell of a program's inputs
unfoldable pub ranges_of : Program → List ℕ → Result InputRanges RangesFault
ranges_of p bytes = of_value p.inputs (value_of bytes)

-- a fault is that of the answer, but for want of memory
abbrev pub IsFault : Result InputRanges RangesFault → RangesFault → Type 0
IsFault told OutOfMemory = ⊤
IsFault told f = told ≡ Err f
