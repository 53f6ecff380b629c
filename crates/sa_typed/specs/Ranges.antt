-- No promise of the top calls rests on this page: it is for laws beside them, for proofs and for inner functions.
-- The ranges of a program's inputs, which may change with the clock, and the last clock.
use Rattle.std.specs.Prelude.{ℕ, zero, suc, ◌-◌, ◌^◌, ◌<◌, ◌≤◌, ℤ, ◌≤ℤ◌, pos, ◌≡◌, List, [], ◌∷◌, map, IsTrue, get_or, nat_le, if◌then◌else◌}
use Rattle.std.specs.Int.{int_min, int_max}
use Rattle.std.specs.List.{All, AllZip}
use Rattle.sa_base.specs.Numbers.{num_lo, num_hi}
use Rattle.sa_base.specs.declared.num.Num.{Num}
use Rattle.sa_typed.specs.declared.program.Input.{Input}
use Rattle.sa_typed.specs.declared.program.Program.{Program}
use Rattle.sa_typed.specs.Arithmetic.{is_of}
use Rattle.sa_typed.specs.Evaluation.{Range}

-- from the tick `.0` on, until the next span begins, an input lies in `.1` to `.2`
abbrev pub Span : Type 0
Span = ℕ × ℤ × ℤ

-- the numbers from the first to the second
abbrev pub range : ℤ × ℤ → Range
range ends = record { lo = ends.0; hi = ends.1 }

-- the last clock, and for each input its spans
pub record InputRanges : Type 0 where
  pub max_clock : ℕ
  pub inputs : List (List Span)

abbrev pub spans_of : InputRanges → ℕ → List Span
spans_of r i = get_or r.inputs i []

-- the range at this tick, from the one before the spans: each span that has begun takes the place of what stood before it
unfoldable pub from_span : Range → List Span → ℕ → Range
from_span r [] t = r
from_span r (s ∷ rest) t = from_span (if nat_le s.0 t then range (s.1, s.2) else r) rest t

-- the range of an input at this tick, that of the last span that begins at or before it
abbrev pub at : List Span → ℕ → Range
at spans t = from_span (range (pos 0, pos 0)) spans t

-- ---- what ranges have to be

-- each begins after the one before
abbrev pub RiseAbove : ℕ → List Span → Type 0
RiseAbove before [] = Unit {0}
RiseAbove before (s ∷ rest) = (before < s.0) × RiseAbove s.0 rest

-- the first span begins at 0, each later one after the one before, and no range is empty
abbrev pub AreSpans : List Span → Type 0
AreSpans [] = ⊥
AreSpans (s ∷ rest) = (s.0 ≡ 0) × RiseAbove s.0 rest × All (λ s. s.1 ≤ℤ s.2) (s ∷ rest)

pub record AreRanges (r : InputRanges) : Type 0 where
  pub clock : r.max_clock ≤ 2 ^ 62
  pub spans : All AreSpans r.inputs

-- both ends of the span are numbers of the type
pub record IsOfType (num : Num) (s : Span) : Type 0 where
  pub low : IsTrue (is_of num s.1)
  pub high : IsTrue (is_of num s.2)

-- there is one list of spans for each input of the program, within the input's type
abbrev pub AreOf : InputRanges → Program → Type 0
AreOf r p = AllZip (λ spans input. All (IsOfType input.num) spans) r.inputs p.inputs

-- ---- all ticks from one to another

-- the first range lies in the second
pub record IsInside (r s : Range) : Type 0 where
  pub low : s.lo ≤ℤ r.lo
  pub high : r.hi ≤ℤ s.hi

-- it holds the ranges at all ticks from one to another
abbrev pub HoldsAll : (ℕ → Range) → (from to : ℕ) → Range → Type 0
HoldsAll ranges from to r = (t : ℕ) → from ≤ t → t ≤ to → IsInside (ranges t) r

-- and lies in every range that does
pub record IsLeastRange (ranges : ℕ → Range) (from to : ℕ) (r : Range) : Type 0 where
  pub holds : HoldsAll ranges from to r
  pub least : (s : Range) → HoldsAll ranges from to s → IsInside r s

-- the least range that holds both
abbrev pub joined : Range → Range → Range
joined r s = record { lo = int_min r.lo s.lo; hi = int_max r.hi s.hi }

-- the least range that holds those at this tick and at so many after it
unfoldable pub over_ticks : List Span → ℕ → ℕ → Range
over_ticks spans t zero = at spans t
over_ticks spans t (suc more) = joined (at spans t) (over_ticks spans (suc t) more)

-- the least range that holds those at all ticks from one to another
abbrev pub between : List Span → (from to : ℕ) → Range
between spans from to = over_ticks spans from (to - from)

-- ---- where nothing is told

-- one span with all numbers of the type
abbrev pub spans_of_type : Num → List Span
spans_of_type num = (0, num_lo num, num_hi num) ∷ []

abbrev pub whole_type : Input → List Span
whole_type input = spans_of_type input.num

-- the last clock without another one
unfoldable pub clock_unless_told : ℕ
clock_unless_told = 3600000

-- each input has its type's range
abbrev pub widest : Program → InputRanges
widest p = record { max_clock = clock_unless_told; inputs = map whole_type p.inputs }
