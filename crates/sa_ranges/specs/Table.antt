-- When a ranges file is refused: a table whose first row that holds is the answer. This project's own format.
use Rattle.std.specs.Prelude.{ℕ, ◌≡◌, ⊤, ◌^◌, ◌&&◌, ◌||◌, ℤ, pos, negsuc, int_lt, int_le, codes, List, [], ◌∷◌, ◌++◌, Bool, true, false, not, is_some, if◌then◌else◌, Option, Some, None, option_and_then, unwrap_or}
use Rattle.std.specs.Ordering.{int_eq}
use Rattle.std.specs.Str.{bytes_eq}
use Rattle.serde_json.specs.Data.{Data, Members, no_members, member}
use Rattle.serde_json.specs.Find.{get, as_object}
use Rattle.sa_ranges.specs.declared.inputs.Allowed.{Allowed}
use Rattle.sa_typed.specs.Ranges.{clock_unless_told}
use Rattle.sa_typed.specs.declared.program.Input.{Input}
use Rattle.sa_ranges.specs.Inputs.{range_named}
use Rattle.sa_ranges.specs.Told.{whole, told, spans_told}
use Rattle.sa_ranges.specs.declared.fault.RangesFault.{RangesFault}
use Rattle.sa_ranges.specs.declared.fault.RangesFault.TheVariants.{Shape, Name, Spans, Bounds, OutOfMemory}
use Rattle.sa_ranges.specs.declared.told.Told.{Told}
use Rattle.sa_ranges.specs.declared.told.Version.{Version}
use Rattle.sa_ranges.specs.declared.told.Version.TheVariants.{One, Two}

-- ---- the keys of the file
abbrev pub is_known : List ℕ → Bool
is_known k = bytes_eq k (codes "version") || bytes_eq k (codes "max_clock") || bytes_eq k (codes "inputs")

unfoldable pub knows_all : Members → Bool
knows_all no_members = true
knows_all (member k d ms) = is_known k && knows_all ms

abbrev pub members : Option Members → Members
members ms = unwrap_or ms no_members

abbrev pub version_of : Option ℤ → Option Version
version_of None = None
version_of (Some z) = if int_eq z (pos 1) then Some One else if int_eq z (pos 2) then Some Two else None

unfoldable pub version : Data → Option Version
version d = version_of (option_and_then whole (get (codes "version") d))

abbrev pub natural : ℤ → ℕ
natural (pos n) = n
natural (negsuc n) = 0

-- a clock is from 0 to 2^62
unfoldable pub tick_of : ℤ → Option ℕ
tick_of z = if int_le (pos 0) z && int_le z (pos (2 ^ 62)) then Some (natural z) else None

abbrev pub clock_of : Option Data → Option ℕ
clock_of None = Some clock_unless_told
clock_of (Some d) = option_and_then tick_of (whole d)

unfoldable pub last_clock : Data → Option ℕ
last_clock d = clock_of (get (codes "max_clock") d)

abbrev pub inputs_of : Option Data → Option Members
inputs_of None = Some no_members
inputs_of (Some d) = as_object d

-- the names of inputs in the order of their bytes, with their values
unfoldable pub named : Data → Option Members
named d = inputs_of (get (codes "inputs") d)

-- ---- the spans of an input
-- a span begins after the one before, and not beyond 2^62
unfoldable pub follows : Told → Told → Bool
follows before s = int_lt before.from s.from && int_le s.from (pos (2 ^ 62))

unfoldable pub rise : Told → List Told → Bool
rise before [] = true
rise before (s ∷ ss) = follows before s && rise s ss

-- the first one begins at 0, each later one after the one before, and none beyond 2^62
unfoldable pub begin_well : List Told → Bool
begin_well [] = false
begin_well (s ∷ ss) = int_eq s.from (pos 0) && rise s ss

abbrev pub is_in : Allowed → ℤ → Bool
is_in r z = int_le r.lo z && int_le z r.hi

-- a span isn't empty, and both of its ends are numbers that the input can be
unfoldable pub span_fits : Allowed → Told → Bool
span_fits r s = int_le s.lo s.hi && (is_in r s.lo && is_in r s.hi)

unfoldable pub all_fit : Allowed → List Told → Bool
all_fit r [] = true
all_fit r (s ∷ ss) = span_fits r s && all_fit r ss

abbrev pub fit : Option Allowed → List Told → Bool
fit None ss = false
fit (Some r) ss = all_fit r ss

-- ---- the table: whether a row holds, and what it answers
abbrev pub Row : Type 0
Row = Bool × RangesFault

abbrev pub is_none : {A : Type 0} → Option A → Bool
is_none o = not (is_some o)

-- of one name, whose inputs can be these numbers; version 1 has a span from 0 alone, so that its row of beginnings never holds
unfoldable pub name_row : Version → Option Allowed → List ℕ → Data → List Row
name_row v range n d =
    (is_none (told v d), Shape 6)
    ∷ (is_none range, Name n)
    ∷ (not (begin_well (spans_told v d)), Spans n)
    ∷ (not (fit range (spans_told v d)), Bounds n)
    ∷ []

unfoldable pub name_rows : Version → (List ℕ → Option Allowed) → Members → List Row
name_rows v ranges no_members = []
name_rows v ranges (member n d ms) = name_row v (ranges n) n d ++ name_rows v ranges ms

unfoldable pub file_rows : Data → List Row
file_rows d =
    (is_none (as_object d), Shape 1)
    ∷ (not (knows_all (members (as_object d))), Shape 2)
    ∷ (is_none (version d), Shape 3)
    ∷ (is_none (last_clock d), Shape 4)
    ∷ (is_none (named d), Shape 5)
    ∷ []

abbrev pub version_told : Data → Version
version_told d = unwrap_or (version d) One

abbrev pub rows : List Input → Data → List Row
rows is d = file_rows d ++ name_rows (version_told d) (range_named is) (members (named d))

-- the first row that holds
unfoldable pub first : List Row → Option RangesFault
first [] = None
first (r ∷ rs) = if r.0 then Some r.1 else first rs

-- a fault is that of the first row that holds, but for want of memory
abbrev pub Tells : List Row → RangesFault → Type 0
Tells rs OutOfMemory = ⊤
Tells rs f = first rs ≡ Some f
