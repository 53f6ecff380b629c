-- What a ranges file tells of an input: spans, each of which begins at a tick. Version 1 has one span, from the start; version 2
-- has a list of them. This project's own format.
use Rattle.std.specs.Prelude.{ℕ, ◌&&◌, ℤ, pos, List, [], ◌∷◌, length, nat_le, if◌then◌else◌, Option, Some, None, option_map, option_and_then, unwrap_or}
use Rattle.serde_json.specs.Data.{Data, Items, no_items, item}
use Rattle.serde_json.specs.Find.{as_number, as_integer, as_array}
use Rattle.sa_ranges.specs.declared.told.Told.{Told}
use Rattle.sa_ranges.specs.declared.told.Version.{Version}
use Rattle.sa_ranges.specs.declared.told.Version.TheVariants.{One, Two}

-- a numeral without point and exponent that fits 64 bits
abbrev pub whole : Data → Option ℤ
whole d = option_and_then as_integer (as_number d)

abbrev pub span : Option ℤ → Option ℤ → Option ℤ → Option Told
span from lo hi = option_and_then (λ f. option_and_then (λ l. option_map (λ h. record { from = f; lo = l; hi = h }) hi) lo) from

-- `[lo, hi]`
unfoldable pub range_in : Items → Option Told
range_in (item a (item b no_items)) = span (Some (pos 0)) (whole a) (whole b)
range_in _ = None

-- `[from, lo, hi]`
unfoldable pub span_in : Items → Option Told
span_in (item a (item b (item c no_items))) = span (whole a) (whole b) (whole c)
span_in _ = None

abbrev pub span_of : Data → Option Told
span_of d = option_and_then span_in (as_array d)

-- each item is a span
unfoldable pub spans_in : Items → Option (List Told)
spans_in no_items = Some []
spans_in (item d ds) = option_and_then (λ s. option_map (λ ss. s ∷ ss) (spans_in ds)) (span_of d)

abbrev pub if_few : List Told → Option (List Told)
if_few ss = if nat_le 1 (length ss) && nat_le (length ss) 64 then Some ss else None

abbrev pub told_in : Version → Items → Option (List Told)
told_in One ds = option_map (λ s. s ∷ []) (range_in ds)
told_in Two ds = option_and_then if_few (spans_in ds)

-- the spans of a value, where it has the form that the version asks for
unfoldable pub told : Version → Data → Option (List Told)
told v d = option_and_then (told_in v) (as_array d)

abbrev pub spans_told : Version → Data → List Told
spans_told v d = unwrap_or (told v d) []
