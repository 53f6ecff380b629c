-- The JSON value that bytes are.
use Rattle.std.proofs.Common.{◌≡◌, ℕ, List, Bool, true, false, refl, ap, Option, Some, None}
use Rattle.std.specs.Prelude.{if◌then◌else◌}
use Rattle.std.specs.Str.{IsUtf8, is_utf8}
use Rattle.std.proofs.lemmas.Str.{is_utf8-from_IsUtf8, IsUtf8-from_is_utf8}
use Rattle.serde_json.specs.Data.{Data}
use Rattle.serde_json.specs.Read.{read}
use Rattle.std.specs.Prelude.{Result, Err}
use Rattle.sa_typed.specs.Ranges.{InputRanges}
use Rattle.sa_typed.specs.declared.program.Program.{Program}
use Rattle.sa_ranges.specs.Answer.{value_of, of_value, of_data, ranges_of, IsNoValue, IsFault}
use Rattle.sa_ranges.specs.declared.fault.RangesFault.{RangesFault}
use Rattle.sa_ranges.specs.declared.fault.RangesFault.TheVariants.{NotJson, Shape, Name, Spans, Bounds, OutOfMemory}

pub value_read : (bytes : List ℕ) (d : Data) → IsUtf8 bytes → read bytes ≡ Some d → value_of bytes ≡ Some d
unfolding value_of
value_read bytes d u r = rw (is_utf8-from_IsUtf8 bytes u) r

pub value_refused : (bytes : List ℕ) → (IsUtf8 bytes → read bytes ≡ None) → value_of bytes ≡ None
unfolding value_of
value_refused bytes h =
    elim (is_utf8 bytes) as (λ b. is_utf8 bytes ≡ b → (if b then read bytes else None) ≡ None) [ true ↦ λ e. h (IsUtf8-from_is_utf8 bytes e) | false ↦ λ e. refl ] refl

pub ranges_are : (p : Program) (bytes : List ℕ) (d : Data) → value_of bytes ≡ Some d → ranges_of p bytes ≡ of_data p.inputs d
unfolding ranges_of
ranges_are p bytes d e = ap (of_value p.inputs) e

pub no_ranges : (p : Program) (bytes : List ℕ) (g : RangesFault) → IsNoValue bytes g → IsFault (ranges_of p bytes) g
unfolding ranges_of
no_ranges p bytes NotJson e = ap (of_value p.inputs) e
no_ranges p bytes (Shape k) e = absurd e
no_ranges p bytes (Name n) e = absurd e
no_ranges p bytes (Spans n) e = absurd e
no_ranges p bytes (Bounds n) e = absurd e
no_ranges p bytes OutOfMemory e = tt
