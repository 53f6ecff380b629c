-- One member more, where the keys of an object are tested one after another, and rows of names follow one another.
use Rattle.std.proofs.Common.{◌≡◌, ℕ, List, [], ◌∷◌, Bool, true, false, String, Global, string_bytes, refl, sym, ap, ◌∙◌, Option, None, Some}
use Rattle.serde_json.specs.View.{view, members_view}
use Rattle.serde_json.specs.declared.value.Value.{Value}
use Rattle.sa_ranges.specs.Table.{is_known, knows_all, first, name_row, name_rows}
use Rattle.sa_ranges.specs.declared.fault.RangesFault.{RangesFault}
use Rattle.sa_ranges.specs.declared.inputs.Allowed.{Allowed}
use Rattle.sa_ranges.specs.declared.told.Version.{Version}
use Rattle.sa_ranges.proofs.RowLemmas.{behind, before}

abbrev pub Entry : Type 0
Entry = String Global × Value

pub known_step : (es : List Entry) (e : Entry) (rest : List Entry) → es ≡ e ∷ rest → is_known (string_bytes e.0) ≡ true → knows_all (members_view rest) ≡ knows_all (members_view es)
unfolding knows_all
known_step es e rest at t = rw (at, t) refl

pub known_stop : (es : List Entry) (e : Entry) (rest : List Entry) → es ≡ e ∷ rest → is_known (string_bytes e.0) ≡ false → false ≡ knows_all (members_view es)
unfolding knows_all
known_stop es e rest at t = rw (at, t) refl

pub known_end : (es : List Entry) → es ≡ [] → true ≡ knows_all (members_view es)
unfolding knows_all
known_end es at = rw at refl

pub names_step : (v : Version) (f : List ℕ → Option Allowed) (es : List Entry) (e : Entry) (rest : List Entry) → es ≡ e ∷ rest →
    first (name_row v (f (string_bytes e.0)) (string_bytes e.0) (view e.1)) ≡ None → first (name_rows v f (members_view rest)) ≡ first (name_rows v f (members_view es))
unfolding name_rows
names_step v f es e rest at t = rw at (sym (behind _ _ t))

pub names_stop : (v : Version) (f : List ℕ → Option Allowed) (es : List Entry) (e : Entry) (rest : List Entry) (g : RangesFault) → es ≡ e ∷ rest →
    first (name_row v (f (string_bytes e.0)) (string_bytes e.0) (view e.1)) ≡ Some g → first (name_rows v f (members_view es)) ≡ Some g
unfolding name_rows
names_stop v f es e rest g at t = rw at (before _ _ g t)

pub names_end : (v : Version) (f : List ℕ → Option Allowed) (es : List Entry) → es ≡ [] → first (name_rows v f (members_view es)) ≡ None
unfolding name_rows first
names_end v f es at = rw at refl
