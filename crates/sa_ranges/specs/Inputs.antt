-- The inputs of a program by their names.
use Rattle.std.specs.Prelude.{ℕ, List, [], ◌∷◌, if◌then◌else◌, Option, Some, None}
use Rattle.std.specs.Int.{int_min, int_max}
use denote.Ref.{Bor}
use Rattle.std.specs.BTreeMap.{BTreeMap, get_by}
use Rattle.std.specs.Cmp.Lexicographic.{slice_cmp}
use Rattle.std.specs.Ordering.{nat_cmp}
use Rattle.std.specs.Str.{bytes_eq}
use Rattle.sa_base.specs.Numbers.{num_lo, num_hi}
use Rattle.sa_base.specs.declared.num.Num.{Num}
use Rattle.sa_typed.specs.declared.program.Input.{Input}
use Rattle.sa_ranges.specs.declared.inputs.Allowed.{Allowed}

abbrev pub type_range : Num → Allowed
type_range num = record { lo = num_lo num; hi = num_hi num }

-- the numbers that are in both ranges
abbrev pub common : Option Allowed → Allowed → Allowed
common None r = r
common (Some s) r = record { lo = int_max s.lo r.lo; hi = int_min s.hi r.hi }

-- with one more input
unfoldable pub with_input : List ℕ → Option Allowed → Input → Option Allowed
with_input n found i = if bytes_eq i.name n then Some (common found (type_range i.num)) else found

unfoldable pub range_with : List ℕ → Option Allowed → List Input → Option Allowed
range_with n found [] = found
range_with n found (i ∷ is) = range_with n (with_input n found i) is

-- the numbers that an input of that name can be, none where no input has it; in a program no two inputs have one name
abbrev pub range_named : List Input → List ℕ → Option Allowed
range_named is n = range_with n None is

-- what a map from names has of a name
abbrev pub range_in_map : BTreeMap (Bor (List ℕ)) Allowed → List ℕ → Option Allowed
range_in_map m n = get_by (λ k. slice_cmp nat_cmp n k.now) m
