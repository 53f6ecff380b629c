-- The alarms of a report: in the order of their lines, columns and kinds, each once.
use Rattle.std.specs.Prelude.{ℕ, List, [], ◌∷◌}
use Rattle.std.specs.Ordering.{nat_cmp, ordering_then}
use Rattle.std.specs.declared.cmp.Ordering.{Ordering}
use Rattle.std.specs.BTreeSet.{insert_key}
use Rattle.sa_base.specs.declared.alarm.Alarm.{Alarm}
use Rattle.sa_base.specs.declared.alarm.Kind.{Kind}
use Rattle.sa_base.specs.declared.alarm.Kind.TheVariants as k

-- the place of a kind in a report's order
abbrev pub kind_rank : Kind → ℕ
kind_rank k.Overflow = 0
kind_rank k.Division = 1
kind_rank k.Shift = 2
kind_rank k.Index = 3
kind_rank k.Conversion = 4
kind_rank k.Assert = 5

abbrev pub alarm_cmp : Alarm → Alarm → Ordering
alarm_cmp a b = ordering_then (ordering_then (nat_cmp a.pos.line b.pos.line) (nat_cmp a.pos.col b.pos.col)) (nat_cmp (kind_rank a.kind) (kind_rank b.kind))

-- the alarms added one after another to those that stand in order; one that is there already stays
unfoldable pub with_alarms : List Alarm → List Alarm → List Alarm
with_alarms sorted [] = sorted
with_alarms sorted (a ∷ as') = with_alarms (insert_key alarm_cmp sorted a) as'

abbrev pub rising : List Alarm → List Alarm
rising alarms = with_alarms [] alarms
