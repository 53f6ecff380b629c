use Rattle.std.proofs.Common.{◌≡◌}
use Rattle.serde_json.specs.View.{members_view}
use Rattle.sa_ranges.specs.Keys.{members_in}
use Rattle.sa_ranges.specs.Inputs.{range_in_map}
use Rattle.sa_ranges.specs.Table.{name_rows, first}
use Rattle.sa_ranges.proofs.names.check_names.Given as goal

abbrev pub invariant-loop-name : goal.invariant-loop-name
invariant-loop-name l = first (name_rows l.version (range_in_map l.by_names) (members_view l.name-iterator)) ≡ first (name_rows l.version (range_in_map l.by_names) (members_in l.fn.named))
