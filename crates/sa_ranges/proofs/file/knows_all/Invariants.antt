use Rattle.std.proofs.Common.{◌≡◌}
use Rattle.serde_json.specs.View.{members_view}
use Rattle.sa_ranges.specs.Table.{knows_all}
use Rattle.sa_ranges.proofs.file.knows_all.Given as goal

abbrev pub invariant-loop-key : goal.invariant-loop-key
invariant-loop-key l = knows_all (members_view l.key-iterator) ≡ knows_all (members_view l.members.entries)
