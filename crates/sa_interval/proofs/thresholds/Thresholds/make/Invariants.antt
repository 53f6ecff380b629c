use Rattle.std.proofs.Common.{◌≡◌, ◌++◌, take}
use Rattle.std.specs.List.{flat_map}
use Rattle.sa_interval.specs.Widening.{fixed_thresholds, both_signs}
use Rattle.sa_interval.proofs.thresholds.Thresholds.make.Given as goal

abbrev pub invariant-loop-value : goal.invariant-loop-value
invariant-loop-value l = l.all.items ≡ fixed_thresholds ++ flat_map both_signs (take l.value-index l.values)
