use Rattle.std.proofs.Common.{◌≡◌, ◌++◌, drop, map}
use Rattle.sa_ranges.specs.Answer.{from_told}
use Rattle.sa_ranges.proofs.read.all_from_told.Given as goal

abbrev pub invariant-loop-span : goal.invariant-loop-span
invariant-loop-span l = l.all.items ++ map from_told (drop l.span-index l.spans) ≡ map from_told l.spans
