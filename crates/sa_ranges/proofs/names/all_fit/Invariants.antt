use Rattle.std.proofs.Common.{◌≡◌, drop}
use Rattle.sa_ranges.specs.Table.{all_fit}
use Rattle.sa_ranges.proofs.names.all_fit.Given as goal

abbrev pub invariant-loop-span : goal.invariant-loop-span
invariant-loop-span l = all_fit l.allowed (drop l.span-index l.spans) ≡ all_fit l.allowed l.spans
