use Rattle.std.proofs.Common.{◌≡◌, drop}
use Rattle.sa_ranges.specs.Table.{rise}
use Rattle.sa_ranges.proofs.names.rise.Given as goal

abbrev pub invariant-loop-span : goal.invariant-loop-span
invariant-loop-span l = rise l.last (drop l.span-index l.spans) ≡ rise l.fn.before l.spans
