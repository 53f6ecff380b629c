use Rattle.std.proofs.Common.{◌≡◌, drop, pos}
use Rattle.sa_typed.specs.Ranges.{range}
use Rattle.sa_typed.specs.Gathering.{gathered}
use Rattle.sa_typed.proofs.ranges.over_spans.Given as goal

abbrev pub invariant-loop-span : goal.invariant-loop-span
invariant-loop-span l = gathered l.from l.to (range l.held) (drop l.span-index l.spans) ≡ gathered l.from l.to (range (pos 0, pos 0)) l.spans
