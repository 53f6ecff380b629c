use Rattle.std.proofs.Common.{◌<◌, ◌≤◌, ◌-◌, length}
use Rattle.sa_ir.specs.Naming.{before}
use Rattle.sa_ir.proofs.names.field_at.Given as goal

abbrev pub decreases-loop-high : goal.decreases-loop-high
decreases-loop-high l = l.high - l.low

abbrev pub invariant-loop-high : goal.invariant-loop-high
invariant-loop-high l = record {
  order : l.low < l.high;
  known : l.high < length l.extents;
  from : before l.extents l.low ≤ l.number;
  until : l.number < before l.extents l.high;
}
