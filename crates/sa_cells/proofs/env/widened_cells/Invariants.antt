use Rattle.std.proofs.Common.{◌≡◌, ◌++◌, drop, take}
use Rattle.sa_typed.specs.Cells.{cells}
use Rattle.sa_reference.specs.Environments.{widened_spans}
use Rattle.sa_reference.specs.Fair.{AreIn}
use Rattle.sa_cells.proofs.env.widened_cells.Given as goal

abbrev pub invariant-loop-k : goal.invariant-loop-k
invariant-loop-k l = record {
  value : l.spans.items ++ widened_spans l.thresholds l.pass (drop l.k l.tops) (drop l.k l.a) (drop l.k l.b) ≡ widened_spans l.thresholds l.pass l.tops l.a l.b;
  kept : AreIn (take l.k (cells l.fn.program)) l.spans.items;
}
