use Rattle.std.proofs.Common.{◌≡◌, ◌++◌}
use Rattle.sa_ir.specs.Naming.{inside_layout, IsInside, inside_name, depth}
use Rattle.sa_ir.proofs.names.push_steps.Given as goal

abbrev pub decreases-loop-next : goal.decreases-loop-next
decreases-loop-next l = depth (inside_layout l.program l.at)

abbrev pub invariant-loop-next : goal.invariant-loop-next
invariant-loop-next l = record {
  inside : IsInside l.program l.at;
  text : l.text.items ++ inside_name l.program l.at ≡ l.initial.text.items ++ inside_name l.program l.initial.at;
}
