use Rattle.std.proofs.Common.{◌≡◌, ◌-◌, ◌++◌}
use Rattle.sa_ir.specs.Slots.{run, stops}
use Rattle.sa_ir.proofs.slots.push_run.Given as goal

abbrev pub invariant-loop : goal.invariant-loop
invariant-loop l = record {
  run : l.all.items ++ run l.len l.width (l.n - l.counter) l.at ≡ l.initial.all.items ++ run l.len l.width l.n l.fn.from;
  stops : stops l.len l.width (l.n - l.counter) l.at ≡ stops l.len l.width l.n l.fn.from;
}
