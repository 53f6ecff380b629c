use Rattle.std.proofs.Common.{◌≡◌, ◌++◌, drop}
use Rattle.sa_operators.specs.Alarms.{noted}
use Rattle.sa_transfer.specs.Lists.{AreAfter, span_after, alarms_after, reached, indices_alarms, then_reached}
use Rattle.sa_transfer.proofs.values.+values.Given as goal

abbrev pub invariant-span_after-loop-link : goal.invariant-span_after-loop-link
invariant-span_after-loop-link l = record {
  value : span_after l.program l.env (drop l.link-index l.links) l.value ≡ span_after l.program l.env l.links l.initial.value;
  alarms : l.alarms.items ++ noted l.checking (alarms_after l.program l.env (drop l.link-index l.links) l.value)
      ≡ l.initial.alarms.items ++ noted l.checking (alarms_after l.program l.env l.links l.initial.value);
  rest : AreAfter l.program l.value (drop l.link-index l.links);
}

abbrev pub invariant-reached-loop-step : goal.invariant-reached-loop-step
invariant-reached-loop-step l = record {
  value : then_reached l.reaches (reached l.program l.env (drop l.step-index l.steps)) ≡ reached l.program l.env l.steps;
  alarms : l.alarms.items ++ noted l.checking (indices_alarms l.program l.env (drop l.step-index l.steps)) ≡ l.initial.alarms.items ++ noted l.checking (indices_alarms l.program l.env l.steps);
}
