use Rattle.std.proofs.Common.{◌≡◌, drop}
use Rattle.sa_typed.specs.Links.{AreAfter, HaveTypes, value_after, ands_after, ors_after}
use Rattle.sa_typed.proofs.constants.+values.Given as goal

abbrev pub invariant-value_after-loop-link : goal.invariant-value_after-loop-link
invariant-value_after-loop-link l = record {
  value : value_after l.links l.initial.value ≡ value_after (drop l.link-index l.links) l.value;
  rest : AreAfter l.value (drop l.link-index l.links);
}

abbrev pub invariant-ands_after-loop-operand : goal.invariant-ands_after-loop-operand
invariant-ands_after-loop-operand l = record {
  value : ands_after l.operands l.initial.value ≡ ands_after (drop l.operand-index l.operands) l.value;
  rest : HaveTypes (drop l.operand-index l.operands);
}

abbrev pub invariant-ors_after-loop-operand : goal.invariant-ors_after-loop-operand
invariant-ors_after-loop-operand l = record {
  value : ors_after l.operands l.initial.value ≡ ors_after (drop l.operand-index l.operands) l.value;
  rest : HaveTypes (drop l.operand-index l.operands);
}
