use Rattle.std.proofs.Common.{◌≡◌, drop}
use Rattle.sa_typed.specs.Links.{all_constant, are_constant}
use Rattle.sa_typed.proofs.constants.+constants.Given as goal

abbrev pub invariant-all_constant-loop-link : goal.invariant-all_constant-loop-link
invariant-all_constant-loop-link l = all_constant l.links ≡ all_constant (drop l.link-index l.links)

abbrev pub invariant-are_constant-loop-operand : goal.invariant-are_constant-loop-operand
invariant-are_constant-loop-operand l = are_constant l.operands ≡ are_constant (drop l.operand-index l.operands)
