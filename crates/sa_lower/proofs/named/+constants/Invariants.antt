use Rattle.std.proofs.Common.{◌≡◌, drop}
use Rattle.sa_lower.specs.Rows.{all_are_constant, links_are_constant}
use Rattle.sa_lower.proofs.named.+constants.Given as goal

abbrev pub invariant-all_are_constant-loop-operand : goal.invariant-all_are_constant-loop-operand
invariant-all_are_constant-loop-operand l = all_are_constant l.operands ≡ all_are_constant (drop l.operand-index l.operands)

abbrev pub invariant-links_are_constant-loop-link : goal.invariant-links_are_constant-loop-link
invariant-links_are_constant-loop-link l = links_are_constant l.links ≡ links_are_constant (drop l.link-index l.links)
