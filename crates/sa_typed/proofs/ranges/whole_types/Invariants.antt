use Rattle.std.proofs.Common.{◌≡◌, ◌++◌, drop, map}
use Rattle.sa_typed.specs.Ranges.{whole_type}
use Rattle.sa_typed.proofs.ranges.whole_types.Given as goal

abbrev pub invariant-loop-input : goal.invariant-loop-input
invariant-loop-input l = map (λ v. v.items) l.spans.items ++ map whole_type (drop l.input-index l.inputs) ≡ map whole_type l.inputs
