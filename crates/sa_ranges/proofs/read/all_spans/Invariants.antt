use Rattle.std.proofs.Common.{◌≡◌, ◌++◌, drop, map}
use Rattle.sa_ranges.specs.Keys.{members_in}
use Rattle.sa_ranges.specs.Answer.{spans_for}
use Rattle.sa_ranges.proofs.read.all_spans.Given as goal

abbrev pub invariant-loop-input : goal.invariant-loop-input
invariant-loop-input l = map (λ v. v.items) l.all.items ++ map (spans_for l.version (members_in l.named)) (drop l.input-index l.inputs) ≡ map (spans_for l.version (members_in l.named)) l.inputs
