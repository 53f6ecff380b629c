use Rattle.std.proofs.lemmas.List.Elements.{All-map}
use Rattle.sa_typed.specs.Ranges.{AreSpans}
use Rattle.sa_typed.proofs.ranges.Ranges.of.Goals as goal

pub invariant_of-result : goal.invariant_of-result
invariant_of-result c = record { clock = c.requires.clock; spans = All-map AreSpans (λ v. v.items) c.args.inputs.items c.requires.spans }
