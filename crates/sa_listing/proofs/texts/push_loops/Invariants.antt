use Rattle.std.proofs.Common.{◌≡◌, ◌++◌, drop, flat_map}
use Rattle.sa_listing.specs.Texts.{loop_text}
use Rattle.sa_listing.proofs.texts.push_loops.Given as goal

abbrev pub invariant-loop-report : goal.invariant-loop-report
invariant-loop-report l = l.text.items ++ flat_map loop_text (drop l.report-index l.loops) ≡ l.initial.text.items ++ flat_map loop_text l.loops
