use Rattle.std.proofs.Common.{◌≡◌, ◌++◌, drop, flat_map}
use Rattle.sa_listing.specs.Texts.{indented}
use Rattle.sa_listing.proofs.texts.push_lines.Given as goal

abbrev pub invariant-loop-line : goal.invariant-loop-line
invariant-loop-line l = l.text.items ++ flat_map indented (drop l.line-index l.lines) ≡ l.initial.text.items ++ flat_map indented l.lines
