use Rattle.std.proofs.Common.{◌≡◌, drop}
use Rattle.sa_transfer.specs.Lists.{copied_by}
use Rattle.sa_transfer.proofs.cells.copy_by.Given as goal

abbrev pub invariant-loop-i : goal.invariant-loop-i
invariant-loop-i l = copied_by l.starred (drop l.i l.ks) (drop l.i l.new) l.spans ≡ copied_by l.starred l.ks l.new l.initial.spans
