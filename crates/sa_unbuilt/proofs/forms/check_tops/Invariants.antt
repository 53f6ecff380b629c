use Rattle.std.proofs.Common.{◌≡◌, drop}
use Rattle.sa_unbuilt.specs.Unbuilt.{first_in, in_top}
use Rattle.sa_unbuilt.proofs.forms.check_tops.Given as goal

abbrev pub invariant-loop-item : goal.invariant-loop-item
invariant-loop-item l = first_in in_top l.items ≡ first_in in_top (drop l.item-index l.items)
