use Rattle.std.proofs.Common.{◌≡◌, drop}
use Rattle.sa_unbuilt.specs.Unbuilt.{first_in, in_item}
use Rattle.sa_unbuilt.proofs.forms.+statements.Given as goal

abbrev pub invariant-check_items-loop-item : goal.invariant-check_items-loop-item
invariant-check_items-loop-item l = first_in in_item l.items ≡ first_in in_item (drop l.item-index l.items)
