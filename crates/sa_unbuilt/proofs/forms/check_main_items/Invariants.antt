use Rattle.std.proofs.Common.{◌≡◌, drop}
use Rattle.sa_unbuilt.specs.Unbuilt.{first_in, in_main_item}
use Rattle.sa_unbuilt.proofs.forms.check_main_items.Given as goal

abbrev pub invariant-loop-item : goal.invariant-loop-item
invariant-loop-item l = first_in in_main_item l.items ≡ first_in in_main_item (drop l.item-index l.items)
