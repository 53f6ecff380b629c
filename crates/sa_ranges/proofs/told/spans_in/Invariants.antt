use Rattle.std.proofs.Common.{◌≡◌, ◌++◌, drop, option_map}
use Rattle.serde_json.specs.View.{items_view}
use Rattle.sa_ranges.specs.Told.{spans_in}
use Rattle.sa_ranges.proofs.told.spans_in.Given as goal

abbrev pub invariant-loop-item : goal.invariant-loop-item
invariant-loop-item l = option_map (λ ss. l.spans.items ++ ss) (spans_in (items_view (drop l.item-index l.items))) ≡ spans_in (items_view l.items)
