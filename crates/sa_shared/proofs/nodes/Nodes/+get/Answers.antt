use Rattle.std.proofs.Common.{◌≡◌, ◌-◌, ◌/◌, slice_get, length, ap, ◌∙◌, arith}
use Rattle.sa_shared.specs.Tree.{values, tree_at}
use Rattle.sa_shared.proofs.Unfolding.{size}
use Rattle.sa_shared.proofs.Lists.{get_behind}
use Rattle.sa_shared.proofs.nodes.Nodes.+get.Goals as goal

pub returns-else-slot-front : goal.returns-else-slot-front
returns-else-slot-front g t c =
    let nodes = c.args.self.now in
    let left = tree_at nodes c.halves-left.result.0 in
    let long : length (values left) ≡ c.args.slots - c.args.slots / 2 = size left _ c.halves-left.ensures.left.balanced in
    ap (λ t. slice_get (values t) c.args.slot) c.halves-left.ensures.tree
    ∙ get_behind (values left) (values (tree_at nodes c.halves-left.result.1)) c.args.slot (omega arith)
    ∙ ap (λ n. slice_get (values (tree_at nodes c.halves-left.result.1)) (c.args.slot - n)) long
    ∙ c.get-else-slot-front.ensures
