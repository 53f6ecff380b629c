use Rattle.std.proofs.Common.{◌+◌, ◌^◌, length, sym, subst, arith}
use Rattle.std.specs.Prelude.{slice_index_or}
use Rattle.sa_shared.specs.Slots.{EachSlot}
use Rattle.sa_shared.specs.Forest.{Belongs, list_of}
use Rattle.sa_shared.specs.Tree.{values, tree_at}
use Rattle.sa_shared.proofs.Depth.{way_within, slots_of, nodes_of}
use Rattle.sa_shared.proofs.Lists.{each_set}
use Rattle.sa_shared.proofs.Forests.{belongs_now}
use Rattle.sa_shared.proofs.layer.Layer.set.Goals as goal

pub returns-clause-root : goal.returns-clause-root
returns-clause-root g c =
    let like = g.T.Slot.like in
    let laws = g.met.T.Slot.laws in
    let s = c.self.inside in
    let r = subst (λ f. Belongs like f c.args.r) (sym c.self.view_is) c.requires.root in
    let v = subst (λ f. like c.args.v (slice_index_or (list_of f c.args.r) c.args.slot c.args.v)) (sym c.self.view_is) c.requires.like in
    let list = values (tree_at s.nodes s.first.node) in
    let each = each_set like laws.like_back laws.like_on list (values (tree_at s.nodes c.args.r.node)) c.args.slot c.args.v r.alike v in
    belongs_now like s.slots s.first s.nodes c.set.new.self c.in_ok-node.node c.self.invariant c.set.ensures.older c.in_ok-node.ensures.tree
    (subst (EachSlot like list) (sym c.in_ok-node.ensures.list) each)

pub returns-clause-depth : goal.returns-clause-depth
returns-clause-depth g c = λ d few.
    let r = subst (λ f. Belongs g.T.Slot.like f c.args.r) (sym c.self.view_is) c.requires.root in
    let slots = slots_of _ _ (2 ^ d) c.self.view_is few in
    let way = way_within d c.self.inside.slots c.args.slot (tree_at c.self.inside.nodes c.args.r.node) r.balanced slots in
    nodes_of _ _ (length c.set.new.self) (d + 1) c.self.view_is (omega (arith, way, c.set.ensures.nodes))

pub returns-in_err-node-clause-depth : goal.returns-in_err-node-clause-depth
returns-in_err-node-clause-depth g c = λ d few.
    let r = subst (λ f. Belongs g.T.Slot.like f c.args.r) (sym c.self.view_is) c.requires.root in
    let slots = slots_of _ _ (2 ^ d) c.self.view_is few in
    let way = way_within d c.self.inside.slots c.args.slot (tree_at c.self.inside.nodes c.args.r.node) r.balanced slots in
    nodes_of _ _ (length c.set.new.self) (d + 1) c.self.view_is (omega (arith, way, c.set.ensures.nodes))
