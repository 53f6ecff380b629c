use Rattle.std.proofs.Common.{◌≡◌, length, sym, subst, arith}
use Rattle.std.proofs.lemmas.List.Elements.{length_all_zip}
use Rattle.sa_shared.specs.Slots.{EachSlot}
use Rattle.sa_shared.specs.Forest.{list_of}
use Rattle.sa_shared.specs.Tree.{values, tree_at}
use Rattle.sa_shared.proofs.Unfolding.{size}
use Rattle.sa_shared.proofs.Forests.{belongs_now, of_list}
use Rattle.sa_shared.proofs.layer.Layer.put.Goals as goal

pub build-requires : goal.build-requires
build-requires g c =
    let s = c.self.inside in
    let alike = subst (λ f. EachSlot g.T.Slot.like (list_of f f.first) c.args.list.items) (sym c.self.view_is) c.requires.alike in
    let long = length_all_zip g.T.Slot.like _ c.args.list.items alike in
    omega (arith, long, size (tree_at s.nodes s.first.node) s.slots c.self.invariant.balanced)

pub returns-clause-root : goal.returns-clause-root
returns-clause-root g c =
    let like = g.T.Slot.like in
    let s = c.self.inside in
    let made = c.in_ok-node in
    let list = values (tree_at s.nodes s.first.node) in
    let alike = subst (λ f. EachSlot like (list_of f f.first) c.args.list.items) (sym c.self.view_is) c.requires.alike in
    let long = length_all_zip like list c.args.list.items alike in
    let slots : s.slots ≡ length c.args.list.items = omega (arith, long, size (tree_at s.nodes s.first.node) s.slots c.self.invariant.balanced) in
    let is = of_list s.slots made.node c.build.new.self c.args.list.items c.build.new.list.items made.ensures.tree made.ensures.list slots in
    belongs_now like s.slots s.first s.nodes c.build.new.self made.node c.self.invariant c.build.ensures.older made.ensures.tree
    (subst (EachSlot like list) (sym is) alike)

pub returns-clause-list : goal.returns-clause-list
returns-clause-list g c =
    let s = c.self.inside in
    let made = c.in_ok-node in
    let alike = subst (λ f. EachSlot g.T.Slot.like (list_of f f.first) c.args.list.items) (sym c.self.view_is) c.requires.alike in
    let long = length_all_zip g.T.Slot.like _ c.args.list.items alike in
    let slots : s.slots ≡ length c.args.list.items = omega (arith, long, size (tree_at s.nodes s.first.node) s.slots c.self.invariant.balanced) in
    of_list s.slots made.node c.build.new.self c.args.list.items c.build.new.list.items made.ensures.tree made.ensures.list slots
