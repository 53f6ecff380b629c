use Rattle.std.proofs.Common.{sym, subst}
use Rattle.sa_shared.specs.Slots.{EachSlot}
use Rattle.sa_shared.specs.Forest.{Forest, Belongs, Grows}
use Rattle.sa_shared.specs.Tree.{values, tree_at}
use Rattle.sa_shared.proofs.Lists.{each_between, each_joined}
use Rattle.sa_shared.proofs.Forests.{belongs_now, grows}
use Rattle.sa_shared.proofs.layer.Layer.join.Goals as goal

pub join-requires-clause-alike : goal.join-requires-clause-alike
join-requires-clause-alike g c =
    let like = g.T.Slot.like in
    let laws = g.met.T.Slot.laws in
    let a = subst (λ f. Belongs like f c.args.a) (sym c.self.view_is) c.requires.first in
    let b = subst (λ f. Belongs like f c.args.b) (sym c.self.view_is) c.requires.second in
    each_between like laws.like_back laws.like_on _ _ _ a.alike b.alike

pub returns-in_err-node-clause-older : goal.returns-in_err-node-clause-older
returns-in_err-node-clause-older g c =
    let s = c.self.inside in
    let inside : Forest g.row.T.Denot = record { slots = s.slots; first = s.first; nodes = c.join.new.self } in
    subst (λ f. Grows g.T.Slot.like f inside) c.self.view_is (grows g.T.Slot.like s.slots s.first s.nodes c.join.new.self c.self.invariant c.join.ensures.older)

pub returns-clause-root : goal.returns-clause-root
returns-clause-root g c =
    let like = g.T.Slot.like in
    let laws = g.met.T.Slot.laws in
    let s = c.self.inside in
    let a = subst (λ f. Belongs like f c.args.a) (sym c.self.view_is) c.requires.first in
    let b = subst (λ f. Belongs like f c.args.b) (sym c.self.view_is) c.requires.second in
    let list = values (tree_at s.nodes s.first.node) in
    let each = each_joined like laws.like_back laws.like_on g.T.Slot.join_of laws.join_like list _ _ a.alike b.alike in
    belongs_now like s.slots s.first s.nodes c.join.new.self c.in_ok-node.node c.self.invariant c.join.ensures.older c.in_ok-node.ensures.tree
    (subst (EachSlot like list) (sym c.in_ok-node.ensures.join) each)

pub returns-clause-older : goal.returns-clause-older
returns-clause-older g c =
    let s = c.self.inside in
    let inside : Forest g.row.T.Denot = record { slots = s.slots; first = s.first; nodes = c.join.new.self } in
    subst (λ f. Grows g.T.Slot.like f inside) c.self.view_is (grows g.T.Slot.like s.slots s.first s.nodes c.join.new.self c.self.invariant c.join.ensures.older)
