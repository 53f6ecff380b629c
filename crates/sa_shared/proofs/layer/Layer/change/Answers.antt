use Rattle.std.proofs.Common.{◌≡◌, ◌-◌, sym, subst, arith}
use Rattle.sa_shared.specs.Slots.{EachSlot}
use Rattle.sa_shared.specs.Forest.{Belongs, list_of}
use Rattle.sa_shared.specs.Tree.{IsTree, values, tree_at}
use Rattle.sa_shared.specs.Walks.{InRange, Within, in_range}
use Rattle.sa_shared.proofs.Forests.{belongs_now}
use Rattle.sa_shared.proofs.Walking.{at_within, each_changed, like_in_range}
use Rattle.sa_shared.proofs.layer.Layer.change.Goals as goal

pub change-requires-clause-fits : goal.change-requires-clause-fits
change-requires-clause-fits g c =
    let a = c.args in
    let fits = subst (λ f. InRange a.from a.to (g.C.Change.fits a.by.now) (list_of f a.r)) (sym c.self.view_is) c.requires.fits in
    at_within a.from a.to (g.C.Change.fits a.by.now) _ fits

pub returns-clause-root : goal.returns-clause-root
returns-clause-root g c =
    let a = c.args in
    let like = g.T.Slot.like in
    let laws = g.met.T.Slot.laws in
    let s = c.self.inside in
    let P = g.C.Change.fits a.by.now in
    let f = g.C.Change.changed_of a.by.now in
    let r = subst (λ f. Belongs like f a.r) (sym c.self.view_is) c.requires.root in
    let fits = subst (λ f. InRange a.from a.to P (list_of f a.r)) (sym c.self.view_is) c.requires.fits in
    let first = values (tree_at s.nodes s.first.node) in
    let old = values (tree_at s.nodes a.r.node) in
    let each = each_changed like laws.like_back laws.like_on (Within a.from a.to P) (in_range a.from a.to f)
    (like_in_range like a.from a.to P f (g.met.C.Change.laws a.by.now)) 0 first old r.alike (at_within a.from a.to P old fits) in
    let all : s.slots - 0 ≡ s.slots = omega arith in
    let tree = subst (λ m. IsTree c.change.new.self m c.in_ok-node.node) all c.in_ok-node.ensures.tree in
    belongs_now like s.slots s.first s.nodes c.change.new.self c.in_ok-node.node c.self.invariant c.change.ensures.older tree
    (subst (EachSlot like first) (sym c.in_ok-node.ensures.list) each)
