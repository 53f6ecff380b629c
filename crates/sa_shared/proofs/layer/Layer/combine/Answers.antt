use Rattle.std.proofs.Common.{◌≡◌, ℕ, ◌+◌, ◌-◌, ◌≤◌, length, sym, subst, arith}
use Rattle.sa_shared.specs.declared.nodes.Root.{Root}
use Rattle.sa_shared.specs.Slots.{EachSlot}
use Rattle.sa_shared.specs.Forest.{Forest, Belongs, list_of, tree_of}
use Rattle.sa_shared.specs.Tree.{IsTree, values, tree_at, differences}
use Rattle.sa_shared.specs.Walks.{AtEachSlot}
use Rattle.sa_shared.proofs.Lists.{each_between}
use Rattle.sa_shared.proofs.Forests.{belongs_now}
use Rattle.sa_shared.proofs.Combining.{at_both_slots, each_combined, at_most_differences}
use Rattle.sa_shared.proofs.layer.Layer.combine.Goals as goal

pub combine-requires-clause-alike : goal.combine-requires-clause-alike
combine-requires-clause-alike g c =
    let like = g.T.Slot.like in
    let laws = g.met.T.Slot.laws in
    let a = subst (λ f. Belongs like f c.args.a) (sym c.self.view_is) c.requires.first in
    let b = subst (λ f. Belongs like f c.args.b) (sym c.self.view_is) c.requires.second in
    each_between like laws.like_back laws.like_on _ _ _ a.alike b.alike

pub combine-requires-clause-fits : goal.combine-requires-clause-fits
combine-requires-clause-fits g c =
    let P = g.C.Combine.fits c.args.by.now in
    at_both_slots P _ _ (subst (λ f. AtEachSlot P (list_of f c.args.a) (list_of f c.args.b)) (sym c.self.view_is) c.requires.fits)

module _ where
  fewer : {T : Type 0} (f g : Forest T) (n : ℕ) (a b : Root) → f ≡ g → n ≤ length f.nodes + differences (tree_of f a) (tree_of f b)
      → n ≤ length g.nodes + differences (tree_of g a) (tree_of g b)
  fewer {T} f g n a b e h = subst (λ (x : Forest T). n ≤ length x.nodes + differences (tree_of x a) (tree_of x b)) e h

pub returns-in_err-node-clause-differences : goal.returns-in_err-node-clause-differences
returns-in_err-node-clause-differences g c =
    let s = c.self.inside in
    let most = at_most_differences (g.C.Combine.combined_of c.args.by.now) 0 (tree_at s.nodes c.args.a.node) (tree_at s.nodes c.args.b.node) in
    fewer _ _ (length c.combine.new.self) c.args.a c.args.b c.self.view_is (omega (arith, most, c.combine.ensures.nodes))

pub returns-clause-differences : goal.returns-clause-differences
returns-clause-differences g c =
    let s = c.self.inside in
    let most = at_most_differences (g.C.Combine.combined_of c.args.by.now) 0 (tree_at s.nodes c.args.a.node) (tree_at s.nodes c.args.b.node) in
    fewer _ _ (length c.combine.new.self) c.args.a c.args.b c.self.view_is (omega (arith, most, c.combine.ensures.nodes))

pub returns-clause-root : goal.returns-clause-root
returns-clause-root g c =
    let like = g.T.Slot.like in
    let laws = g.met.T.Slot.laws in
    let s = c.self.inside in
    let P = g.C.Combine.fits c.args.by.now in
    let a = subst (λ f. Belongs like f c.args.a) (sym c.self.view_is) c.requires.first in
    let b = subst (λ f. Belongs like f c.args.b) (sym c.self.view_is) c.requires.second in
    let fits = at_both_slots P _ _ (subst (λ f. AtEachSlot P (list_of f c.args.a) (list_of f c.args.b)) (sym c.self.view_is) c.requires.fits) in
    let list = values (tree_at s.nodes s.first.node) in
    let each = each_combined like laws.like_back laws.like_on P (g.C.Combine.combined_of c.args.by.now) (g.met.C.Combine.laws c.args.by.now).like 0 list
    (values (tree_at s.nodes c.args.a.node)) (values (tree_at s.nodes c.args.b.node)) a.alike b.alike fits in
    let all : s.slots - 0 ≡ s.slots = omega arith in
    let tree = subst (λ m. IsTree c.combine.new.self m c.in_ok-node.node) all c.in_ok-node.ensures.tree in
    belongs_now like s.slots s.first s.nodes c.combine.new.self c.in_ok-node.node c.self.invariant c.combine.ensures.older tree
    (subst (EachSlot like list) (sym c.in_ok-node.ensures.list) each)
