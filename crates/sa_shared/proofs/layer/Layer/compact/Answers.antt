use Rattle.std.proofs.Common.{map, sym, ap, ◌∙◌, subst, arith}
use Rattle.std.specs.List.{All}
use Rattle.std.proofs.lemmas.List.Elements.{length_all_zip}
use Rattle.sa_shared.specs.Forest.{Forest, Belongs, list_of}
use Rattle.sa_shared.proofs.Copying.{lists_same, first_get}
use Rattle.sa_shared.proofs.Forests.{copied_belongs}
use Rattle.sa_shared.proofs.layer.Layer.compact.Goals as goal

pub invariant_of-result : goal.invariant_of-result
invariant_of-result g c =
    let like = g.T.Slot.like in
    let laws = g.met.T.Slot.laws in
    let s = c.self.inside in
    let made = c.in_ok-nodes.made.items in
    let first = c.index-first.result.now in
    let long = length_all_zip _ c.args.roots.now made c.in_ok-nodes.ensures.lists in
    let inside : Forest g.row.T.Denot = record { slots = s.slots; first = s.first; nodes = s.nodes } in
    let new : Forest g.row.T.Denot = record { slots = s.slots; first = first; nodes = c.in_ok-nodes.nodes.items } in
    let roots = subst (λ f. All (Belongs like f) c.args.roots.now) (sym c.self.view_is) c.requires.roots in
    let all = copied_belongs like laws.like_back laws.like_on inside c.in_ok-nodes.nodes.items first c.args.roots.now made
    roots c.in_ok-nodes.ensures.lists c.requires.some c.index-first.ensures in
    subst (λ r. Belongs like new r) (sym c.index-first.ensures) (all 0 first (omega (arith, long, c.requires.some)))

pub returns-clause-lists : goal.returns-clause-lists
returns-clause-lists g c =
    let s = c.self.inside in
    lists_same s.nodes c.in_ok-nodes.nodes.items s.slots c.args.roots.now c.in_ok-nodes.made.items c.in_ok-nodes.ensures.lists
    ∙ ap (λ f. map (list_of f) c.args.roots.now) c.self.view_is

pub returns-clause-roots : goal.returns-clause-roots
returns-clause-roots g c =
    let like = g.T.Slot.like in
    let laws = g.met.T.Slot.laws in
    let s = c.self.inside in
    let inside : Forest g.row.T.Denot = record { slots = s.slots; first = s.first; nodes = s.nodes } in
    let roots = subst (λ f. All (Belongs like f) c.args.roots.now) (sym c.self.view_is) c.requires.roots in
    copied_belongs like laws.like_back laws.like_on inside c.in_ok-nodes.nodes.items c.index-first.result.now c.args.roots.now c.in_ok-nodes.made.items
    roots c.in_ok-nodes.ensures.lists c.requires.some c.index-first.ensures

pub returns-clause-first : goal.returns-clause-first
returns-clause-first g c =
    let long = length_all_zip _ c.args.roots.now c.in_ok-nodes.made.items c.in_ok-nodes.ensures.lists in
    first_get c.in_ok-nodes.made.items c.index-first.result.now (omega (arith, long, c.requires.some)) c.index-first.ensures
