use Rattle.std.proofs.Common.{length, ap, ◌∙◌, arith}
use Rattle.std.proofs.lemmas.List.{take_all}
use Rattle.sa_shared.specs.Copies.{filled}
use Rattle.sa_shared.specs.Forest.{reached}
use Rattle.sa_shared.proofs.Copying.{no_copies, none_reached, few_copies}
use Rattle.sa_shared.proofs.nodes.Nodes.copy_all.Goals as goal

pub copy_each-requires-clause-copies : goal.copy_each-requires-clause-copies
copy_each-requires-clause-copies g c =
    no_copies c.args.self.now c.new-nodes.result.items c.in-Some.count c.as_mut_slice.result.now (c.as_mut_slice.ensures.value ∙ c.in_ok-places.ensures)
    c.in-Some.ensures c.new-nodes.ensures.items

pub copy_each-requires-clause-reached : goal.copy_each-requires-clause-reached
copy_each-requires-clause-reached g c =
    none_reached c.args.self.now c.new-nodes.result.items c.args.roots.now c.in-Some.count c.as_mut_slice.result.now
    (c.as_mut_slice.ensures.value ∙ c.in_ok-places.ensures)

pub returns-clause-nodes : goal.returns-clause-nodes
returns-clause-nodes g c =
    let places = c.copy_each.new.places in
    let copies = c.in_ok-made.ensures.copies in
    let few = few_copies c.args.self.now c.args.roots.now places c.in_ok-made.ensures.reached (length places) (omega arith) in
    let whole = ap filled (take_all (length places) places (omega arith)) in
    let at = ap (reached c.args.self.now c.args.roots.now) copies.long in
    omega (arith, few, whole, at, copies.counted)
