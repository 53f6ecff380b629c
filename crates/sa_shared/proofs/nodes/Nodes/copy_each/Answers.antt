use Rattle.std.proofs.Common.{◌<◌, [], ◌∷◌, ◌++◌, length, take, sym, subst, arith}
use Rattle.std.specs.Prelude.{slice_index_or}
use Rattle.std.specs.List.{AllZip}
use Rattle.std.proofs.lemmas.List.{take_more}
use Rattle.std.proofs.lemmas.List.Elements.{AllZip-push}
use Rattle.sa_shared.specs.declared.nodes.Root.{Root}
use Rattle.sa_shared.specs.Copies.{IsSameList}
use Rattle.sa_shared.proofs.Copying.{kept_lists, more_reached}
use Rattle.sa_shared.proofs.nodes.Nodes.copy_each.Goals as goal

pub loop-root-preserved : goal.loop-root-preserved
loop-root-preserved g c =
    let roots = c.args.roots.now in
    let i = c.loop-root.root-index in
    let none : Root = record { node = 0 } in
    let old : Root = slice_index_or roots i none in
    let new : Root = record { node = c.in_ok-node.node } in
    let less : i < length roots = omega arith in
    let made = c.loop-root.made.items in
    let R = IsSameList {T = g.row.T.Denot} c.args.self.now c.copy.new.nodes.items c.args.slots in
    let before = kept_lists c.args.self.now c.loop-root.nodes.items c.copy.new.nodes.items c.args.slots (take i roots) made c.copy.ensures.older c.loop-root.invariant.lists in
    let here : R old new = record { tree = c.in_ok-node.ensures.tree; list = c.in_ok-node.ensures.list } in
    let all = AllZip-push R (take i roots) made old new before here in
    record {
      copies = c.in_ok-node.ensures.copies;
      lists = subst (λ rs. AllZip R rs c.push.new.self.items) (sym (take_more roots i none less))
          (subst (AllZip R (take i roots ++ old ∷ [])) (sym c.in_ok-push.ensures.items) all);
      reached = more_reached c.args.self.now roots i none c.loop-root.places c.copy.new.places less c.loop-root.invariant.reached c.in_ok-node.ensures.within;
    }
