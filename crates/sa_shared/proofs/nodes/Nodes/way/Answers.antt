use Rattle.std.proofs.Common.{◌≡◌, ◌-◌, ◌/◌, ◌∷◌, reverse, sym, ap, ◌∙◌, subst, arith}
use Rattle.std.proofs.lemmas.List.{reverse-append, length-reverse}
use Rattle.sa_shared.specs.declared.way.Side.TheVariants.{Right}
use Rattle.sa_shared.specs.Tree.{IsBalanced, tree_at}
use Rattle.sa_shared.specs.Way.{IsWay}
use Rattle.sa_shared.proofs.Ways.{counted, one_node, right_down}
use Rattle.sa_shared.proofs.nodes.Nodes.way.Goals as goal

pub down-preserved : goal.down-preserved
down-preserved g c =
    let nodes = c.args.self.now in
    let w = c.down.width in
    let r = c.halves-left.result.1 in
    let k = c.down.place - (w - w / 2) in
    let sides : reverse c.push-else-place-front.new.self.items ≡ Right c.halves-left.result.0 ∷ reverse c.down.way.items =
    ap reverse c.in_ok-push-2.ensures.ok ∙ reverse-append c.down.way.items _ in
    record {
      tree = c.halves-left.ensures.right;
      within = omega arith;
      leads = subst (λ ts. IsWay nodes c.args.slots (tree_at nodes c.args.root) c.args.slot ts (w / 2) (tree_at nodes r) k) (sym sides)
          (right_down nodes c.args.slots (tree_at nodes c.args.root) c.args.slot (reverse c.down.way.items) w c.down.number c.halves-left.result.0 r c.down.place
          (omega arith) c.halves-left.ensures.tree (omega arith) c.down.invariant.leads);
    }

pub returns-clause-length : goal.returns-clause-length
returns-clause-length g c =
    let nodes = c.args.self.now in
    let part = tree_at nodes c.down.number in
    let one : c.down.width ≡ 1 = omega arith in
    let all = counted nodes c.args.slots (tree_at nodes c.args.root) c.args.slot c.requires.tree.balanced (reverse c.down.way.items) c.down.width c.down.place part
    c.down.invariant.leads in
    let last = one_node part c.down.place (subst (λ m. IsBalanced m part) one c.down.invariant.tree.balanced) in
    omega (arith, all, last, length-reverse c.down.way.items)
