use Rattle.std.proofs.Common.{◌≡◌, rules, refl, sym, subst, arith, inl, inr, true, []}
use Rattle.sa_shared.specs.Slots.{EachSlot}
use Rattle.sa_shared.specs.Tree.{values, tree_at, IsBalanced}
use Rattle.sa_shared.proofs.Lists.{of_halves, from_halves, each_self, no_slots}
use Rattle.sa_shared.proofs.nodes.Nodes.+le.Goals as goal
use Rattle.sa_shared.proofs.nodes.Nodes.+le.Goals.{then-a-b-via-then-a-b, then-a-b-via-else-a-b+then-slots-eq0}

pub returns-then-a-b : goal.returns-then-a-b
returns-then-a-b g t c =
    let below = g.T.Slot.below in
    let ta = tree_at c.args.self.now c.args.a in
    let tb = tree_at c.args.self.now c.args.b in
    let each : EachSlot below (values ta) (values tb) = elim c.then-a-b.either [
      | inl e ↦
          let valid = subst (λ n. EachSlot g.T.Slot.like (values ta) (values (tree_at c.args.self.now n))) (sym e) c.requires.alike in
          subst (λ n. EachSlot below (values ta) (values (tree_at c.args.self.now n))) e
          (each_self g.T.Slot.like below g.met.T.Slot.laws.below_self (values ta) valid)
      | inr w ↦ subst (λ l. EachSlot below l (values tb)) (sym (no_slots ta (subst (λ m. IsBalanced m ta) w.1 c.requires.first.balanced)))
          (subst (EachSlot below []) (sym (no_slots tb (subst (λ m. IsBalanced m tb) w.1 c.requires.second.balanced))) tt)
    ] in
    (λ _. each, λ _. refl)

pub le-requires-2 : goal.le-requires-2
le-requires-2 g t c κs within =
    let alike = of_halves c.args.slots c.args.a c.args.b _ _ _ _ _ _ c.halves-left.ensures.tree c.halves-other_left.ensures.tree
    c.halves-left.ensures.left.balanced c.halves-other_left.ensures.left.balanced g.T.Slot.like c.requires.alike in
    (omega arith, (search rules, (c.halves-left.ensures.left, (c.halves-other_left.ensures.left, alike.0))))

pub le-requires-then-le : goal.le-requires-then-le
le-requires-then-le g t c κs within =
    let alike = of_halves c.args.slots c.args.a c.args.b _ _ _ _ _ _ c.halves-left.ensures.tree c.halves-other_left.ensures.tree
    c.halves-left.ensures.left.balanced c.halves-other_left.ensures.left.balanced g.T.Slot.like c.requires.alike in
    (omega arith, (search rules, (c.halves-left.ensures.right, (c.halves-other_left.ensures.right, alike.1))))

pub returns-then-le : goal.returns-then-le
returns-then-le g t c =
    let left = c.le-2.ensures.0 c.if-le.true in (
      λ r. from_halves c.args.slots c.args.a c.args.b _ _ _ _ _ _ c.halves-left.ensures.tree c.halves-other_left.ensures.tree
          c.halves-left.ensures.left.balanced c.halves-other_left.ensures.left.balanced g.T.Slot.below left (c.le-then-le.ensures.0 r),
      λ each. c.le-then-le.ensures.1 (of_halves c.args.slots c.args.a c.args.b _ _ _ _ _ _ c.halves-left.ensures.tree c.halves-other_left.ensures.tree
          c.halves-left.ensures.left.balanced c.halves-other_left.ensures.left.balanced g.T.Slot.below each).1,
    )

pub returns-else-le : goal.returns-else-le
returns-else-le g t c = (
  λ r. absurd (let yes : c.le-2.result ≡ true = r in cc),
  λ each. c.le-2.ensures.1 (of_halves c.args.slots c.args.a c.args.b _ _ _ _ _ _ c.halves-left.ensures.tree c.halves-other_left.ensures.tree
      c.halves-left.ensures.left.balanced c.halves-other_left.ensures.left.balanced g.T.Slot.below each).0,
)
