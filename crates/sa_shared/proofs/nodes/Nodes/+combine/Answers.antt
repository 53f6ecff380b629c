use Rattle.std.proofs.Common.{rules, ◌≡◌, ◌+◌, ◌-◌, ◌++◌, [], ◌∷◌, length, refl, sym, ap, ◌∙◌, subst, arith, inl, inr}
use Rattle.std.specs.Prelude.{unwrap_or}
use Rattle.sa_shared.specs.Slots.{EachSlot}
use Rattle.sa_shared.specs.Tree.{IsBalanced, tree_at, values}
use Rattle.sa_shared.specs.Walks.{AtBoth, IsKept, combined, combines, with_above}
use Rattle.sa_shared.proofs.Combining.{combined_self, combined_none, combined_one, combines_equal, combines_none, leaf_pair, both_left, both_right, combined_halves, combines_halves}
use Rattle.sa_shared.proofs.Counts.{at_most_above, kept_above, few_above}
use Rattle.sa_shared.proofs.Halves.{left_half, right_half}
use Rattle.sa_shared.proofs.Lists.{if_ok_on, of_halves, no_slots}
use Rattle.sa_shared.proofs.Unfolding.{tree_kept}
use Rattle.sa_shared.proofs.nodes.Nodes.+combine.Goals as goal

pub returns-then-a-b-clause-list : goal.returns-then-a-b-clause-list
returns-then-a-b-clause-list g t c =
    let a = c.args in
    let f = g.C.Combine.combined_of a.by.now in
    let P = g.C.Combine.fits a.by.now in
    let ta = tree_at a.self.now a.a in
    let tb = tree_at a.self.now a.b in
    elim c.then-a-b.either [
      | inl e ↦
          let valid = subst (λ n. EachSlot g.T.Slot.like (values ta) (values (tree_at a.self.now n))) (sym e) c.requires.alike in
          let fits = subst (λ n. AtBoth P a.over.from (values ta) (values (tree_at a.self.now n))) (sym e) c.requires.fits in
          sym (combined_self g.T.Slot.like P f (g.met.C.Combine.laws a.by.now).same a.over.from (values ta) valid fits)
          ∙ ap (λ n. combined f a.over.from (values ta) (values (tree_at a.self.now n))) e
      | inr w ↦
          let none : a.over.to - a.over.from ≡ 0 = omega (arith, w.1, c.slots-slots.ensures) in
          sym (combined_none f a.over.from (values ta) (values tb) (no_slots ta (subst (λ m. IsBalanced m ta) none c.requires.first.balanced)))
    ]

pub returns-then-a-b-clause-kept : goal.returns-then-a-b-clause-kept
returns-then-a-b-clause-kept g t c =
    let a = c.args in
    let f = g.C.Combine.combined_of a.by.now in
    let ta = tree_at a.self.now a.a in
    elim c.then-a-b.either [
      | inl e ↦ inl (combines_equal f a.over.from a.self.now a.a a.b e, refl)
      | inr w ↦
          let none : a.over.to - a.over.from ≡ 0 = omega (arith, w.1, c.slots-slots.ensures) in
          inl (combines_none f a.over.from ta (tree_at a.self.now a.b) (subst (λ m. IsBalanced m ta) none c.requires.first.balanced), refl)
    ]

pub returns-then-slots-eq1-clause-list : goal.returns-then-slots-eq1-clause-list
returns-then-slots-eq1-clause-list g t c =
    let a = c.args in
    let x = c.value.result.now in
    let y = c.value-then-slots-eq1.result.now in
    let f = g.C.Combine.combined_of a.by.now in
    let list : combined f a.over.from (values (tree_at a.self.now a.a)) (values (tree_at a.self.now a.b)) ≡ unwrap_or c.in_ok-value.value x ∷ [] =
    ap (λ t. combined f a.over.from (values t) (values (tree_at a.self.now a.b))) c.value.ensures
    ∙ ap (λ t. combined f a.over.from (x ∷ []) (values t)) c.value-then-slots-eq1.ensures ∙ combined_one f a.over.from x y
    ∙ ap (λ v. unwrap_or v x ∷ []) (sym c.in_ok-value.ensures) in
    if_ok_on c.with_value.result _ _ c.with_value.ensures.list (λ n h. h x (ap values c.value.ensures) ∙ sym list)

pub returns-then-slots-eq1-clause-nodes : goal.returns-then-slots-eq1-clause-nodes
returns-then-slots-eq1-clause-nodes g t c =
    let a = c.args in
    let f = g.C.Combine.combined_of a.by.now in
    let one = leaf_pair f a.over.from _ _ a.a a.b c.value.result.now c.value-then-slots-eq1.result.now c.in_ok-value.value c.value.ensures c.value-then-slots-eq1.ensures
    (λ e. c.if-a-b.false e) c.in_ok-value.ensures in
    omega (arith, one, c.with_value.ensures.nodes)

pub returns-then-slots-eq1-clause-kept : goal.returns-then-slots-eq1-clause-kept
returns-then-slots-eq1-clause-kept g t c =
    let a = c.args in
    let f = g.C.Combine.combined_of a.by.now in
    let one = leaf_pair f a.over.from _ _ a.a a.b c.value.result.now c.value-then-slots-eq1.result.now c.in_ok-value.value c.value.ensures c.value-then-slots-eq1.ensures
    (λ e. c.if-a-b.false e) c.in_ok-value.ensures in
    if_ok_on c.with_value.result _ _ c.with_value.ensures.kept (λ n h. subst (λ m. IsKept m a.a (length a.self.now) n) (sym one) h)

pub combine-requires : goal.combine-requires
combine-requires g t c κs within =
    let a = c.args in
    let h = c.halves-left.ensures in
    let o = c.halves-other_left.ensures in
    let m = c.middle-middle in
    let s = c.slots-slots in
    let first = left_half a.self.now a.over.from a.over.to m.result s.result a.a c.halves-left.result.0 c.halves-left.result.1
    c.requires.order s.ensures m.ensures h.tree h.left h.right in
    let second = left_half a.self.now a.over.from a.over.to m.result s.result a.b c.halves-other_left.result.0 c.halves-other_left.result.1
    c.requires.order s.ensures m.ensures o.tree o.left o.right in
    let alike = of_halves s.result a.a a.b _ _ _ _ _ _ h.tree o.tree h.left.balanced o.left.balanced g.T.Slot.like c.requires.alike in
    let fits = both_left a.self.now a.over.from a.over.to m.result s.result a.a c.halves-left.result.0 c.halves-left.result.1
    a.b c.halves-other_left.result.0 c.halves-other_left.result.1 c.requires.order s.ensures m.ensures h.tree o.tree h.left o.left (g.C.Combine.fits a.by.now) c.requires.fits in
    (omega arith, (search rules, (search rules, (first, (second, (omega arith, (alike.0, fits)))))))

pub combine-requires-2 : goal.combine-requires-2
combine-requires-2 g t c κs within =
    let a = c.args in
    let h = c.halves-left.ensures in
    let o = c.halves-other_left.ensures in
    let m = c.middle-middle in
    let s = c.slots-slots in
    let older = c.combine.ensures.older in
    let P = g.C.Combine.fits a.by.now in
    let first = right_half a.self.now a.over.from a.over.to m.result s.result a.a c.halves-left.result.0 c.halves-left.result.1
    c.requires.order s.ensures m.ensures h.tree h.left h.right in
    let second = right_half a.self.now a.over.from a.over.to m.result s.result a.b c.halves-other_left.result.0 c.halves-other_left.result.1
    c.requires.order s.ensures m.ensures o.tree o.left o.right in
    let alike = of_halves s.result a.a a.b _ _ _ _ _ _ h.tree o.tree h.left.balanced o.left.balanced g.T.Slot.like c.requires.alike in
    let fits = both_right a.self.now a.over.from a.over.to m.result s.result a.a c.halves-left.result.0 c.halves-left.result.1
    a.b c.halves-other_left.result.0 c.halves-other_left.result.1 c.requires.order s.ensures m.ensures h.tree o.tree h.left o.left P c.requires.fits in
    let r = h.right.inside in
    let v = o.right.inside in
    let new = c.combine.new.self in
    let alike_here = subst (λ x. EachSlot g.T.Slot.like (values x) (values (tree_at a.self.now c.halves-other_left.result.1))) (sym (older.trees _ r)) alike.1 in
    let alike_there = subst (λ x. EachSlot g.T.Slot.like (values (tree_at new c.halves-left.result.1)) (values x)) (sym (older.trees _ v)) alike_here in
    let fits_here = subst (λ x. AtBoth P m.result (values x) (values (tree_at a.self.now c.halves-other_left.result.1))) (sym (older.trees _ r)) fits in
    let fits_there = subst (λ x. AtBoth P m.result (values (tree_at new c.halves-left.result.1)) (values x)) (sym (older.trees _ v)) fits_here in
    (omega arith, (search rules, (search rules, (tree_kept _ _ _ _ older first, (tree_kept _ _ _ _ older second, (omega arith, (alike_there, fits_there)))))))

pub returns-in_err-new_left-clause-nodes : goal.returns-in_err-new_left-clause-nodes
returns-in_err-new_left-clause-nodes g t c =
    let a = c.args in
    let h = c.halves-left.ensures in
    let o = c.halves-other_left.ensures in
    let m = c.middle-middle in
    let s = c.slots-slots in
    let f = g.C.Combine.combined_of a.by.now in
    let l = combines f a.over.from (tree_at a.self.now c.halves-left.result.0) (tree_at a.self.now c.halves-other_left.result.0) in
    let r = combines f m.result (tree_at a.self.now c.halves-left.result.1) (tree_at a.self.now c.halves-other_left.result.1) in
    let both = combines_halves a.self.now a.over.from a.over.to m.result s.result a.a c.halves-left.result.0 c.halves-left.result.1
    a.b c.halves-other_left.result.0 c.halves-other_left.result.1 c.requires.order s.ensures m.ensures h.tree o.tree h.left o.left f (λ e. c.if-a-b.false e) in
    omega (arith, both, at_most_above (l + r), c.combine.ensures.nodes)

pub returns-in_err-new_right-clause-nodes : goal.returns-in_err-new_right-clause-nodes
returns-in_err-new_right-clause-nodes g t c =
    let a = c.args in
    let h = c.halves-left.ensures in
    let o = c.halves-other_left.ensures in
    let m = c.middle-middle in
    let s = c.slots-slots in
    let f = g.C.Combine.combined_of a.by.now in
    let older = c.combine.ensures.older in
    let l = combines f a.over.from (tree_at a.self.now c.halves-left.result.0) (tree_at a.self.now c.halves-other_left.result.0) in
    let r = combines f m.result (tree_at a.self.now c.halves-left.result.1) (tree_at a.self.now c.halves-other_left.result.1) in
    let both = combines_halves a.self.now a.over.from a.over.to m.result s.result a.a c.halves-left.result.0 c.halves-left.result.1
    a.b c.halves-other_left.result.0 c.halves-other_left.result.1 c.requires.order s.ensures m.ensures h.tree o.tree h.left o.left f (λ e. c.if-a-b.false e) in
    let same = ap (λ x. combines f m.result x (tree_at c.combine.new.self c.halves-other_left.result.1)) (older.trees _ h.right.inside)
    ∙ ap (combines f m.result (tree_at a.self.now c.halves-left.result.1)) (older.trees _ o.right.inside) in
    omega (arith, both, same, at_most_above (l + r), c.combine.ensures.nodes, c.combine-2.ensures.nodes)

pub returns-clause-list : goal.returns-clause-list
returns-clause-list g t c =
    let a = c.args in
    let h = c.halves-left.ensures in
    let o = c.halves-other_left.ensures in
    let m = c.middle-middle in
    let s = c.slots-slots in
    let f = g.C.Combine.combined_of a.by.now in
    let older = c.combine.ensures.older in
    let both = combined_halves a.self.now a.over.from a.over.to m.result s.result a.a c.halves-left.result.0 c.halves-left.result.1
    a.b c.halves-other_left.result.0 c.halves-other_left.result.1 c.requires.order s.ensures m.ensures h.tree o.tree h.left o.left f in
    let new_right = values (tree_at c.combine-2.new.self c.in_ok-new_right.new_right) in
    let front = combined f a.over.from (values (tree_at a.self.now c.halves-left.result.0)) (values (tree_at a.self.now c.halves-other_left.result.0)) in
    let first : values (tree_at c.combine-2.new.self c.in_ok-new_left.new_left) ≡ front =
    ap values (c.combine-2.ensures.older.trees _ c.in_ok-new_left.ensures.tree.inside) ∙ c.in_ok-new_left.ensures.list in
    let second : new_right ≡ combined f m.result (values (tree_at a.self.now c.halves-left.result.1)) (values (tree_at a.self.now c.halves-other_left.result.1)) =
    c.in_ok-new_right.ensures.list
    ∙ ap (λ x. combined f m.result (values x) (values (tree_at c.combine.new.self c.halves-other_left.result.1))) (older.trees _ h.right.inside)
    ∙ ap (λ x. combined f m.result (values (tree_at a.self.now c.halves-left.result.1)) (values x)) (older.trees _ o.right.inside) in
    if_ok_on c.with_halves.result _ _ c.with_halves.ensures.list
    (λ n made. made ∙ ap (λ l. l ++ new_right) first ∙ ap (λ l. front ++ l) second ∙ sym both)

pub returns-clause-nodes : goal.returns-clause-nodes
returns-clause-nodes g t c =
    let a = c.args in
    let h = c.halves-left.ensures in
    let o = c.halves-other_left.ensures in
    let m = c.middle-middle in
    let s = c.slots-slots in
    let f = g.C.Combine.combined_of a.by.now in
    let older = c.combine.ensures.older in
    let l = combines f a.over.from (tree_at a.self.now c.halves-left.result.0) (tree_at a.self.now c.halves-other_left.result.0) in
    let r = combines f m.result (tree_at c.combine.new.self c.halves-left.result.1) (tree_at c.combine.new.self c.halves-other_left.result.1) in
    let both = combines_halves a.self.now a.over.from a.over.to m.result s.result a.a c.halves-left.result.0 c.halves-left.result.1
    a.b c.halves-other_left.result.0 c.halves-other_left.result.1 c.requires.order s.ensures m.ensures h.tree o.tree h.left o.left f (λ e. c.if-a-b.false e) in
    let same = ap (λ x. with_above (l + combines f m.result x (tree_at c.combine.new.self c.halves-other_left.result.1))) (older.trees _ h.right.inside)
    ∙ ap (λ x. with_above (l + combines f m.result (tree_at a.self.now c.halves-left.result.1) x)) (older.trees _ o.right.inside) in
    let few = few_above l r c.halves-left.result.0 c.halves-left.result.1 c.in_ok-new_left.new_left c.in_ok-new_right.new_right (length a.self.now)
    (length c.combine.new.self) (length c.combine-2.new.self) h.left.inside h.right.inside c.combine.ensures.older.longer c.combine-2.ensures.older.longer
    c.in_ok-new_left.ensures.kept c.in_ok-new_right.ensures.kept (length c.with_halves.new.self) c.combine.ensures.nodes c.combine-2.ensures.nodes
    (λ e. ap length (c.with_halves.ensures.same e)) c.with_halves.ensures.nodes in
    omega (arith, few, same, both)

pub returns-clause-kept : goal.returns-clause-kept
returns-clause-kept g t c =
    let a = c.args in
    let h = c.halves-left.ensures in
    let o = c.halves-other_left.ensures in
    let m = c.middle-middle in
    let s = c.slots-slots in
    let f = g.C.Combine.combined_of a.by.now in
    let older = c.combine.ensures.older in
    let l = combines f a.over.from (tree_at a.self.now c.halves-left.result.0) (tree_at a.self.now c.halves-other_left.result.0) in
    let r = combines f m.result (tree_at c.combine.new.self c.halves-left.result.1) (tree_at c.combine.new.self c.halves-other_left.result.1) in
    let both = combines_halves a.self.now a.over.from a.over.to m.result s.result a.a c.halves-left.result.0 c.halves-left.result.1
    a.b c.halves-other_left.result.0 c.halves-other_left.result.1 c.requires.order s.ensures m.ensures h.tree o.tree h.left o.left f (λ e. c.if-a-b.false e) in
    let same = ap (λ x. with_above (l + combines f m.result x (tree_at c.combine.new.self c.halves-other_left.result.1))) (older.trees _ h.right.inside)
    ∙ ap (λ x. with_above (l + combines f m.result (tree_at a.self.now c.halves-left.result.1) x)) (older.trees _ o.right.inside) in
    if_ok_on c.with_halves.result _ _ c.with_halves.ensures.kept
    (λ n made. subst (λ k. IsKept k a.a (length a.self.now) n) (same ∙ sym both)
    (kept_above l r c.halves-left.result.0 c.halves-left.result.1 c.in_ok-new_left.new_left c.in_ok-new_right.new_right (length a.self.now)
    (length c.combine.new.self) (length c.combine-2.new.self) h.left.inside h.right.inside c.combine.ensures.older.longer c.combine-2.ensures.older.longer
    c.in_ok-new_left.ensures.kept c.in_ok-new_right.ensures.kept a.a n made))
