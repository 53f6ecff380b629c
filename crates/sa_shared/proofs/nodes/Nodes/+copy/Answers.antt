use Rattle.std.proofs.Common.{◌≡◌, ◌++◌, [], ◌∷◌, ℕ, sym, ap, ◌∙◌, subst, arith}
use Rattle.sa_shared.specs.Tree.{Tree, IsTree, IsBalanced, tree_at, values}
use Rattle.sa_shared.proofs.Lists.{if_ok_on, if_ok_two, no_slots}
use Rattle.sa_shared.proofs.Unfolding.{tree_kept, emptied, leafed, forked}
use Rattle.sa_shared.proofs.Copying.{at_some, at_none, kept_copy, kept_within, still_free, halves_within}
use Rattle.sa_shared.proofs.nodes.Nodes.+copy.Goals as goal

pub returns-in-Some-clause-tree : goal.returns-in-Some-clause-tree
returns-in-Some-clause-tree g t c =
    let copy = c.requires.copies.each c.args.number c.in-Some.made (at_some c.args.places.now c.args.number c.in-Some.made c.in-Some.is) in
    record { inside = copy.inside; balanced = copy.balanced c.args.slots c.requires.tree.balanced }

pub returns-in-Some-clause-list : goal.returns-in-Some-clause-list
returns-in-Some-clause-list g t c = (c.requires.copies.each c.args.number c.in-Some.made (at_some c.args.places.now c.args.number c.in-Some.made c.in-Some.is)).same

module _ where
  none_there : {T : Type 0} (t : Tree T) (m : ℕ) → m ≡ 0 → IsBalanced m t → values t ≡ []
  none_there t m e h = no_slots t (subst (λ i. IsBalanced i t) e h)

pub returns-then-slots-eq0-clause-tree : goal.returns-then-slots-eq0-clause-tree
returns-then-slots-eq0-clause-tree g t c =
    if_ok_on c.keep.result _ _ c.keep.ensures.node
    (λ n h. subst (λ m. IsTree c.keep.new.nodes.items m n) (sym c.if-slots-eq0.true) (emptied c.args.nodes.now.items c.keep.new.nodes.items n h.0 h.1).0)

pub returns-then-slots-eq0-clause-list : goal.returns-then-slots-eq0-clause-list
returns-then-slots-eq0-clause-list g t c =
    if_ok_on c.keep.result _ _ c.keep.ensures.node
    (λ n h. (emptied c.args.nodes.now.items c.keep.new.nodes.items n h.0 h.1).1
    ∙ sym (none_there (tree_at c.args.self.now c.args.number) c.args.slots c.if-slots-eq0.true c.requires.tree.balanced))

pub returns-then-slots-eq0-clause-copies : goal.returns-then-slots-eq0-clause-copies
returns-then-slots-eq0-clause-copies g t c =
    let free = at_none c.args.places.now c.args.number (omega (arith, c.requires.copies.long, c.requires.tree.inside)) c.in_default.is in
    if_ok_two c.keep.result _ _ _ c.keep.ensures.node c.keep.ensures.place
    (λ n h p.
    let made = emptied c.args.nodes.now.items c.keep.new.nodes.items n h.0 h.1 in
    kept_copy c.args.self.now c.args.nodes.now.items c.keep.new.nodes.items c.args.places.now c.keep.new.places c.args.slots c.args.number n _
    c.requires.copies free c.requires.tree h.0 h.1 c.keep.ensures.older
    (subst (λ m. IsTree c.keep.new.nodes.items m n) (sym c.if-slots-eq0.true) made.0)
    (made.1 ∙ sym (none_there (tree_at c.args.self.now c.args.number) c.args.slots c.if-slots-eq0.true c.requires.tree.balanced)) p)

pub returns-then-slots-eq0-clause-within : goal.returns-then-slots-eq0-clause-within
returns-then-slots-eq0-clause-within g t c =
    if_ok_on c.keep.result _ _ c.keep.ensures.place (λ n p. kept_within c.args.self.now c.args.places.now c.keep.new.places c.args.number n p)

pub returns-then-slots-eq1-clause-tree : goal.returns-then-slots-eq1-clause-tree
returns-then-slots-eq1-clause-tree g t c =
    let new = c.keep-then-slots-eq1.new.nodes.items in
    if_ok_on c.keep-then-slots-eq1.result _ _ c.keep-then-slots-eq1.ensures.node
    (λ n h. subst (λ m. IsTree new m n) (sym c.if-slots-eq1.true) (leafed c.args.nodes.now.items new c.in_ok-value.value n h.0 (h.1 ∙ ap (λ x. c.args.nodes.now.items ++ x ∷ []) c.in_ok-leaf.ensures)).0)

pub returns-then-slots-eq1-clause-list : goal.returns-then-slots-eq1-clause-list
returns-then-slots-eq1-clause-list g t c =
    let new = c.keep-then-slots-eq1.new.nodes.items in
    if_ok_on c.keep-then-slots-eq1.result _ _ c.keep-then-slots-eq1.ensures.node
    (λ n h. (leafed c.args.nodes.now.items new c.in_ok-value.value n h.0 (h.1 ∙ ap (λ x. c.args.nodes.now.items ++ x ∷ []) c.in_ok-leaf.ensures)).1 ∙ ap (λ x. x ∷ []) c.in_ok-value.ensures ∙ sym (ap values c.value.ensures))

pub returns-then-slots-eq1-clause-copies : goal.returns-then-slots-eq1-clause-copies
returns-then-slots-eq1-clause-copies g t c =
    let new = c.keep-then-slots-eq1.new.nodes.items in
    let free = at_none c.args.places.now c.args.number (omega (arith, c.requires.copies.long, c.requires.tree.inside)) c.in_default.is in
    if_ok_two c.keep-then-slots-eq1.result _ _ _ c.keep-then-slots-eq1.ensures.node c.keep-then-slots-eq1.ensures.place
    (λ n h p.
    let made = leafed c.args.nodes.now.items new c.in_ok-value.value n h.0 (h.1 ∙ ap (λ x. c.args.nodes.now.items ++ x ∷ []) c.in_ok-leaf.ensures) in
    kept_copy c.args.self.now c.args.nodes.now.items new c.args.places.now c.keep-then-slots-eq1.new.places c.args.slots c.args.number n _
    c.requires.copies free c.requires.tree h.0 h.1 c.keep-then-slots-eq1.ensures.older
    (subst (λ m. IsTree new m n) (sym c.if-slots-eq1.true) made.0)
    (made.1 ∙ ap (λ x. x ∷ []) c.in_ok-value.ensures ∙ sym (ap values c.value.ensures)) p)

pub returns-then-slots-eq1-clause-within : goal.returns-then-slots-eq1-clause-within
returns-then-slots-eq1-clause-within g t c =
    if_ok_on c.keep-then-slots-eq1.result _ _ c.keep-then-slots-eq1.ensures.place
    (λ n p. kept_within c.args.self.now c.args.places.now c.keep-then-slots-eq1.new.places c.args.number n p)

pub returns-clause-tree : goal.returns-clause-tree
returns-clause-tree g t c =
    let left = tree_kept _ _ _ _ c.copy-3.ensures.older c.in_ok-new_left.ensures.tree in
    if_ok_on c.keep-2.result _ _ c.keep-2.ensures.node
    (λ n h. (forked c.copy-3.new.nodes.items c.keep-2.new.nodes.items c.args.slots c.in_ok-new_left.new_left c.in_ok-new_right.new_right n (omega arith)
    left c.in_ok-new_right.ensures.tree h.0 h.1).0)

pub returns-clause-list : goal.returns-clause-list
returns-clause-list g t c =
    let left = tree_kept _ _ _ _ c.copy-3.ensures.older c.in_ok-new_left.ensures.tree in
    let first = ap values (c.copy-3.ensures.older.trees _ (c.in_ok-new_left.ensures.tree).inside) ∙ c.in_ok-new_left.ensures.list in
    if_ok_on c.keep-2.result _ _ c.keep-2.ensures.node
    (λ n h. (forked c.copy-3.new.nodes.items c.keep-2.new.nodes.items c.args.slots c.in_ok-new_left.new_left c.in_ok-new_right.new_right n (omega arith)
    left c.in_ok-new_right.ensures.tree h.0 h.1).1
    ∙ ap (λ l. l ++ values (tree_at c.copy-3.new.nodes.items c.in_ok-new_right.new_right)) first
    ∙ ap (λ l. values (tree_at c.args.self.now c.halves-left.result.0) ++ l) c.in_ok-new_right.ensures.list
    ∙ sym (ap values c.halves-left.ensures.tree))

pub returns-clause-copies : goal.returns-clause-copies
returns-clause-copies g t c =
    let from = c.args.self.now in
    let to = c.copy-3.new.nodes.items in
    let new = c.keep-2.new.nodes.items in
    let places = c.copy-3.new.places in
    let free = at_none c.args.places.now c.args.number (omega (arith, c.requires.copies.long, c.requires.tree.inside)) c.in_default.is in
    let copies = c.in_ok-new_right.ensures.copies in
    let still = still_free from to c.args.places.now c.copy-2.new.places places c.args.number c.halves-left.result.0 c.halves-left.result.1 _ _
    free (omega (arith, copies.long, c.requires.tree.inside)) c.halves-left.ensures.left c.halves-left.ensures.right c.halves-left.ensures.older.0 c.halves-left.ensures.older.1
    c.in_ok-new_left.ensures.within c.in_ok-new_right.ensures.within in
    let left = tree_kept _ _ _ _ c.copy-3.ensures.older c.in_ok-new_left.ensures.tree in
    let first = ap values (c.copy-3.ensures.older.trees _ (c.in_ok-new_left.ensures.tree).inside) ∙ c.in_ok-new_left.ensures.list in
    if_ok_two c.keep-2.result _ _ _ c.keep-2.ensures.node c.keep-2.ensures.place
    (λ n h p.
    let made = forked to new c.args.slots c.in_ok-new_left.new_left c.in_ok-new_right.new_right n (omega arith) left c.in_ok-new_right.ensures.tree h.0 h.1 in
    kept_copy from to new places c.keep-2.new.places c.args.slots c.args.number n _ copies still c.requires.tree h.0 h.1 c.keep-2.ensures.older made.0
    (made.1 ∙ ap (λ l. l ++ values (tree_at to c.in_ok-new_right.new_right)) first
    ∙ ap (λ l. values (tree_at from c.halves-left.result.0) ++ l) c.in_ok-new_right.ensures.list
    ∙ sym (ap values c.halves-left.ensures.tree)) p)

pub returns-clause-within : goal.returns-clause-within
returns-clause-within g t c =
    if_ok_on c.keep-2.result _ _ c.keep-2.ensures.place
    (λ n p. halves_within _ _ _ c.args.places.now c.copy-2.new.places c.copy-3.new.places c.keep-2.new.places c.args.number c.halves-left.ensures.tree
    c.in_ok-new_left.ensures.within c.in_ok-new_right.ensures.within
    (kept_within c.args.self.now c.copy-3.new.places c.keep-2.new.places c.args.number n p))
