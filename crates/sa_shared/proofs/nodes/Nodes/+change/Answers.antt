use Rattle.std.proofs.Common.{rules, ◌≡◌, ◌+◌, ◌-◌, ◌++◌, length, true, refl, sym, ap, ◌∙◌, subst, arith, inl}
use Rattle.sa_shared.specs.Tree.{tree_at, values}
use Rattle.sa_shared.specs.Walks.{AtEach, Within, IsKept, changed, changes, in_range, with_above}
use Rattle.sa_shared.proofs.Counts.{at_most_above, kept_above, few_above}
use Rattle.sa_shared.proofs.Halves.{left_half, right_half, each_left, each_right, changed_halves, changes_halves}
use Rattle.sa_shared.proofs.Lists.{if_ok_on}
use Rattle.sa_shared.proofs.Unfolding.{size, tree_kept}
use Rattle.sa_shared.proofs.Walking.{changed_apart, changes_apart, changed_one, changes_one}
use Rattle.sa_shared.proofs.nodes.Nodes.+change.Goals as goal

pub returns-then-not-meets-clause-list : goal.returns-then-not-meets-clause-list
returns-then-not-meets-clause-list g t c =
    let a = c.args in
    let list = values (tree_at a.self.now a.number) in
    let long = size (tree_at a.self.now a.number) (a.over.to - a.over.from) c.requires.tree.balanced in
    sym (changed_apart a.range.from a.range.to (g.C.Change.changed_of a.by.now) a.over.from list (λ j less least most.
    let met : c.meets.result ≡ true = c.meets.ensures.1 (omega (arith, less, long), omega (arith, less, long, least), omega (arith, most)) in
    cc))

pub returns-then-not-meets-clause-kept : goal.returns-then-not-meets-clause-kept
returns-then-not-meets-clause-kept g t c =
    let a = c.args in
    let tree = tree_at a.self.now a.number in
    let long = size tree (a.over.to - a.over.from) c.requires.tree.balanced in
    inl (
      changes_apart a.range.from a.range.to (g.C.Change.changed_of a.by.now) tree a.over.from (λ j less least most.
          let met : c.meets.result ≡ true = c.meets.ensures.1 (omega (arith, less, long), omega (arith, less, long, least), omega (arith, most)) in
          cc),
      refl,
    )

pub returns-then-slots-eq1-clause-list : goal.returns-then-slots-eq1-clause-list
returns-then-slots-eq1-clause-list g t c =
    let a = c.args in
    let is : c.meets.result ≡ true = cc in
    let met = c.meets.ensures.0 is in
    let x = c.value.result.now in
    let f = g.C.Change.changed_of a.by.now in
    let one = changed_one a.range.from a.range.to f a.over.from x c.in_ok-value.value (omega (arith, met, c.slots-slots.ensures, c.if-slots-eq1.true)) met.2 c.in_ok-value.ensures in
    if_ok_on c.with_value.result _ _ c.with_value.ensures.list
    (λ n h. h x (ap values c.value.ensures) ∙ sym one ∙ ap (λ t. changed (in_range a.range.from a.range.to f) a.over.from (values t)) (sym c.value.ensures))

pub returns-then-slots-eq1-clause-nodes : goal.returns-then-slots-eq1-clause-nodes
returns-then-slots-eq1-clause-nodes g t c =
    let a = c.args in
    let is : c.meets.result ≡ true = cc in
    let met = c.meets.ensures.0 is in
    let x = c.value.result.now in
    let f = g.C.Change.changed_of a.by.now in
    let one = ap (changes (in_range a.range.from a.range.to f) a.over.from) c.value.ensures
    ∙ changes_one a.range.from a.range.to f a.number a.over.from x c.in_ok-value.value (omega (arith, met, c.slots-slots.ensures, c.if-slots-eq1.true)) met.2 c.in_ok-value.ensures in
    omega (arith, one, c.with_value.ensures.nodes)

pub returns-then-slots-eq1-clause-kept : goal.returns-then-slots-eq1-clause-kept
returns-then-slots-eq1-clause-kept g t c =
    let a = c.args in
    let is : c.meets.result ≡ true = cc in
    let met = c.meets.ensures.0 is in
    let x = c.value.result.now in
    let f = g.C.Change.changed_of a.by.now in
    let one = ap (changes (in_range a.range.from a.range.to f) a.over.from) c.value.ensures
    ∙ changes_one a.range.from a.range.to f a.number a.over.from x c.in_ok-value.value (omega (arith, met, c.slots-slots.ensures, c.if-slots-eq1.true)) met.2 c.in_ok-value.ensures in
    if_ok_on c.with_value.result _ _ c.with_value.ensures.kept (λ n h. subst (λ m. IsKept m a.number (length a.self.now) n) (sym one) h)

pub change-requires : goal.change-requires
change-requires g t c κs within =
    let a = c.args in
    let h = c.halves-left.ensures in
    let m = c.middle-middle in
    let s = c.slots-slots in
    let left = left_half a.self.now a.over.from a.over.to m.result s.result a.number c.halves-left.result.0 c.halves-left.result.1
    c.requires.order s.ensures m.ensures h.tree h.left h.right in
    let fits = each_left a.self.now a.over.from a.over.to m.result s.result a.number c.halves-left.result.0 c.halves-left.result.1
    c.requires.order s.ensures m.ensures h.tree h.left h.right (Within a.range.from a.range.to (g.C.Change.fits a.by.now)) c.requires.fits in
    (omega arith, (search rules, (search rules, (left, (omega arith, fits)))))

pub returns-in_err-new_left-clause-nodes : goal.returns-in_err-new_left-clause-nodes
returns-in_err-new_left-clause-nodes g t c =
    let a = c.args in
    let h = c.halves-left.ensures in
    let m = c.middle-middle in
    let s = c.slots-slots in
    let f = in_range a.range.from a.range.to (g.C.Change.changed_of a.by.now) in
    let l = tree_at a.self.now c.halves-left.result.0 in
    let r = tree_at a.self.now c.halves-left.result.1 in
    let both = changes_halves a.self.now a.over.from a.over.to m.result s.result a.number c.halves-left.result.0 c.halves-left.result.1
    c.requires.order s.ensures m.ensures h.tree h.left h.right f in
    omega (arith, both, at_most_above (changes f a.over.from l + changes f m.result r), c.change.ensures.nodes)

pub change-requires-2 : goal.change-requires-2
change-requires-2 g t c κs within =
    let a = c.args in
    let h = c.halves-left.ensures in
    let m = c.middle-middle in
    let s = c.slots-slots in
    let older = c.change.ensures.older in
    let P = Within a.range.from a.range.to (g.C.Change.fits a.by.now) in
    let right = right_half a.self.now a.over.from a.over.to m.result s.result a.number c.halves-left.result.0 c.halves-left.result.1
    c.requires.order s.ensures m.ensures h.tree h.left h.right in
    let fits = each_right a.self.now a.over.from a.over.to m.result s.result a.number c.halves-left.result.0 c.halves-left.result.1
    c.requires.order s.ensures m.ensures h.tree h.left h.right P c.requires.fits in (
      omega arith,
      (
        search rules,
        (
          search rules,
          (
            tree_kept _ _ _ _ older right,
            (
              omega arith,
              subst (λ t. AtEach P m.result (values t)) (sym (older.trees _ h.right.inside)) fits,
            ),
          ),
        ),
      ),
    )

pub returns-in_err-new_right-clause-nodes : goal.returns-in_err-new_right-clause-nodes
returns-in_err-new_right-clause-nodes g t c =
    let a = c.args in
    let h = c.halves-left.ensures in
    let m = c.middle-middle in
    let s = c.slots-slots in
    let f = in_range a.range.from a.range.to (g.C.Change.changed_of a.by.now) in
    let l = tree_at a.self.now c.halves-left.result.0 in
    let r = tree_at a.self.now c.halves-left.result.1 in
    let both = changes_halves a.self.now a.over.from a.over.to m.result s.result a.number c.halves-left.result.0 c.halves-left.result.1
    c.requires.order s.ensures m.ensures h.tree h.left h.right f in
    let same = ap (changes f m.result) (c.change.ensures.older.trees _ h.right.inside) in
    omega (arith, both, same, at_most_above (changes f a.over.from l + changes f m.result r), c.change.ensures.nodes, c.change-2.ensures.nodes)

pub returns-clause-list : goal.returns-clause-list
returns-clause-list g t c =
    let a = c.args in
    let h = c.halves-left.ensures in
    let m = c.middle-middle in
    let s = c.slots-slots in
    let f = in_range a.range.from a.range.to (g.C.Change.changed_of a.by.now) in
    let both = changed_halves a.self.now a.over.from a.over.to m.result s.result a.number c.halves-left.result.0 c.halves-left.result.1
    c.requires.order s.ensures m.ensures h.tree h.left h.right f in
    let new_right = values (tree_at c.change-2.new.self c.in_ok-new_right.new_right) in
    let front = changed f a.over.from (values (tree_at a.self.now c.halves-left.result.0)) in
    let first : values (tree_at c.change-2.new.self c.in_ok-new_left.new_left) ≡ front =
    ap values (c.change-2.ensures.older.trees _ c.in_ok-new_left.ensures.tree.inside) ∙ c.in_ok-new_left.ensures.list in
    let second : new_right ≡ changed f m.result (values (tree_at a.self.now c.halves-left.result.1)) =
    c.in_ok-new_right.ensures.list ∙ ap (λ t. changed f m.result (values t)) (c.change.ensures.older.trees _ h.right.inside) in
    if_ok_on c.with_halves.result _ _ c.with_halves.ensures.list
    (λ n made. made ∙ ap (λ l. l ++ new_right) first ∙ ap (λ l. front ++ l) second ∙ sym both)

pub returns-clause-nodes : goal.returns-clause-nodes
returns-clause-nodes g t c =
    let a = c.args in
    let h = c.halves-left.ensures in
    let m = c.middle-middle in
    let s = c.slots-slots in
    let f = in_range a.range.from a.range.to (g.C.Change.changed_of a.by.now) in
    let l = changes f a.over.from (tree_at a.self.now c.halves-left.result.0) in
    let r = changes f m.result (tree_at c.change.new.self c.halves-left.result.1) in
    let both = changes_halves a.self.now a.over.from a.over.to m.result s.result a.number c.halves-left.result.0 c.halves-left.result.1
    c.requires.order s.ensures m.ensures h.tree h.left h.right f in
    let same = ap (λ t. with_above (l + changes f m.result t)) (c.change.ensures.older.trees _ h.right.inside) in
    let few = few_above l r c.halves-left.result.0 c.halves-left.result.1 c.in_ok-new_left.new_left c.in_ok-new_right.new_right (length a.self.now)
    (length c.change.new.self) (length c.change-2.new.self) h.left.inside h.right.inside c.change.ensures.older.longer c.change-2.ensures.older.longer
    c.in_ok-new_left.ensures.kept c.in_ok-new_right.ensures.kept (length c.with_halves.new.self) c.change.ensures.nodes c.change-2.ensures.nodes
    (λ e. ap length (c.with_halves.ensures.same e)) c.with_halves.ensures.nodes in
    omega (arith, few, same, both)

pub returns-clause-kept : goal.returns-clause-kept
returns-clause-kept g t c =
    let a = c.args in
    let h = c.halves-left.ensures in
    let m = c.middle-middle in
    let s = c.slots-slots in
    let f = in_range a.range.from a.range.to (g.C.Change.changed_of a.by.now) in
    let l = changes f a.over.from (tree_at a.self.now c.halves-left.result.0) in
    let r = changes f m.result (tree_at c.change.new.self c.halves-left.result.1) in
    let both = changes_halves a.self.now a.over.from a.over.to m.result s.result a.number c.halves-left.result.0 c.halves-left.result.1
    c.requires.order s.ensures m.ensures h.tree h.left h.right f in
    let same = ap (λ t. with_above (l + changes f m.result t)) (c.change.ensures.older.trees _ h.right.inside) in
    if_ok_on c.with_halves.result _ _ c.with_halves.ensures.kept
    (λ n made. subst (λ k. IsKept k a.number (length a.self.now) n) (same ∙ sym both)
    (kept_above l r c.halves-left.result.0 c.halves-left.result.1 c.in_ok-new_left.new_left c.in_ok-new_right.new_right (length a.self.now)
    (length c.change.new.self) (length c.change-2.new.self) h.left.inside h.right.inside c.change.ensures.older.longer c.change-2.ensures.older.longer
    c.in_ok-new_left.ensures.kept c.in_ok-new_right.ensures.kept a.number n made))
