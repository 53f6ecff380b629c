use Rattle.std.proofs.Common.{rules, ◌≡◌, ◌-◌, ◌∙◌, true, sym, ap, arith}
use Rattle.sa_shared.specs.Tree.{tree_at, values}
use Rattle.sa_shared.specs.Walks.{Within, folded, step_in_range}
use Rattle.sa_shared.proofs.Unfolding.{size}
use Rattle.sa_shared.proofs.Walking.{folded_apart, folded_one}
use Rattle.sa_shared.proofs.Halves.{left_half, right_half, each_left, folded_halves, fits_behind}
use Rattle.sa_shared.proofs.nodes.Nodes.+fold.Goals as goal

pub returns-then-not-meets : goal.returns-then-not-meets
returns-then-not-meets g t c =
    let a = c.args in
    let list = values (tree_at a.self.now a.number) in
    let long = size (tree_at a.self.now a.number) (a.over.to - a.over.from) c.requires.tree.balanced in
    sym (folded_apart a.range.from a.range.to g.A.Fold.with_of a.over.from a.start list (λ j less least most.
    let met : c.meets.result ≡ true = c.meets.ensures.1 (omega (arith, less, long), omega (arith, less, long, least), omega (arith, most)) in
    cc))

pub returns-then-slots-eq1 : goal.returns-then-slots-eq1
returns-then-slots-eq1 g t c =
    let a = c.args in
    let is : c.meets.result ≡ true = cc in
    let met = c.meets.ensures.0 is in
    c.with.ensures
    ∙ sym (folded_one a.range.from a.range.to g.A.Fold.with_of a.start a.over.from c.value.result.now (omega (arith, met, c.slots-slots.ensures, c.if-slots-eq1.true)) met.2)
    ∙ ap (λ t. folded (step_in_range a.range.from a.range.to g.A.Fold.with_of) a.over.from a.start (values t)) (sym c.value.ensures)

pub fold-start-requires : goal.fold-start-requires
fold-start-requires g t c κs within =
    let a = c.args in
    let h = c.halves-left.ensures in
    let m = c.middle-middle in
    let s = c.slots-slots in
    let left = left_half a.self.now a.over.from a.over.to m.result s.result a.number c.halves-left.result.0 c.halves-left.result.1
    c.requires.order s.ensures m.ensures h.tree h.left h.right in
    let fits = each_left a.self.now a.over.from a.over.to m.result s.result a.number c.halves-left.result.0 c.halves-left.result.1
    c.requires.order s.ensures m.ensures h.tree h.left h.right (Within a.range.from a.range.to (g.A.Fold.fits a.start)) c.requires.fits in
    (omega arith, (search rules, (search rules, (left, (omega arith, fits)))))

pub fold-requires : goal.fold-requires
fold-requires g t c κs within =
    let a = c.args in
    let h = c.halves-left.ensures in
    let m = c.middle-middle in
    let s = c.slots-slots in
    let right = right_half a.self.now a.over.from a.over.to m.result s.result a.number c.halves-left.result.0 c.halves-left.result.1
    c.requires.order s.ensures m.ensures h.tree h.left h.right in
    let fits = fits_behind a.self.now a.over.from a.over.to m.result s.result a.number c.halves-left.result.0 c.halves-left.result.1
    c.requires.order s.ensures m.ensures h.tree h.left h.right a.range.from a.range.to g.A.Fold.with_of g.A.Fold.fits g.met.A.Fold.laws
    a.start c.fold-start.result c.fold-start.ensures c.requires.fits in
    (omega arith, (search rules, (search rules, (right, (omega arith, fits)))))

pub returns : goal.returns
returns g t c =
    let a = c.args in
    let h = c.halves-left.ensures in
    folded_halves a.self.now a.over.from a.over.to c.middle-middle.result c.slots-slots.result a.number c.halves-left.result.0 c.halves-left.result.1
    c.requires.order c.slots-slots.ensures c.middle-middle.ensures h.tree h.left h.right a.range.from a.range.to g.A.Fold.with_of a.start c.fold-start.result c.fold.result
    c.fold-start.ensures c.fold.ensures
