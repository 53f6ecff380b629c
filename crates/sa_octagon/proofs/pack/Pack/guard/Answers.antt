use Rattle.std.proofs.Common.{rules, not, ◌↔◌, ◌≤ℤ◌, ◌+ℤ◌, sym, subst}
use Rattle.sa_dbm.specs.Tables.{IsWithin}
use Rattle.sa_dbm.specs.Points.{LiesIn}
use Rattle.sa_dbm.proofs.Sizes.{within-tightened}
use Rattle.sa_octagon.specs.Packs.{node, signed}
use Rattle.sa_octagon.proofs.Points.{points_guarded, place_inside}
use Rattle.sa_octagon.proofs.pack.Pack.guard.Goals as goal

pub returns-clause-value : goal.returns-clause-value
returns-clause-value c = search rules

pub returns-clause-within : goal.returns-clause-within
returns-clause-within c = λ limit h k.
    subst (IsWithin limit) (sym (returns-clause-value c)) (within-tightened limit c.args.self.now.table (node (not c.args.sy) c.args.y) (node c.args.sx c.args.x) c.args.k h k)

pub returns-clause-points : goal.returns-clause-points
returns-clause-points c = λ p.
    let t = c.args.self.now.table in
    let x = place_inside _ c.args.self.now c.args.x c.self.invariant c.self.view_is c.requires.x in
    let y = place_inside _ c.args.self.now c.args.y c.self.invariant c.self.view_is c.requires.y in
    subst (λ n. LiesIn p n ↔ (LiesIn p t × ((signed c.args.sx (p c.args.x) +ℤ signed c.args.sy (p c.args.y)) ≤ℤ c.args.k))) (sym (returns-clause-value c))
    (points_guarded t c.args.sx c.args.x c.args.sy c.args.y c.args.k x y p)
