use Rattle.std.proofs.Common.{rules, ◌+◌, ◌^◌, ◌+ℤ◌, unsigned_abs, sym, subst, ap, arith}
use Rattle.sa_dbm.specs.Tables.{IsWithin}
use Rattle.sa_dbm.specs.Points.{LiesIn, with_value}
use Rattle.sa_dbm.proofs.Sizes.{within_more}
use Rattle.sa_octagon.specs.Packs.{Packed, signed}
use Rattle.sa_octagon.proofs.Points.{place_inside, points_assigned, within_assigned}
use Rattle.sa_octagon.proofs.pack.Pack.assign_linear.Goals as goal

pub tighten-requires-clause-within : goal.tighten-requires-clause-within
tighten-requires-clause-within c =
    c.forget.ensures.within (2 ^ 100)
    (subst (IsWithin (2 ^ 100)) (sym (ap (λ (p : Packed). p.table) c.self.view_is)) (within_more (2 ^ 70) (2 ^ 100) c.args.self.now.table (omega arith) c.requires.within))

pub tighten-requires-else-x-y-clause-within : goal.tighten-requires-else-x-y-clause-within
tighten-requires-else-x-y-clause-within c =
    c.tighten.ensures.within (2 ^ 100)
    (c.forget.ensures.within (2 ^ 100)
    (subst (IsWithin (2 ^ 100)) (sym (ap (λ (p : Packed). p.table) c.self.view_is)) (within_more (2 ^ 70) (2 ^ 100) c.args.self.now.table (omega arith) c.requires.within)))
    (search rules)

pub returns-then-x-y-clause-value : goal.returns-then-x-y-clause-value
returns-then-x-y-clause-value c = search rules

pub returns-then-x-y-clause-within : goal.returns-then-x-y-clause-within
returns-then-x-y-clause-within c = λ limit h.
    subst (IsWithin (limit + (unsigned_abs c.args.c + unsigned_abs c.args.c))) (sym (returns-then-x-y-clause-value c))
    (within_assigned limit c.args.self.now.table c.args.x c.args.sign c.args.y c.args.c h)

pub returns-then-x-y-clause-points : goal.returns-then-x-y-clause-points
returns-then-x-y-clause-points c = λ p l.
    let x = place_inside _ c.args.self.now c.args.x c.self.invariant c.self.view_is c.requires.x in
    let y = place_inside _ c.args.self.now c.args.y c.self.invariant c.self.view_is c.requires.y in
    subst (LiesIn (with_value p c.args.x (signed c.args.sign (p c.args.y) +ℤ c.args.c))) (sym (returns-then-x-y-clause-value c))
    (points_assigned c.args.self.now.table c.args.x c.args.sign c.args.y c.args.c x y c.requires.plain p l)

pub returns-else-x-y-clause-value : goal.returns-else-x-y-clause-value
returns-else-x-y-clause-value c = search rules

pub returns-else-x-y-clause-within : goal.returns-else-x-y-clause-within
returns-else-x-y-clause-within c = λ limit h.
    subst (IsWithin (limit + (unsigned_abs c.args.c + unsigned_abs c.args.c))) (sym (returns-else-x-y-clause-value c))
    (within_assigned limit c.args.self.now.table c.args.x c.args.sign c.args.y c.args.c h)

pub returns-else-x-y-clause-points : goal.returns-else-x-y-clause-points
returns-else-x-y-clause-points c = λ p l.
    let x = place_inside _ c.args.self.now c.args.x c.self.invariant c.self.view_is c.requires.x in
    let y = place_inside _ c.args.self.now c.args.y c.self.invariant c.self.view_is c.requires.y in
    subst (LiesIn (with_value p c.args.x (signed c.args.sign (p c.args.y) +ℤ c.args.c))) (sym (returns-else-x-y-clause-value c))
    (points_assigned c.args.self.now.table c.args.x c.args.sign c.args.y c.args.c x y c.requires.plain p l)
