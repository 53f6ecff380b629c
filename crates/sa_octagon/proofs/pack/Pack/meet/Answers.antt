use Rattle.std.proofs.Common.{true, false, ◌∙◌, ◌+◌, ◌^◌, ◌↔◌, ◌+ℤ◌, unsigned_abs, ◌≤◌, sym, subst, ap, ap₂, arith}
use Rattle.sa_interval.specs.Span.{Within}
use Rattle.sa_dbm.specs.Tables.{IsWithin, tightened}
use Rattle.sa_dbm.specs.Points.{LiesIn}
use Rattle.sa_dbm.proofs.Sizes.{within_more}
use Rattle.sa_numbers.proofs.Sizes.{size_of_sum}
use Rattle.sa_octagon.specs.Packs.{Packed, IsBoundedAt, node}
use Rattle.sa_octagon.proofs.Points.{points_met, place_inside, within_met}
use Rattle.sa_octagon.proofs.Bounded.{met_bounded, met_bounded_still}
use Rattle.sa_octagon.proofs.Ends.{doubled_stored, negated_stored}
use Rattle.sa_octagon.proofs.pack.Pack.meet.Goals as goal

pub returns-clause-value : goal.returns-clause-value
returns-clause-value c =
    let x = c.args.x in
    let hi = doubled_stored c.doubled.result c.hi.result c.args.v.hi c.doubled.ensures c.hi.ensures.value c.requires.v.hi in
    let lo = doubled_stored c.doubled-2.result c.lo.result c.args.v.lo c.doubled-2.ensures c.lo.ensures.value c.requires.v.lo in
    c.tighten-2.ensures.value
    ∙ ap₂ (λ t k. tightened t (node true x) (node false x) k) (c.tighten.ensures.value ∙ ap₂ (λ t k. tightened t (node false x) (node true x) k) (ap (λ (p : Packed). p.table) c.self.view_is) hi)
    (negated_stored c.negated.result c.doubled-2.result c.args.v.lo c.negated.ensures lo c.requires.v.lo)

pub tighten-requires-2-clause-within : goal.tighten-requires-2-clause-within
tighten-requires-2-clause-within c =
    let hi = doubled_stored c.doubled.result c.hi.result c.args.v.hi c.doubled.ensures c.hi.ensures.value c.requires.v.hi in
    let size : unsigned_abs (c.args.v.hi +ℤ c.args.v.hi) ≤ 2 ^ 70 + 2 ^ 70 = size_of_sum c.args.v.hi c.args.v.hi (2 ^ 70) (2 ^ 70) c.requires.v.hi c.requires.v.hi in
    c.tighten.ensures.within (2 ^ 100)
    (subst (IsWithin (2 ^ 100)) (sym (ap (λ (p : Packed). p.table) c.self.view_is)) (within_more (2 ^ 70) (2 ^ 100) c.args.self.now.table (omega arith) c.requires.within))
    (subst (λ z. unsigned_abs z ≤ 2 ^ 100) (sym hi) (omega arith))

pub returns-clause-within : goal.returns-clause-within
returns-clause-within c = λ limit h k.
    subst (IsWithin (limit + limit)) (sym (returns-clause-value c)) (within_met limit c.args.self.now.table c.args.x c.args.v h k)

pub returns-clause-points : goal.returns-clause-points
returns-clause-points c = λ p.
    let t = c.args.self.now.table in
    subst (λ n. LiesIn p n ↔ (LiesIn p t × Within c.args.v (p c.args.x))) (sym (returns-clause-value c))
    (points_met t c.args.x c.args.v (place_inside _ c.args.self.now c.args.x c.self.invariant c.self.view_is c.requires.x) p)

pub returns-clause-bounded : goal.returns-clause-bounded
returns-clause-bounded c = λ limit h w.
    let x = place_inside _ c.args.self.now c.args.x c.self.invariant c.self.view_is c.requires.x in
    subst (IsBoundedAt (limit + limit) c.args.x) (sym (returns-clause-value c)) (met_bounded limit c.args.self.now.table c.args.x c.args.v x w h)

pub returns-clause-bounded_still : goal.returns-clause-bounded_still
returns-clause-bounded_still c = λ limit y q w b.
    let x = place_inside _ c.args.self.now c.args.x c.self.invariant c.self.view_is c.requires.x in
    let other = place_inside _ c.args.self.now y c.self.invariant c.self.view_is q in
    subst (IsBoundedAt (limit + limit) y) (sym (returns-clause-value c)) (met_bounded_still limit c.args.self.now.table c.args.x c.args.v x w y other b)
