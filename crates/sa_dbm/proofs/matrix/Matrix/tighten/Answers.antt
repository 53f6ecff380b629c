use Rattle.std.proofs.Common.{◌∙◌, ◌-ℤ◌, ◌≤ℤ◌, ◌↔◌, sym, subst, ap}
use Rattle.std.specs.Int.{w128}
use Rattle.std.proofs.lemmas.Int.{to_z-of_z}
use Rattle.sa_dbm.specs.Tables.{IsMatrix, IsWithin, tightened}
use Rattle.sa_dbm.specs.Points.{LiesIn, value}
use Rattle.sa_dbm.specs.Stored.{stored}
use Rattle.sa_dbm.proofs.TableLaws.{matrix-tightened}
use Rattle.sa_dbm.proofs.Soundness.{points_tightened}
use Rattle.sa_dbm.proofs.Sizes.{within-tightened}
use Rattle.sa_dbm.proofs.MatrixLaws.{seen, stored_again, node_inside, vars_kept}
use Rattle.sa_dbm.proofs.matrix.Matrix.tighten.Goals as goal

pub tighten-requires-clause-row : goal.tighten-requires-clause-row
tighten-requires-clause-row c = node_inside c.self.inside.vars c.self.inside.bounds.items c.args.self.now c.args.i c.self.view_is c.requires.row

pub tighten-requires-clause-column : goal.tighten-requires-clause-column
tighten-requires-clause-column c = node_inside c.self.inside.vars c.self.inside.bounds.items c.args.self.now c.args.j c.self.view_is c.requires.column

pub invariant_of-self : goal.invariant_of-self
invariant_of-self c =
    let old = ap (stored c.self.inside.vars) c.deref_mut.ensures.value in
    stored_again c.self.inside.vars c.self.inside.bounds c.tighten.new.bounds c.self.invariant (c.tighten.auto.bounds ∙ c.deref_mut.ensures.len)
    (subst IsMatrix (sym (rw (to_z-of_z w128 c.args.c c.ranges.c) at c.tighten.ensures ∙ ap (λ t. tightened t c.args.i c.args.j c.args.c) old)) (matrix-tightened _ c.args.i c.args.j c.args.c c.self.invariant.matrix c.requires.apart))

pub returns-clause-points : goal.returns-clause-points
returns-clause-points c = λ p.
    let old = ap (stored c.self.inside.vars) c.deref_mut.ensures.value ∙ c.self.view_is in
    let new = seen c.self.inside.vars c.self.inside.bounds c.tighten.new.bounds c.args.self.now _ (c.tighten.auto.bounds ∙ c.deref_mut.ensures.len) (rw (to_z-of_z w128 c.args.c c.ranges.c) at c.tighten.ensures ∙ ap (λ t. tightened t c.args.i c.args.j c.args.c) old) in
    subst (λ t. LiesIn p t ↔ (LiesIn p c.args.self.now × ((value p c.args.j -ℤ value p c.args.i) ≤ℤ c.args.c))) (sym new)
    (points_tightened c.args.self.now c.args.i c.args.j c.args.c c.requires.row c.requires.column p)

pub returns-clause-within : goal.returns-clause-within
returns-clause-within c =
    let old = ap (stored c.self.inside.vars) c.deref_mut.ensures.value ∙ c.self.view_is in
    let new = seen c.self.inside.vars c.self.inside.bounds c.tighten.new.bounds c.args.self.now _ (c.tighten.auto.bounds ∙ c.deref_mut.ensures.len) (rw (to_z-of_z w128 c.args.c c.ranges.c) at c.tighten.ensures ∙ ap (λ t. tightened t c.args.i c.args.j c.args.c) old) in
    λ limit h k. subst (IsWithin limit) (sym new) (within-tightened limit c.args.self.now c.args.i c.args.j c.args.c h k)

pub returns-clause-vars : goal.returns-clause-vars
returns-clause-vars c = vars_kept c.self.inside.vars _ c.self.inside.bounds.items c.args.self.now c.self.view_is
