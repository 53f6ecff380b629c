use Rattle.std.proofs.Common.{◌+◌, unsigned_abs, arith, ◌∙◌, ◌↔◌, sym, subst, ap}
use Rattle.std.specs.Int.{w128}
use Rattle.std.proofs.lemmas.Int.{to_z-of_z}
use Rattle.sa_dbm.specs.Tables.{IsMatrix, IsWithin, shifted}
use Rattle.sa_dbm.specs.Points.{LiesIn, moved}
use Rattle.sa_dbm.specs.Stored.{stored}
use Rattle.sa_dbm.proofs.TableLaws.{matrix-shifted}
use Rattle.sa_dbm.proofs.Soundness.{points_shifted}
use Rattle.sa_dbm.proofs.Sizes.{within-shifted}
use Rattle.sa_dbm.proofs.MatrixLaws.{seen, stored_again, var_inside, vars_kept}
use Rattle.sa_dbm.proofs.matrix.Matrix.shift.Goals as goal

pub shift-requires-clause-var : goal.shift-requires-clause-var
shift-requires-clause-var c = var_inside c.self.inside.vars c.self.inside.bounds.items c.args.self.now c.args.var c.self.view_is c.requires.var

pub invariant_of-self : goal.invariant_of-self
invariant_of-self c =
    let old = ap (stored c.self.inside.vars) c.deref_mut.ensures.value in
    stored_again c.self.inside.vars c.self.inside.bounds c.shift.new.bounds c.self.invariant (c.shift.auto.bounds ∙ c.deref_mut.ensures.len)
    (subst IsMatrix (sym (rw (to_z-of_z w128 c.args.c c.ranges.c) at c.shift.ensures ∙ ap (λ t. shifted t c.args.var c.args.c) old)) (matrix-shifted _ c.args.var c.args.c c.self.invariant.matrix))

pub returns-clause-points : goal.returns-clause-points
returns-clause-points c = λ p.
    let old = ap (stored c.self.inside.vars) c.deref_mut.ensures.value ∙ c.self.view_is in
    let new = seen c.self.inside.vars c.self.inside.bounds c.shift.new.bounds c.args.self.now _ (c.shift.auto.bounds ∙ c.deref_mut.ensures.len) (rw (to_z-of_z w128 c.args.c c.ranges.c) at c.shift.ensures ∙ ap (λ t. shifted t c.args.var c.args.c) old) in
    subst (λ t. LiesIn p c.args.self.now ↔ LiesIn (moved p c.args.var c.args.c) t) (sym new) (points_shifted c.args.self.now c.args.var c.args.c p)

pub returns-clause-within : goal.returns-clause-within
returns-clause-within c =
    let old = ap (stored c.self.inside.vars) c.deref_mut.ensures.value ∙ c.self.view_is in
    let new = seen c.self.inside.vars c.self.inside.bounds c.shift.new.bounds c.args.self.now _ (c.shift.auto.bounds ∙ c.deref_mut.ensures.len) (rw (to_z-of_z w128 c.args.c c.ranges.c) at c.shift.ensures ∙ ap (λ t. shifted t c.args.var c.args.c) old) in
    λ limit h. subst (IsWithin (limit + (unsigned_abs c.args.c + unsigned_abs c.args.c))) (sym new) (within-shifted limit (unsigned_abs c.args.c) c.args.self.now c.args.var c.args.c h (omega arith))

pub returns-clause-vars : goal.returns-clause-vars
returns-clause-vars c = vars_kept c.self.inside.vars _ c.self.inside.bounds.items c.args.self.now c.self.view_is
