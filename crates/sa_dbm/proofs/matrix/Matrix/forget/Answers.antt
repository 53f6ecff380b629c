use Rattle.std.proofs.Common.{◌∙◌, sym, subst, ap}
use Rattle.sa_dbm.specs.Tables.{IsMatrix, IsWithin, forgotten}
use Rattle.sa_dbm.specs.Points.{LiesIn, with_value}
use Rattle.sa_dbm.specs.Stored.{stored}
use Rattle.sa_dbm.proofs.TableLaws.{matrix-forgotten}
use Rattle.sa_dbm.proofs.Soundness.{points_forgotten}
use Rattle.sa_dbm.proofs.Sizes.{within-forgotten}
use Rattle.sa_dbm.proofs.MatrixLaws.{seen, stored_again, var_inside, vars_kept}
use Rattle.sa_dbm.proofs.matrix.Matrix.forget.Goals as goal

pub forget-requires-clause-var : goal.forget-requires-clause-var
forget-requires-clause-var c = var_inside c.self.inside.vars c.self.inside.bounds.items c.args.self.now c.args.var c.self.view_is c.requires.var

pub invariant_of-self : goal.invariant_of-self
invariant_of-self c =
    let old = ap (stored c.self.inside.vars) c.deref_mut.ensures.value in
    stored_again c.self.inside.vars c.self.inside.bounds c.forget.new.bounds c.self.invariant (c.forget.auto.bounds ∙ c.deref_mut.ensures.len)
    (subst IsMatrix (sym (c.forget.ensures ∙ ap (λ t. forgotten t c.args.var) old)) (matrix-forgotten _ c.args.var c.self.invariant.matrix))

pub returns-clause-points : goal.returns-clause-points
returns-clause-points c = λ p z l.
    let old = ap (stored c.self.inside.vars) c.deref_mut.ensures.value ∙ c.self.view_is in
    let new = seen c.self.inside.vars c.self.inside.bounds c.forget.new.bounds c.args.self.now _ (c.forget.auto.bounds ∙ c.deref_mut.ensures.len) (c.forget.ensures ∙ ap (λ t. forgotten t c.args.var) old) in
    subst (LiesIn (with_value p c.args.var z)) (sym new) (points_forgotten c.args.self.now c.args.var p z l)

pub returns-clause-within : goal.returns-clause-within
returns-clause-within c =
    let old = ap (stored c.self.inside.vars) c.deref_mut.ensures.value ∙ c.self.view_is in
    let new = seen c.self.inside.vars c.self.inside.bounds c.forget.new.bounds c.args.self.now _ (c.forget.auto.bounds ∙ c.deref_mut.ensures.len) (c.forget.ensures ∙ ap (λ t. forgotten t c.args.var) old) in
    λ limit h. subst (IsWithin limit) (sym new) (within-forgotten limit c.args.self.now c.args.var h)

pub returns-clause-vars : goal.returns-clause-vars
returns-clause-vars c = vars_kept c.self.inside.vars _ c.self.inside.bounds.items c.args.self.now c.self.view_is
