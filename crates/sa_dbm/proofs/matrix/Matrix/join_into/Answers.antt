use Rattle.std.proofs.Common.{◌≡◌, ◌∙◌, length, sym, subst, ap, ap₂}
use Rattle.sa_dbm.specs.Tables.{IsMatrix, IsWithin, joined}
use Rattle.sa_dbm.specs.Closed.{IsClosed}
use Rattle.sa_dbm.specs.Points.{LiesIn}
use Rattle.sa_dbm.specs.Stored.{stored}
use Rattle.sa_dbm.proofs.TableLaws.{matrix-joined}
use Rattle.sa_dbm.proofs.StoredLaws.{vars-stored}
use Rattle.sa_dbm.proofs.Soundness.{points_joined}
use Rattle.sa_dbm.proofs.Sizes.{within-joined}
use Rattle.sa_dbm.proofs.Closures.{closed-joined}
use Rattle.sa_dbm.proofs.OperationLaws.{joined_stored}
use Rattle.sa_dbm.proofs.MatrixLaws.{seen, stored_again, same_vars, same_length, vars_kept}
use Rattle.sa_dbm.proofs.matrix.Matrix.join_into.Goals as goal

pub raise-requires : goal.raise-requires
raise-requires c =
    let same = same_vars c.self.inside.vars c.o.inside.vars c.self.inside.bounds.items c.o.inside.bounds.items c.args.self.now c.args.o.now c.self.view_is c.o.view_is c.requires in
    same_length c.self.inside.vars c.o.inside.vars c.self.inside.bounds.items c.o.inside.bounds.items _ _ c.self.invariant.square c.o.invariant.square c.deref_mut.ensures.value c.deref.ensures.value same

-- what is stored then, of the two tables that were stored
join_stored : (c : goal.After-self-1) → stored c.self.inside.vars c.raise.new.bounds ≡ joined (stored c.self.inside.vars c.self.inside.bounds.items) (stored c.o.inside.vars c.o.inside.bounds.items)
join_stored c =
    let vars = c.self.inside.vars in
    let same = same_vars vars c.o.inside.vars c.self.inside.bounds.items c.o.inside.bounds.items c.args.self.now c.args.o.now c.self.view_is c.o.view_is c.requires in
    let square = ap length c.deref_mut.ensures.value ∙ c.self.invariant.square in
    joined_stored vars c.deref_mut.result.now c.deref.result.now c.raise.new.bounds square (c.raise.auto.bounds ∙ square) c.raise.ensures
    ∙ ap₂ joined (ap (stored vars) c.deref_mut.ensures.value) (ap₂ stored same c.deref.ensures.value)

pub invariant_of-self : goal.invariant_of-self
invariant_of-self c =
    let same = same_vars c.self.inside.vars c.o.inside.vars c.self.inside.bounds.items c.o.inside.bounds.items c.args.self.now c.args.o.now c.self.view_is c.o.view_is c.requires in
    let vars = vars-stored c.self.inside.vars c.self.inside.bounds.items ∙ same ∙ sym (vars-stored c.o.inside.vars c.o.inside.bounds.items) in
    stored_again c.self.inside.vars c.self.inside.bounds c.raise.new.bounds c.self.invariant (c.raise.auto.bounds ∙ c.deref_mut.ensures.len)
    (subst IsMatrix (sym (join_stored c)) (matrix-joined _ _ c.self.invariant.matrix c.o.invariant.matrix vars))

pub returns-clause-value : goal.returns-clause-value
returns-clause-value c =
    seen c.self.inside.vars c.self.inside.bounds c.raise.new.bounds c.args.self.now _ (c.raise.auto.bounds ∙ c.deref_mut.ensures.len)
    (join_stored c ∙ ap₂ joined c.self.view_is c.o.view_is)

pub returns-clause-points : goal.returns-clause-points
returns-clause-points c = λ p l. subst (LiesIn p) (sym (returns-clause-value c)) (points_joined c.args.self.now c.args.o.now c.requires p l)

pub returns-clause-closed : goal.returns-clause-closed
returns-clause-closed c = λ a b.
    subst IsClosed (sym (returns-clause-value c))
    (closed-joined c.args.self.now c.args.o.now c.requires (subst IsMatrix c.self.view_is c.self.invariant.matrix) (subst IsMatrix c.o.view_is c.o.invariant.matrix) a b)

pub returns-clause-within : goal.returns-clause-within
returns-clause-within c = λ limit h k. subst (IsWithin limit) (sym (returns-clause-value c)) (within-joined limit c.args.self.now c.args.o.now c.requires h k)

pub returns-clause-vars : goal.returns-clause-vars
returns-clause-vars c = vars_kept c.self.inside.vars _ c.self.inside.bounds.items c.args.self.now c.self.view_is
