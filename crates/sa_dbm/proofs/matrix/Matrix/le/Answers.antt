use Rattle.std.proofs.Common.{◌≡◌, ◌∙◌, ◌↔◌, length, true, subst₂, ap, ap₂}
use Rattle.sa_dbm.specs.Tables.{is_below, IsBelow}
use Rattle.sa_dbm.specs.Stored.{stored}
use Rattle.sa_dbm.proofs.OperationLaws.{order_test, order_fact}
use Rattle.sa_dbm.proofs.MatrixLaws.{same_vars, same_length}
use Rattle.sa_dbm.proofs.matrix.Matrix.le.Goals as goal

pub all_at_most-requires : goal.all_at_most-requires
all_at_most-requires c =
    let same = same_vars c.self.inside.vars c.o.inside.vars c.self.inside.bounds.items c.o.inside.bounds.items c.args.self.now c.args.o.now c.self.view_is c.o.view_is c.requires in
    same_length c.self.inside.vars c.o.inside.vars c.self.inside.bounds.items c.o.inside.bounds.items _ _ c.self.invariant.square c.o.invariant.square c.deref.ensures.value c.deref-2.ensures.value same

pub returns-clause-test : goal.returns-clause-test
returns-clause-test c =
    let vars = c.self.inside.vars in
    let same = same_vars vars c.o.inside.vars c.self.inside.bounds.items c.o.inside.bounds.items c.args.self.now c.args.o.now c.self.view_is c.o.view_is c.requires in
    order_test vars c.deref.result.now c.deref-2.result.now (ap length c.deref.ensures.value ∙ c.self.invariant.square) c.all_at_most.result c.all_at_most.ensures
    ∙ ap₂ is_below (ap (stored vars) c.deref.ensures.value ∙ c.self.view_is) (ap₂ stored same c.deref-2.ensures.value ∙ c.o.view_is)

pub returns-clause-fact : goal.returns-clause-fact
returns-clause-fact c =
    let vars = c.self.inside.vars in
    let same = same_vars vars c.o.inside.vars c.self.inside.bounds.items c.o.inside.bounds.items c.args.self.now c.args.o.now c.self.view_is c.o.view_is c.requires in
    subst₂ (λ m o. (c.all_at_most.result ≡ true) ↔ IsBelow m o) (ap (stored vars) c.deref.ensures.value ∙ c.self.view_is) (ap₂ stored same c.deref-2.ensures.value ∙ c.o.view_is)
    (order_fact vars c.deref.result.now c.deref-2.result.now (ap length c.deref.ensures.value ∙ c.self.invariant.square) c.all_at_most.result c.all_at_most.ensures)
