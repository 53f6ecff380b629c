use Rattle.std.proofs.Common.{◌≡◌, ◌∙◌, sym, ap, subst, subst₂}
use Rattle.std.specs.Vec.{with_items}
use Rattle.sa_dbm.specs.Tables.{Table, IsMatrix}
use Rattle.sa_dbm.specs.Closed.{ClosesTo, LeavesTop}
use Rattle.sa_dbm.specs.Stored.{stored}
use Rattle.sa_dbm.proofs.WalkLaws.{least_totals}
use Rattle.sa_dbm.proofs.Soundness.{points_kept}
use Rattle.sa_dbm.proofs.StoredLaws.{vars-stored}
use Rattle.sa_dbm.proofs.Closures.{left_closed, limits_left}
use Rattle.sa_dbm.proofs.Tightness.{left_tight}
use Rattle.sa_dbm.proofs.MatrixLaws.{items_written, vars_kept}
use Rattle.sa_dbm.proofs.matrix.Matrix.close.Goals as goal

-- what is seen then is what was stored
now_seen : (c : goal.After-self-1) → stored c.self.inside.vars (with_items c.self.inside.bounds c.close.new.bounds).items ≡ stored c.self.inside.vars c.close.new.bounds
now_seen c = ap (stored c.self.inside.vars) (items_written c.self.inside.bounds c.close.new.bounds (c.close.auto.bounds ∙ c.deref_mut.ensures.len))

closes : (c : goal.After-self-1) → ClosesTo c.args.self.now c.close.result (stored c.self.inside.vars (with_items c.self.inside.bounds c.close.new.bounds).items)
closes c =
    let old = ap (stored c.self.inside.vars) c.deref_mut.ensures.value ∙ c.self.view_is in
    subst₂ (λ m t. ClosesTo m c.close.result t) old (sym (now_seen c)) c.close.ensures.exact

was_matrix : (c : goal.After-self-1) → IsMatrix c.args.self.now
was_matrix c = subst IsMatrix c.self.view_is c.self.invariant.matrix

is_matrix : (c : goal.After-self-1) → IsMatrix (stored c.self.inside.vars (with_items c.self.inside.bounds c.close.new.bounds).items)
is_matrix c = subst IsMatrix (sym (now_seen c)) c.close.ensures.matrix

emptied : (c : goal.After-self-1) → LeavesTop c.close.result c.args.self.now.vars (stored c.self.inside.vars (with_items c.self.inside.bounds c.close.new.bounds).items)
emptied c =
    let same = sym (vars-stored c.self.inside.vars c.self.inside.bounds.items) ∙ ap (λ (t : Table). t.vars) c.self.view_is in
    subst₂ (λ v t. LeavesTop c.close.result v t) same (sym (now_seen c)) c.close.ensures.empty

pub returns-clause-walks : goal.returns-clause-walks
returns-clause-walks c = λ i j p q. least_totals c.args.self.now 16 i j p q

pub returns-clause-points : goal.returns-clause-points
returns-clause-points c = points_kept c.args.self.now c.close.result _ (closes c)

pub returns-clause-closed : goal.returns-clause-closed
returns-clause-closed c = left_closed c.args.self.now c.close.result _ (was_matrix c) (closes c) (emptied c)

pub returns-clause-tight : goal.returns-clause-tight
returns-clause-tight c = left_tight c.args.self.now c.close.result _ (was_matrix c) (is_matrix c) (closes c)

pub returns-clause-limits : goal.returns-clause-limits
returns-clause-limits c = limits_left c.args.self.now c.close.result _ (was_matrix c) (is_matrix c) (closes c) (emptied c)

pub returns-clause-vars : goal.returns-clause-vars
returns-clause-vars c = vars_kept c.self.inside.vars _ c.self.inside.bounds.items c.args.self.now c.self.view_is
