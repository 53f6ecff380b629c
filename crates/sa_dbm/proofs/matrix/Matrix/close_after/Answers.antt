use Rattle.std.proofs.Common.{◌≡◌, ◌∙◌, sym, ap, subst, subst₂}
use Rattle.std.specs.Int.{w128}
use Rattle.std.specs.Vec.{with_items}
use Rattle.std.proofs.lemmas.Int.{to_z-of_z}
use Rattle.sa_dbm.specs.Tables.{Table, IsMatrix, tightened}
use Rattle.sa_dbm.specs.Closed.{ClosesTo, LeavesTop}
use Rattle.sa_dbm.specs.Stored.{stored}
use Rattle.sa_dbm.proofs.Soundness.{points_kept}
use Rattle.sa_dbm.proofs.StoredLaws.{vars-stored}
use Rattle.sa_dbm.proofs.TableLaws.{matrix-tightened, vars-tightened}
use Rattle.sa_dbm.proofs.Closures.{left_closed, limits_left}
use Rattle.sa_dbm.proofs.Tightness.{left_tight}
use Rattle.sa_dbm.proofs.MatrixLaws.{items_written, node_inside, vars_kept}
use Rattle.sa_dbm.proofs.matrix.Matrix.close_after.Goals as goal

pub close_after-requires-clause-row : goal.close_after-requires-clause-row
close_after-requires-clause-row c = node_inside c.self.inside.vars c.self.inside.bounds.items c.args.self.now c.args.i c.self.view_is c.requires.row

pub close_after-requires-clause-column : goal.close_after-requires-clause-column
close_after-requires-clause-column c = node_inside c.self.inside.vars c.self.inside.bounds.items c.args.self.now c.args.j c.self.view_is c.requires.column

-- what is seen then is what was stored
now_seen : (c : goal.After-self-1) → stored c.self.inside.vars (with_items c.self.inside.bounds c.close_after.new.bounds).items ≡ stored c.self.inside.vars c.close_after.new.bounds
now_seen c = ap (stored c.self.inside.vars) (items_written c.self.inside.bounds c.close_after.new.bounds (c.close_after.auto.bounds ∙ c.deref_mut.ensures.len))

closes : (c : goal.After-self-1) → ClosesTo (tightened c.args.self.now c.args.i c.args.j c.args.c) c.close_after.result (stored c.self.inside.vars (with_items c.self.inside.bounds c.close_after.new.bounds).items)
closes c =
    let old = ap (λ xs. tightened (stored c.self.inside.vars xs) c.args.i c.args.j c.args.c) c.deref_mut.ensures.value ∙ ap (λ t. tightened t c.args.i c.args.j c.args.c) c.self.view_is in
    subst₂ (λ m t. ClosesTo m c.close_after.result t) old (sym (now_seen c)) (rw (to_z-of_z w128 c.args.c c.ranges.c) at c.close_after.ensures.exact)

was_matrix : (c : goal.After-self-1) → IsMatrix (tightened c.args.self.now c.args.i c.args.j c.args.c)
was_matrix c = matrix-tightened c.args.self.now c.args.i c.args.j c.args.c (subst IsMatrix c.self.view_is c.self.invariant.matrix) c.requires.apart

is_matrix : (c : goal.After-self-1) → IsMatrix (stored c.self.inside.vars (with_items c.self.inside.bounds c.close_after.new.bounds).items)
is_matrix c = subst IsMatrix (sym (now_seen c)) c.close_after.ensures.matrix

emptied : (c : goal.After-self-1) → LeavesTop c.close_after.result (tightened c.args.self.now c.args.i c.args.j c.args.c).vars (stored c.self.inside.vars (with_items c.self.inside.bounds c.close_after.new.bounds).items)
emptied c =
    let same = sym (vars-stored c.self.inside.vars c.self.inside.bounds.items) ∙ ap (λ (t : Table). t.vars) c.self.view_is ∙ sym (vars-tightened c.args.self.now c.args.i c.args.j c.args.c) in
    subst₂ (λ v t. LeavesTop c.close_after.result v t) same (sym (now_seen c)) c.close_after.ensures.empty

pub returns-clause-points : goal.returns-clause-points
returns-clause-points c = points_kept (tightened c.args.self.now c.args.i c.args.j c.args.c) c.close_after.result _ (closes c)

pub returns-clause-closed : goal.returns-clause-closed
returns-clause-closed c = left_closed (tightened c.args.self.now c.args.i c.args.j c.args.c) c.close_after.result _ (was_matrix c) (closes c) (emptied c)

pub returns-clause-tight : goal.returns-clause-tight
returns-clause-tight c = left_tight (tightened c.args.self.now c.args.i c.args.j c.args.c) c.close_after.result _ (was_matrix c) (is_matrix c) (closes c)

pub returns-clause-limits : goal.returns-clause-limits
returns-clause-limits c = limits_left (tightened c.args.self.now c.args.i c.args.j c.args.c) c.close_after.result _ (was_matrix c) (is_matrix c) (closes c) (emptied c)

pub returns-clause-vars : goal.returns-clause-vars
returns-clause-vars c = vars_kept c.self.inside.vars _ c.self.inside.bounds.items c.args.self.now c.self.view_is
