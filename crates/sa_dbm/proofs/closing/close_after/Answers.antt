use Rattle.std.proofs.Common.{◌^◌, ◌≤◌, sym, subst}
use Rattle.std.specs.Int.{w128}
use Rattle.std.proofs.lemmas.Int.{to_z-of_z}
use Rattle.sa_dbm.specs.Tables.{IsMatrix, IsWithin, tightened}
use Rattle.sa_dbm.specs.Stored.{stored}
use Rattle.sa_dbm.proofs.TableLaws.{matrix-top, matrix-tightened}
use Rattle.sa_dbm.proofs.StoredLaws.{vars-stored}
use Rattle.sa_dbm.proofs.Soundness.{closed-negative}
use Rattle.sa_dbm.proofs.Sizes.{within-tightened}
use Rattle.sa_dbm.proofs.Closures.{closed_by_steps, empty_by_steps, matrix_by_steps}
use Rattle.sa_dbm.proofs.ClosedLaws.{within_shortest, true_of}
use Rattle.sa_dbm.proofs.closing.close_after.Goals as goal
use Rattle.sa_dbm.proofs.closing.close_after.Goals.{else-add_arcs-via-then-add_arcs+else-strengthen, else-add_arcs-via-else-add_arcs}

pub strengthen-requires-clause-within : goal.strengthen-requires-clause-within
strengthen-requires-clause-within c =
    let m = stored c.args.vars c.args.bounds.now in
    let totals = rw (to_z-of_z w128 c.args.c c.ranges.c) at c.add_arcs.ensures.walks c.if-add_arcs.true in
    subst (IsWithin (2 ^ 104)) (sym totals)
    (within_shortest (tightened m c.args.i c.args.j c.args.c) (2 ^ 100) (within-tightened (2 ^ 100) m c.args.i c.args.j c.args.c c.requires.within c.requires.c))

pub returns-then-strengthen-clause-exact : goal.returns-then-strengthen-clause-exact
returns-then-strengthen-clause-exact c =
    let number = to_z-of_z w128 c.args.c c.ranges.c in
    closed_by_steps (tightened (stored c.args.vars c.args.bounds.now) c.args.i c.args.j c.args.c) (stored c.args.vars c.add_arcs.new.bounds) (stored c.args.vars c.strengthen.new.bounds) c.add_arcs.result c.strengthen.result
    (rw number at c.add_arcs.ensures.answer) (rw number at c.add_arcs.ensures.walks c.if-add_arcs.true) c.strengthen.ensures.answer c.if-add_arcs.true c.if-strengthen.true (c.strengthen.ensures.bounds c.if-strengthen.true)

pub returns-then-strengthen-clause-matrix : goal.returns-then-strengthen-clause-matrix
returns-then-strengthen-clause-matrix c =
    let number = to_z-of_z w128 c.args.c c.ranges.c in
    let m = stored c.args.vars c.args.bounds.now in
    matrix_by_steps (tightened m c.args.i c.args.j c.args.c) (stored c.args.vars c.add_arcs.new.bounds) (stored c.args.vars c.strengthen.new.bounds) c.add_arcs.result c.strengthen.result
    (rw number at c.add_arcs.ensures.answer) (rw number at c.add_arcs.ensures.walks c.if-add_arcs.true) c.strengthen.ensures.answer c.if-add_arcs.true
    (matrix-tightened m c.args.i c.args.j c.args.c c.requires.matrix c.requires.apart) c.if-strengthen.true (c.strengthen.ensures.bounds c.if-strengthen.true)

pub returns-else-add_arcs-clause-exact : goal.returns-else-add_arcs-clause-exact
returns-else-add_arcs-clause-exact c =
    let number = to_z-of_z w128 c.args.c c.ranges.c in
    let m = tightened (stored c.args.vars c.args.bounds.now) c.args.i c.args.j c.args.c in
    elim c.else-add_arcs.branch [
      | else-add_arcs-via-then-add_arcs+else-strengthen w ↦
          empty_by_steps m (stored c.args.vars c.add_arcs.new.bounds) m c.add_arcs.result w.strengthen.result
          (rw number at c.add_arcs.ensures.answer) (rw number at c.add_arcs.ensures.walks w.if-add_arcs.true) w.strengthen.ensures.answer w.if-add_arcs.true w.if-strengthen.false
      | else-add_arcs-via-else-add_arcs w ↦ closed-negative m (true_of _ c.add_arcs.result (rw number at c.add_arcs.ensures.answer) w.if-add_arcs.false)
    ]

pub returns-else-add_arcs-clause-matrix : goal.returns-else-add_arcs-clause-matrix
returns-else-add_arcs-clause-matrix c = subst IsMatrix (sym c.make_top.ensures) (matrix-top c.args.vars (subst (λ v. 1 ≤ v) (vars-stored c.args.vars c.args.bounds.now) c.requires.matrix.some) c.requires.few)
