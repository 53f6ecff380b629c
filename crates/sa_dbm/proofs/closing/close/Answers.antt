use Rattle.std.proofs.Common.{◌^◌, ◌≤◌, sym, subst}
use Rattle.sa_dbm.specs.Tables.{IsMatrix, IsWithin}
use Rattle.sa_dbm.specs.Stored.{stored}
use Rattle.sa_dbm.proofs.TableLaws.{matrix-top}
use Rattle.sa_dbm.proofs.StoredLaws.{vars-stored}
use Rattle.sa_dbm.proofs.Soundness.{closed-negative}
use Rattle.sa_dbm.proofs.Closures.{closed_by_steps, empty_by_steps, matrix_by_steps}
use Rattle.sa_dbm.proofs.ClosedLaws.{within_shortest, true_of}
use Rattle.sa_dbm.proofs.closing.close.Goals as goal
use Rattle.sa_dbm.proofs.closing.close.Goals.{else-shorten-via-then-shorten+else-strengthen, else-shorten-via-else-shorten}

pub strengthen-requires-clause-within : goal.strengthen-requires-clause-within
strengthen-requires-clause-within c =
    let m = stored c.args.vars c.args.bounds.now in
    subst (IsWithin (2 ^ 104)) (sym (c.shorten.ensures.walks c.if-shorten.true)) (within_shortest m (2 ^ 100) c.requires.within)

pub returns-then-strengthen-clause-exact : goal.returns-then-strengthen-clause-exact
returns-then-strengthen-clause-exact c =
    closed_by_steps (stored c.args.vars c.args.bounds.now) (stored c.args.vars c.shorten.new.bounds) (stored c.args.vars c.strengthen.new.bounds) c.shorten.result c.strengthen.result
    c.shorten.ensures.answer (c.shorten.ensures.walks c.if-shorten.true) c.strengthen.ensures.answer c.if-shorten.true c.if-strengthen.true (c.strengthen.ensures.bounds c.if-strengthen.true)

pub returns-then-strengthen-clause-matrix : goal.returns-then-strengthen-clause-matrix
returns-then-strengthen-clause-matrix c =
    matrix_by_steps (stored c.args.vars c.args.bounds.now) (stored c.args.vars c.shorten.new.bounds) (stored c.args.vars c.strengthen.new.bounds) c.shorten.result c.strengthen.result
    c.shorten.ensures.answer (c.shorten.ensures.walks c.if-shorten.true) c.strengthen.ensures.answer c.if-shorten.true c.requires.matrix c.if-strengthen.true (c.strengthen.ensures.bounds c.if-strengthen.true)

pub returns-else-shorten-clause-exact : goal.returns-else-shorten-clause-exact
returns-else-shorten-clause-exact c =
    let m = stored c.args.vars c.args.bounds.now in
    elim c.else-shorten.branch [
      | else-shorten-via-then-shorten+else-strengthen w ↦
          empty_by_steps m (stored c.args.vars c.shorten.new.bounds) m c.shorten.result w.strengthen.result
          c.shorten.ensures.answer (c.shorten.ensures.walks w.if-shorten.true) w.strengthen.ensures.answer w.if-shorten.true w.if-strengthen.false
      | else-shorten-via-else-shorten w ↦ closed-negative m (true_of _ c.shorten.result c.shorten.ensures.answer w.if-shorten.false)
    ]

pub returns-else-shorten-clause-matrix : goal.returns-else-shorten-clause-matrix
returns-else-shorten-clause-matrix c = subst IsMatrix (sym c.make_top.ensures) (matrix-top c.args.vars (subst (λ v. 1 ≤ v) (vars-stored c.args.vars c.args.bounds.now) c.requires.matrix.some) c.requires.few)
